-- Settings one behind the other.
use Rattle.std.proofs.Common.{◌≡◌, ℕ, ◌+◌, ◌^◌, ◌<◌, Bool, true, false, not, ◌||◌, List, [], ◌∷◌, ◌++◌, length, refl, sym, ap, ◌∙◌, ◌⊎◌, inl, inr, append_assoc}
use Rattle.std.specs.Prelude.{Result, Ok, Err, IfOk}
use Rattle.std.specs.List.{list_any}
use Rattle.std.proofs.lemmas.Bool.{and_parts, and_from, and_right, lt-ltb, le-leb, lt-leb, false≢true}
use Rattle.std.proofs.lemmas.List.{append-nil}
use Rattle.x64_syntax.specs.declared.places.MachinePlace.{MachinePlace}
use Rattle.x64_syntax.specs.declared.places.MachinePlace.TheVariants.{Reg, Xmm, Flag}
use Rattle.x64_syntax.specs.Places.{place_eq}
use Rattle.x64_syntax.specs.PlaceSets.{in_set}
use Rattle.x64_blocks.specs.Memory.{Range, meets}
use Rattle.x64_meaning.specs.State.{State}
use Rattle.x64_evaluator.specs.declared.state.StateReader.{StateReader}
use Rattle.x64_evaluator.specs.StateFile.{Setting, Value, Block, limit, are_bytes, fits, clashes, may_follow, may_stand, with_setting, with_settings, fresh}
use Rattle.x64_evaluator.specs.inner.Setting.{Holds, Takes, Adds, sets}

pub put_more : (s : State) (xs : List Setting) (x : Setting) → with_settings s (xs ++ x ∷ []) ≡ with_setting (with_settings s xs) x
put_more s [] x = refl
put_more s (y ∷ ys) x = put_more (with_setting s y) ys x

any_more : (p : Setting → Bool) (xs : List Setting) (x : Setting) → list_any p (xs ++ x ∷ []) ≡ (p x || list_any p xs)
any_more p [] x = last (p x) where
  last : (b : Bool) → (b || false) ≡ (b || false)
  last b = refl
any_more p (y ∷ ys) x = ap (λ b. p y || b) (any_more p ys x) ∙ turn (p y) (p x) (list_any p ys) where
  turn : (a b c : Bool) → (a || (b || c)) ≡ (b || (a || c))
  turn true true c = refl
  turn true false c = refl
  turn false true c = refl
  turn false false c = refl

pub allowed_more : (before ss : List Setting) (s : Setting) → may_stand before ss ≡ true → may_follow (before ++ ss) s ≡ true → may_stand before (ss ++ s ∷ []) ≡ true
allowed_more before [] s h k = and_from _ _ (ap (λ l. may_follow l s) (sym (append-nil before)) ∙ k) refl
allowed_more before (t ∷ ts) s h k =
    let p = and_parts (may_follow before t) _ h in
    and_from _ _ p.0 (allowed_more (before ++ t ∷ []) ts s p.1 (ap (λ l. may_follow l s) (append_assoc before (t ∷ []) ts) ∙ k))

-- whether a value clashes doesn't depend on the number
same_clash : (p : MachinePlace) (n : ℕ) (ss : List Setting) → list_any (clashes (Value p n)) ss ≡ list_any (sets p) ss
same_clash p n [] = refl
same_clash p n (Value q m ∷ ss) = ap (λ b. place_eq p q || b) (same_clash p n ss)
same_clash p n (Block b ∷ ss) = same_clash p n ss

-- a block clashes with the blocks of the state
meets_all : (b : Range) (s : State) (ss : List Setting) → list_any (meets b) (with_settings s ss).blocks ≡ (list_any (meets b) s.blocks || list_any (clashes (Block b)) ss)
meets_all b s [] = last (list_any (meets b) s.blocks) where
  last : (x : Bool) → x ≡ (x || false)
  last true = refl
  last false = refl
meets_all b s (Value (Reg r) n ∷ ss) = meets_all b (with_setting s (Value (Reg r) n)) ss
meets_all b s (Value (Xmm x) n ∷ ss) = meets_all b (with_setting s (Value (Xmm x) n)) ss
meets_all b s (Value (Flag f) n ∷ ss) = meets_all b (with_setting s (Value (Flag f) n)) ss
meets_all b s (Block c ∷ ss) =
    meets_all b (with_setting s (Block c)) ss ∙ ap (λ x. x || list_any (clashes (Block b)) ss) (more s.blocks) ∙ turn (meets b c) (list_any (meets b) s.blocks) (list_any (clashes (Block b)) ss)
  where
    more : (bs : List Range) → list_any (meets b) (bs ++ c ∷ []) ≡ (meets b c || list_any (meets b) bs)
    more [] = refl
    more (d ∷ ds) = ap (λ x. meets b d || x) (more ds) ∙ swap (meets b d) (meets b c) (list_any (meets b) ds) where
      swap : (a b c : Bool) → (a || (b || c)) ≡ (b || (a || c))
      swap true true c = refl
      swap true false c = refl
      swap false true c = refl
      swap false false c = refl

    turn : (x y z : Bool) → ((x || y) || z) ≡ (y || (x || z))
    turn true true z = refl
    turn true false z = refl
    turn false true z = refl
    turn false false z = refl

pub blocks_meet : (b : Range) (ss : List Setting) → list_any (meets b) (with_settings fresh ss).blocks ≡ list_any (clashes (Block b)) ss
blocks_meet b ss = meets_all b fresh ss

follows : (ss : List Setting) (s : Setting) → fits s ≡ true → list_any (clashes s) ss ≡ false → may_follow ss s ≡ true
follows ss s fit none = and_from _ _ fit (ap not none)

clashing : (ss : List Setting) (s : Setting) → list_any (clashes s) ss ≡ true → may_follow ss s ≡ true → ⊥
clashing ss s some_ h = false≢true (sym (ap not some_) ∙ (and_parts (fits s) _ h).1)

-- a value that its place has not yet
pub value_taken : (ss : List Setting) (p : MachinePlace) (n : ℕ) (old new : StateReader) → Holds ss old → n < limit p → in_set old.set p ≡ false → new.machine ≡ with_setting old.machine (Value p n) → ((q : MachinePlace) → in_set new.set q ≡ (place_eq q p || in_set old.set q)) → Takes ss (λ s. s ≡ Value p n) true new
value_taken ss p n old new h lt none machine places = (
  Value p n,
  refl,
  follows ss (Value p n) (lt-ltb n (limit p) lt) (same_clash p n ss ∙ sym (h.places p) ∙ none),
  record {
    machine = machine ∙ ap (λ s. with_setting s (Value p n)) h.machine ∙ sym (put_more fresh ss (Value p n));
    places = λ q. places q ∙ ap (λ b. place_eq q p || b) (h.places q) ∙ sym (any_more (sets q) ss (Value p n));
  },
)

pub value_refused : (ss : List Setting) (p : MachinePlace) (n : ℕ) (old new : StateReader) → Holds ss old → in_set old.set p ≡ true → Takes ss (λ s. s ≡ Value p n) false new
value_refused ss p n old new h some_ s is follow =
    clashing ss (Value p n) (same_clash p n ss ∙ sym (h.places p) ∙ some_) (ap (may_follow ss) (sym is) ∙ follow)

-- a block more
pub block_taken : (ss : List Setting) (b : Range) (yes : Bool) (old new : StateReader) → Holds ss old → are_bytes b ≡ true → Adds old.machine b yes new.machine → new.set ≡ old.set → Takes ss (λ s. s ≡ Block b) yes new
block_taken ss b true old new h are adds same = (
  Block b,
  refl,
  follows ss (Block b) (and_from _ _ are (le-leb _ _ adds.0)) (sym (blocks_meet b ss) ∙ ap (λ s. list_any (meets b) s.blocks) (sym h.machine) ∙ adds.1),
  record {
    machine = adds.2 ∙ ap (λ s. with_setting s (Block b)) h.machine ∙ sym (put_more fresh ss (Block b));
    places = λ q. ap (λ s. in_set s q) same ∙ h.places q ∙ sym (any_more (sets q) ss (Block b));
  },
)
block_taken ss b false old new h are adds same = refused adds
  where
    refused : (2 ^ 64 < b.base + length b.bytes) ⊎ (list_any (meets b) old.machine.blocks ≡ true) → (s : Setting) → s ≡ Block b → may_follow ss s ≡ true → ⊥
    refused (inl past) s is k = false≢true (sym (and_right (are_bytes b) _ (lt-leb _ _ past)) ∙ (and_parts (fits (Block b)) _ (ap (may_follow ss) (sym is) ∙ k)).0)
    refused (inr overlap) s is k =
        clashing ss (Block b) (sym (blocks_meet b ss) ∙ ap (λ s. list_any (meets b) s.blocks) (sym h.machine) ∙ overlap) (ap (may_follow ss) (sym is) ∙ k)

pub add_taken : {E : Type 0} (ss : List Setting) (b : Range) (r : Result Bool E) (old new : StateReader) → Holds ss old → are_bytes b ≡ true → IfOk r (λ yes. Adds old.machine b yes new.machine) → new.set ≡ old.set → IfOk r (λ yes. Takes ss (λ s. s ≡ Block b) yes new)
add_taken ss b (Ok t) old new h are adds same = block_taken ss b t old new h are adds same
add_taken ss b (Err e) old new h are adds same = tt
