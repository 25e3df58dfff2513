-- The first place of a list at which a test passes, and the block that holds an access.
use Rattle.std.proofs.Common.{◌≡◌, ℕ, zero, suc, ◌+◌, ◌<◌, ◌≤◌, Bool, true, false, not, List, [], ◌∷◌, length, refl, sym, ap, ◌∙◌, arith, cond, ◌⊎◌, inl, inr, leb}
use Rattle.std.specs.Prelude.{◌==◌, ◌≢◌, Some, None, slice_get, nat_lt, position}
use Rattle.std.specs.List.{position_or_len}
use Rattle.std.proofs.lemmas.Bool.{lt-ltb, le-leb, false≢true, and_parts, and_from, leb-true}
use Rattle.std.proofs.lemmas.Bool.Decides.{leb_tells, eqb_tells}
use Rattle.std.proofs.lemmas.List.{get_or_past}
use Rattle.std.proofs.lemmas.Option.{get_or_from_slice_get, slice_get-get_or, same_Some}
use Rattle.x64_blocks.specs.Memory.{Range, holds, block_at}
use Rattle.x64_meaning.specs.State.{State, IsState}
use Rattle.code_lower.specs.Guarded.{is_at}

-- the first place at which it passes
pub record Passes {X : Type 0} (p : X → Bool) (xs : List X) : Type 0 where
  pub at : ℕ
  pub item : X
  pub first_is : position_or_len p xs ≡ at
  pub within : at < length xs
  pub here : slice_get xs at ≡ Some item
  pub passes : p item ≡ true

-- it passes nowhere
pub record Fails {X : Type 0} (p : X → Bool) (xs : List X) : Type 0 where
  pub none : position_or_len p xs ≡ length xs
  pub each : (k : ℕ) (x : X) → slice_get xs k ≡ Some x → p x ≡ false

below_itself : (n : ℕ) → nat_lt n n ≡ false
below_itself n = by (leb_tells (suc n) n) where
  by : ((leb (suc n) n ≡ true) × (suc n ≤ n)) ⊎ ((leb (suc n) n ≡ false) × (n < suc n)) → nat_lt n n ≡ false
  by (inl p) = absurd (let le = p.1 in omega (arith, le))
  by (inr p) = p.0

module _ {X : Type 0} (p : X → Bool) where
  passes_here : (y : X) (ys : List X) → p y ≡ true → Passes p (y ∷ ys)
  passes_here y ys e = record {
    at = 0;
    item = y;
    first_is = ap (λ b. cond (not b) (1 + position_or_len p ys) 0) e;
    within = omega arith;
    here = refl;
    passes = e;
  }

  passes_behind : (y : X) (ys : List X) → p y ≡ false → Passes p ys → Passes p (y ∷ ys)
  passes_behind y ys e f =
      let one : 1 + position_or_len p ys ≡ suc f.at = let is = f.first_is in omega (arith, is) in
      record {
        at = suc f.at;
        item = f.item;
        first_is = ap (λ b. cond (not b) (1 + position_or_len p ys) 0) e ∙ one;
        within = let lt = f.within in omega (arith, lt);
        here = f.here;
        passes = f.passes;
      }

  fails_behind : (y : X) (ys : List X) → p y ≡ false → Fails p ys → Fails p (y ∷ ys)
  fails_behind y ys e f =
      let one : 1 + position_or_len p ys ≡ length (y ∷ ys) = let is = f.none in omega (arith, is) in
      record {
        none = ap (λ b. cond (not b) (1 + position_or_len p ys) 0) e ∙ one;
        each = each;
      }
    where
      each : (k : ℕ) (x : X) → slice_get (y ∷ ys) k ≡ Some x → p x ≡ false
      each zero x h = ap p (sym (same_Some _ _ h)) ∙ e
      each (suc k) x h = f.each k x h

  pub first : (xs : List X) → Passes p xs ⊎ Fails p xs
  first [] = inr (record { none = refl; each = λ k x h. absurd cc })
  first (y ∷ ys) = by_test (first ys) (p y) refl
    where
      behind : p y ≡ false → Passes p ys ⊎ Fails p ys → Passes p (y ∷ ys) ⊎ Fails p (y ∷ ys)
      behind e (inl f) = inl (passes_behind y ys e f)
      behind e (inr f) = inr (fails_behind y ys e f)

      by_test : Passes p ys ⊎ Fails p ys → (b : Bool) → p y ≡ b → Passes p (y ∷ ys) ⊎ Fails p (y ∷ ys)
      by_test rest true e = inl (passes_here y ys e)
      by_test rest false e = behind e rest

  pub position_is : (xs : List X) (f : Passes p xs) → position p xs ≡ Some f.at
  position_is xs f =
      ap (λ n. cond (nat_lt n (length xs)) (Some n) None) f.first_is ∙ ap (λ b. cond b (Some f.at) None) (lt-ltb _ _ f.within)

  pub position_none : (xs : List X) → Fails p xs → position p xs ≡ None
  position_none xs f =
      ap (λ n. cond (nat_lt n (length xs)) (Some n) None) f.none ∙ ap (λ b. cond b (Some (length xs)) None) (below_itself (length xs))

-- a block that holds an access holds its first byte
first_byte : (a size : ℕ) (b : Range) → 0 < size → holds a size b ≡ true → holds a 1 b ≡ true
first_byte a size b some_ h =
    let p = and_parts (leb b.base a) (leb (a + size) (b.base + length b.bytes)) h in
    let end = leb-true (a + size) (b.base + length b.bytes) p.1 in
    and_from _ _ p.0 (le-leb (a + 1) (b.base + length b.bytes) (omega (arith, end, some_)))

none_in_none : (a size : ℕ) → 0 < size → holds a size (record { base = 0; bytes = [] }) ≡ true → ⊥
none_in_none a size some_ h =
    let end = leb-true (a + size) 0 (and_parts (leb 0 a) (leb (a + size) 0) h).1 in
    omega (arith, end, some_)

-- in a state of the machine the first block that holds an access is the only one
pub named_block : (s : State) (k a size : ℕ) → IsState s → 0 < size → is_at k (position (holds a size) s.blocks) ≡ holds a size (block_at s.blocks k)
named_block s k a size ok some_ = by_first (first (holds a size) s.blocks)
  where
    at_other : (j : ℕ) (b : Range) → slice_get s.blocks j ≡ Some b → holds a size b ≡ true → (x : Bool) → holds a size (block_at s.blocks k) ≡ x → (((j == k) ≡ true) × (j ≡ k)) ⊎ (((j == k) ≡ false) × (j ≢ k)) → (j == k) ≡ x
    at_other j b here h true e t =
        let c = ap (λ r. holds a size r) (get_or_from_slice_get s.blocks j b _ here) ∙ h in
        let same = ok.blocks.apart a j k (first_byte a size (block_at s.blocks j) some_ c) (first_byte a size (block_at s.blocks k) some_ e) in
        by_tell t same
      where
        by_tell : (((j == k) ≡ true) × (j ≡ k)) ⊎ (((j == k) ≡ false) × (j ≢ k)) → j ≡ k → (j == k) ≡ true
        by_tell (inl p) same = p.0
        by_tell (inr p) same = absurd (p.1 same)
    at_other j b here h false e (inl t) =
        absurd (false≢true (sym e ∙ ap (λ n. holds a size (block_at s.blocks n)) (sym t.1) ∙ ap (λ r. holds a size r) (get_or_from_slice_get s.blocks j b _ here) ∙ h))
    at_other j b here h false e (inr t) = t.0

    nowhere : Fails (holds a size) s.blocks → (x : Bool) → holds a size (block_at s.blocks k) ≡ x → false ≡ x
    nowhere f false e = refl
    nowhere f true e = by_range (leb_tells (suc k) (length s.blocks))
      where
        by_range : ((leb (suc k) (length s.blocks) ≡ true) × (suc k ≤ length s.blocks)) ⊎ ((leb (suc k) (length s.blocks) ≡ false) × (length s.blocks < suc k)) → false ≡ true
        by_range (inl p) = sym (f.each k (block_at s.blocks k) (slice_get-get_or s.blocks k _ (let le = p.1 in omega (arith, le)))) ∙ e
        by_range (inr p) =
            let past : block_at s.blocks k ≡ record { base = 0; bytes = [] } = get_or_past s.blocks k _ (let lt = p.1 in omega (arith, lt)) in
            absurd (none_in_none a size some_ (ap (λ r. holds a size r) (sym past) ∙ e))

    by_first : Passes (holds a size) s.blocks ⊎ Fails (holds a size) s.blocks → is_at k (position (holds a size) s.blocks) ≡ holds a size (block_at s.blocks k)
    by_first (inl f) = ap (is_at k) (position_is (holds a size) s.blocks f) ∙ at_other f.at f.item f.here f.passes (holds a size (block_at s.blocks k)) refl (eqb_tells f.at k)
    by_first (inr f) = ap (is_at k) (position_none (holds a size) s.blocks f) ∙ nowhere f (holds a size (block_at s.blocks k)) refl
