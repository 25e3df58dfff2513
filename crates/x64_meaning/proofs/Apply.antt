-- What the equations of an instruction leave.
use Rattle.std.proofs.Common.{◌≡◌, ℕ, ◌≤◌, pos, Bool, true, false, not, List, [], ◌∷◌, refl, sym, ap, ◌∙◌, subst, arith, ◌||◌, cond, zero, suc}
use Rattle.std.specs.Prelude.{nat_le, map}
use Rattle.std.specs.List.{AllByRecursion}
use Rattle.std.proofs.lemmas.Bool.{not-true, and_parts, or_parts, false≢true, leb-true}
use Rattle.x64_syntax.specs.declared.places.MachinePlace.{MachinePlace}
use Rattle.x64_syntax.specs.declared.places.MachinePlace.TheVariants.{Reg, Xmm, Flag}
use Rattle.x64_syntax.specs.Places.{place_eq}
use Rattle.x64_syntax.proofs.PlaceLemmas.{place_eq_is, place_eq_same}
use Rattle.x64_syntax.specs.declared.type_words.Sort.TheVariants as sort
use Rattle.term_core.specs.Value.{Val, Whole, whole, truth, cast}
use Rattle.x64_meaning.specs.State.{State, IsState, read, write, flag_from, flag_number_of}
use Rattle.x64_meaning.specs.Exp.{Exp, Int, Ite, exp_sort, exp_value, among, knows}
use Rattle.x64_meaning.specs.Table.{Equation, apply, suits, in_order}
use Rattle.x64_meaning.proofs.Reading.{Storable, read_written, read_other, write-IsState, read-sorted}
use Rattle.term_core.proofs.Values.{IsOf}
use Rattle.term_core.proofs.Comparing.{sort_eq_is}
use Rattle.x64_meaning.proofs.Exps.{exp_value-same, exp_value-sorted}

-- a place that is among some, and one that isn't, are two
among_apart : (ps : List MachinePlace) (p q : MachinePlace) → among ps p ≡ true → among ps q ≡ false → place_eq p q ≡ false
among_apart ps p q in_them out = by_test (place_eq p q) refl
  where
    by_test : (b : Bool) → place_eq p q ≡ b → b ≡ false
    by_test false e = refl
    by_test true e = absurd (false≢true (sym out ∙ ap (among ps) (sym (place_eq_is p q e)) ∙ in_them))

-- a whole number from 0 to 2 is kept by a flag
small_flag : (n : ℕ) → nat_le n 2 ≡ true → flag_number_of (flag_from (pos n)) ≡ n
small_flag zero h = refl
small_flag (suc zero) h = refl
small_flag (suc (suc zero)) h = refl
small_flag (suc (suc (suc n))) h = let le : suc (suc (suc n)) ≤ 2 = leb-true _ _ h in absurd (omega arith)

-- a choice between two numbers from 0 to 2
choice_flag : (b : Bool) (m n : ℕ) → nat_le m 2 ≡ true → nat_le n 2 ≡ true → cond b (Whole (pos m)) (Whole (pos n)) ≡ Whole (pos (flag_number_of (flag_from (whole (cond b (Whole (pos m)) (Whole (pos n)))))))
choice_flag true m n h k = ap (λ x. Whole (pos x)) (sym (small_flag m h))
choice_flag false m n h k = ap (λ x. Whole (pos x)) (sym (small_flag n k))

-- what suits a place can be stored there
suits_stored : (b a : MachinePlace → Val) (m : ℕ → Val) → ((e : Exp) → IsOf (exp_sort e) (exp_value b a m e)) → (p : MachinePlace) (e : Exp) → suits p e ≡ true → Storable p (exp_value b a m e)
suits_stored b a m sorted (Reg r) e h = sym (subst (λ s. cast s (exp_value b a m e) ≡ exp_value b a m e) (sort_eq_is (exp_sort e) sort.W64 h) (sorted e))
suits_stored b a m sorted (Xmm x) e h = sym (subst (λ s. cast s (exp_value b a m e) ≡ exp_value b a m e) (sort_eq_is (exp_sort e) sort.W128 h) (sorted e))
suits_stored b a m sorted (Flag f) (Ite c (Int (pos x)) (Int (pos y))) h =
    let both = and_parts (nat_le x 2) (nat_le y 2) h in
    choice_flag (truth (exp_value b a m c)) x y both.0 both.1
suits_stored b a m sorted (Flag f) (Int (pos x)) h = ap (λ n. Whole (pos n)) (sym (small_flag x h))
suits_stored b a m sorted _ _ h = absurd (false≢true h)

-- what is asked of equations that come in order
pub record Order (done : List MachinePlace) (e : Equation) (es : List Equation) : Type 0 where
  pub stored : suits e.place e.right ≡ true
  pub taken : knows done e.right ≡ true
  pub new : among done e.place ≡ false
  pub rest : in_order (e.place ∷ done) es ≡ true

pub order_of : (done : List MachinePlace) (e : Equation) (es : List Equation) → in_order done (e ∷ es) ≡ true → Order done e es
order_of done e es h =
    let a = and_parts (suits e.place e.right) _ h in
    let b = and_parts (knows done e.right) _ a.1 in
    let c = and_parts (not (among done e.place)) _ b.1 in
    record { stored = a.0; taken = b.0; new = not-true _ c.0; rest = c.1 }

-- places of equations
abbrev pub places : List Equation → List MachinePlace
places es = map (λ e. e.place) es

pub among_tail : (ps : List MachinePlace) (p q : MachinePlace) → among ps p ≡ true → among (q ∷ ps) p ≡ true
among_tail ps p q h = either (place_eq p q)
  where
    either : (b : Bool) → (b || among ps p) ≡ true
    either true = refl
    either false = h

pub among_head : (ps : List MachinePlace) (q : MachinePlace) → among (q ∷ ps) q ≡ true
among_head ps q = ap (λ b. b || among ps q) (place_eq_same q)

-- what is read of a place that was written already isn't changed by the rest
pub apply-done : (before : State) (m : ℕ → Val) (done : List MachinePlace) (es : List Equation) (now : State) → in_order done es ≡ true → (p : MachinePlace) → among done p ≡ true → read (apply before m es now) p ≡ read now p
apply-done before m done [] now h p d = refl
apply-done before m done (e ∷ es) now h p d =
    let o = order_of done e es h in
    let v = exp_value (read before) (read now) m e.right in
    apply-done before m (e.place ∷ done) es (write now e.place v) o.rest p (among_tail done p e.place d)
    ∙ read_other now p e.place v (among_apart done p e.place d o.new)

-- what isn't written is as it was
pub apply-other : (before : State) (m : ℕ → Val) (es : List Equation) (now : State) (p : MachinePlace) → among (places es) p ≡ false → read (apply before m es now) p ≡ read now p
apply-other before m [] now p h = refl
apply-other before m (e ∷ es) now p h =
    let b = or_parts (place_eq p e.place) (among (places es) p) h in
    let v = exp_value (read before) (read now) m e.right in
    apply-other before m es (write now e.place v) p b.1 ∙ read_other now p e.place v b.0

pub apply-IsState : (before : State) (m : ℕ → Val) (es : List Equation) (now : State) → IsState now → IsState (apply before m es now)
apply-IsState before m [] now ok = ok
apply-IsState before m (e ∷ es) now ok =
    let v = exp_value (read before) (read now) m e.right in
    apply-IsState before m es (write now e.place v) (write-IsState now e.place v ok)

write-blocks : (s : State) (p : MachinePlace) (v : Val) → (write s p v).blocks ≡ s.blocks
write-blocks s (Reg r) v = refl
write-blocks s (Xmm x) v = refl
write-blocks s (Flag f) v = refl

-- blocks aren't changed
pub apply-blocks : (before : State) (m : ℕ → Val) (es : List Equation) (now : State) → (apply before m es now).blocks ≡ now.blocks
apply-blocks before m [] now = refl
apply-blocks before m (e ∷ es) now =
    let v = exp_value (read before) (read now) m e.right in
    apply-blocks before m es (write now e.place v) ∙ write-blocks now e.place v

-- an equation holds between two states
abbrev pub Equal : (MachinePlace → Val) → (MachinePlace → Val) → (ℕ → Val) → Equation → Type 0
Equal b a m e = a e.place ≡ exp_value b a m e.right

-- the equations hold between the state before and the state after
pub apply-equations : (before : State) (m : ℕ → Val) → IsState before → ((k : ℕ) → IsOf sort.W64 (m k)) → (done : List MachinePlace) (es : List Equation) (now : State) → IsState now → in_order done es ≡ true → AllByRecursion (Equal (read before) (read (apply before m es now)) m) es
apply-equations before m ok sm done [] now okn h = tt
apply-equations before m ok sm done (e ∷ es) now okn h =
    let o = order_of done e es h in
    let v = exp_value (read before) (read now) m e.right in
    let now' = write now e.place v in
    let end = apply before m es now' in
    let sorted : (f : Exp) → IsOf (exp_sort f) (exp_value (read before) (read now) m f) = exp_value-sorted (read before) (read now) m (λ p. read-sorted before p ok) (λ p. read-sorted now p okn) sm in
    let same : exp_value (read before) (read now) m e.right ≡ exp_value (read before) (read end) m e.right =
    exp_value-same (read before) (read before) (read now) (read end) m done (λ p. refl)
    (λ p d. sym (apply-done before m (e.place ∷ done) es now' o.rest p (among_tail done p e.place d) ∙ read_other now p e.place v (among_apart done p e.place d o.new)))
    e.right o.taken in (
      apply-done before m (e.place ∷ done) es now' o.rest e.place (among_head done e.place)
          ∙ read_written now e.place v okn (suits_stored (read before) (read now) m sorted e.place e.right o.stored)
          ∙ same,
      apply-equations before m ok sm (e.place ∷ done) es now' (write-IsState now e.place v okn) o.rest,
    )
