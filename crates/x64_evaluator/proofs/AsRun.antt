-- An evaluation is a run of the machine.
use Rattle.std.proofs.Common.{◌≡◌, ℕ, zero, suc, ◌<◌, Bool, true, false, List, length, refl, sym, ap, ◌∙◌, subst, arith}
use Rattle.std.specs.Prelude.{nat_le, if◌then◌else◌}
use Rattle.std.proofs.lemmas.Bool.{leb-false}
use Rattle.x64_syntax.specs.declared.items.Item.{Item}
use Rattle.x64_meaning.specs.Run.{Way, Step, GoesOn, Ends, Stops, Leaves, step, Running, Stopped, Past, follow, run}
use Rattle.x64_meaning.specs.Run as machine
use Rattle.x64_evaluator.specs.declared.end.End.{End}
use Rattle.x64_evaluator.specs.declared.end.End.TheVariants.{Ended, Faulted, OffCode, Paused, TraceFull}
use Rattle.x64_evaluator.specs.Evaluated.{Halt, after_step, halt_at, evaluation, Before, IsRun}

-- goes on where a run goes on
abbrev then_ : (ℕ → Way → machine.End) → machine.End → machine.End
then_ next (Running pos v) = next pos v
then_ next (machine.Ended v) = machine.Ended v
then_ next (Stopped f) = Stopped f
then_ next Past = Past

module _ (next : ℕ → Way → machine.End) where
  follow_first : (x : Step) (w : Way) → follow w x next ≡ then_ next (follow w x Running)
  follow_first (GoesOn pos s seen) w = refl
  follow_first Ends w = refl
  follow_first (Stops f) w = refl
  follow_first Leaves w = refl

module _ (items : List Item) (pos p : ℕ) (w v : Way) (first : run items 1 pos w ≡ Running p v) where
  one_more : (m : ℕ) → run items (suc m) pos w ≡ run items m p v
  one_more m = follow_first (run items m) (step items pos w.state) w ∙ ap (then_ (run items m)) first

  later : (n : ℕ) (u : Way) (Next : machine.End → Type 0) → Before items n p v u Next → Before items (suc n) pos w u Next
  later n u Next h =
      let lt = h.2 in
      (suc h.0, h.1, omega (arith, lt), one_more h.0 ∙ h.3, subst_next (sym (one_more (suc h.0))) h.4)
    where
      subst_next : {a b : machine.End} → a ≡ b → Next a → Next b
      subst_next e x = subst Next e x

  run_later : (room n : ℕ) (e : End) (u : Way) → IsRun items room n p v e u → IsRun items room (suc n) pos w e u
  run_later room n Ended u h = let le = h.1 in (suc h.0, omega (arith, le), one_more h.0 ∙ h.2)
  run_later room n Paused u h = (h.0, one_more n ∙ h.1)
  run_later room n (Faulted f) u h = later n u (λ e. e ≡ Stopped f) h
  run_later room n OffCode u h = later n u (λ e. e ≡ Past) h
  run_later room n TraceFull u h = later n u (λ e. (q : ℕ) × (x : Way) × (e ≡ Running q x) × (room < length x.seen)) h

abbrev Tells : List Item → ℕ → ℕ → ℕ → Way → Halt → Type 0
Tells items room n pos w h = IsRun items room n pos w h.end h.way

pub is_run : (items : List Item) (room n pos : ℕ) (w : Way) → Tells items room n pos w (evaluation items room n pos w)
is_run items room zero pos w = (pos, refl)
is_run items room (suc n) pos w = by (λ p v. is_run items room n p v) (run items 1 pos w) refl
  where
    by : ((p : ℕ) (v : Way) → Tells items room n p v (evaluation items room n p v)) → (x : machine.End) → run items 1 pos w ≡ x → Tells items room (suc n) pos w (after_step room w (evaluation items room n) x)
    by rest (Running p v) first = by_room (nat_le (length v.seen) room) refl
      where
        by_room : (b : Bool) → nat_le (length v.seen) room ≡ b → Tells items room (suc n) pos w (if b then evaluation items room n p v else halt_at TraceFull w)
        by_room true fits = run_later items pos p w v first room n (evaluation items room n p v).end (evaluation items room n p v).way (rest p v)
        by_room false full = (0, pos, omega arith, refl, (p, v, first, leb-false (length v.seen) room full))
    by rest (machine.Ended v) first = (1, omega arith, first)
    by rest (Stopped f) first = (0, pos, omega arith, refl, first)
    by rest Past first = (0, pos, omega arith, refl, first)
