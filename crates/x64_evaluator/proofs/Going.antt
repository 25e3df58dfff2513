-- How runs go on after a step.
use Rattle.std.proofs.Common.{◌≡◌, ℕ, ◌+◌, Bool, true, false, List, ◌++◌, length, refl, sym, ap, ◌∙◌}
use Rattle.std.specs.Prelude.{Result, Ok, Err, nat_le, if◌then◌else◌}
use Rattle.x64_syntax.specs.declared.items.Item.{Item}
use Rattle.x64_meaning.specs.declared.machine.Obs.{Obs}
use Rattle.x64_meaning.specs.State.{State}
use Rattle.x64_meaning.specs.Run.{Way, Outcome, Done, Step, GoesOn, Ends, Stops, Leaves, ins_step, step, Running, Stopped, Past, follow, run}
use Rattle.x64_meaning.specs.Run as machine
use Rattle.x64_evaluator.specs.declared.end.End.{End}
use Rattle.x64_evaluator.specs.declared.end.End.TheVariants.{Ended, Faulted, OffCode, Paused, TraceFull}
use Rattle.x64_evaluator.specs.Evaluated.{Halt, halt_at, after_step, way}
use Rattle.x64_evaluator.specs.inner.Moves.{Stand, stands, step_stand, done, steps_by}

-- at this position next, where something is
abbrev at_next : ℕ → Result (Unit {0}) End → Result ℕ End
at_next pos (Ok u) = Ok pos
at_next pos (Err e) = Err e

abbrev pub going : ℕ → Stand (Unit {0}) → Stand ℕ
going pos x = stands (at_next pos x.next) x.state x.seen

-- the step of an instruction is what the instruction leaves
pub instruction_moves : (x : Outcome) (room pos k : ℕ) (s : State) (seen : List Obs) → going (pos + 1) (done room s seen x) ≡ step_stand room (way s seen k) (follow (way s seen k) (ins_step x pos) Running)
instruction_moves (Done t os) room pos k s seen = by (nat_le (length (seen ++ os)) room) where
  by : (b : Bool) → going (pos + 1) (if b then stands (Ok tt) t (seen ++ os) else stands (Err TraceFull) s seen) ≡ (if b then stands (Ok (pos + 1)) t (seen ++ os) else stands (Err TraceFull) s seen)
  by true = refl
  by false = refl
instruction_moves (machine.Faulted f) room pos k s seen = refl

-- a step is counted
abbrev Counted : ℕ → machine.End → Type 0
Counted k (Running pos v) = v.steps ≡ k + 1
Counted k (machine.Ended v) = v.steps ≡ k + 1
Counted k _ = Unit {0}

counted : (x : Step) (w : Way) → Counted w.steps (follow w x Running)
counted (GoesOn pos s seen) w = refl
counted Ends w = refl
counted (Stops f) w = tt
counted Leaves w = tt

next_is : {a b : Result ℕ End} {s t : State} {l m : List Obs} → stands a s l ≡ stands b t m → a ≡ b
next_is e = ap (λ x. x.next) e

same_pos : {p q : ℕ} → ◌≡◌ {A = Result ℕ End} (Ok p) (Ok q) → p ≡ q
same_pos {p = p} e = ap part e where
  part : Result ℕ End → ℕ
  part (Ok x) = x
  part (Err f) = p

same_end : {e f : End} → ◌≡◌ {A = Result ℕ End} (Err e) (Err f) → e ≡ f
same_end {e = e} h = ap part h where
  part : Result ℕ End → End
  part (Ok x) = e
  part (Err f) = f

way_is : {s t : State} {l m : List Obs} {a b : ℕ} → s ≡ t → l ≡ m → a ≡ b → way s l a ≡ way t m b
way_is {t = t} {l = l} {m = m} {a = a} e f g = ap (λ s. way s l a) e ∙ ap (λ l. way t l a) f ∙ ap (λ a. way t m a) g

module _ (room : ℕ) (w : Way) (next : ℕ → Way → Halt) where
  -- where a step leads to another
  onward : (x : machine.End) (pos : ℕ) (s : State) (seen : List Obs) → Counted w.steps x → stands (Ok pos) s seen ≡ step_stand room w x → after_step room w next x ≡ next pos (way s seen (w.steps + 1))
  onward (Running p v) pos s seen c h = by (nat_le (length v.seen) room) h
    where
      by : (b : Bool) → stands (Ok pos) s seen ≡ (if b then stands (Ok p) v.state v.seen else stands (Err TraceFull) w.state w.seen) → (if b then next p v else halt_at TraceFull w) ≡ next pos (way s seen (w.steps + 1))
      by true h =
          ap (λ q. next q v) (sym (same_pos (next_is h))) ∙ ap (next pos) (way_is (sym (ap (λ x. x.state) h)) (sym (ap (λ x. x.seen) h)) c)
      by false h = absurd (let e = next_is h in no_ok e)
        where
          no_ok : ◌≡◌ {A = Result ℕ End} (Ok pos) (Err TraceFull) → ⊥
          no_ok e = cc
  onward (machine.Ended v) pos s seen c h = absurd (no_ok (next_is h)) where
    no_ok : ◌≡◌ {A = Result ℕ End} (Ok pos) (Err Ended) → ⊥
    no_ok e = cc
  onward (Stopped f) pos s seen c h = absurd (no_ok (next_is h)) where
    no_ok : ◌≡◌ {A = Result ℕ End} (Ok pos) (Err (Faulted f)) → ⊥
    no_ok e = cc
  onward Past pos s seen c h = absurd (no_ok (next_is h)) where
    no_ok : ◌≡◌ {A = Result ℕ End} (Ok pos) (Err OffCode) → ⊥
    no_ok e = cc

  -- where it is the last
  last : (x : machine.End) (s : State) (seen : List Obs) → Counted w.steps x → stands (Err Ended) s seen ≡ step_stand room w x → after_step room w next x ≡ halt_at Ended (way s seen (w.steps + 1))
  last (Running p v) s seen c h = by (nat_le (length v.seen) room) h
    where
      by : (b : Bool) → stands (Err Ended) s seen ≡ (if b then stands (Ok p) v.state v.seen else stands (Err TraceFull) w.state w.seen) → (if b then next p v else halt_at TraceFull w) ≡ halt_at Ended (way s seen (w.steps + 1))
      by true h = absurd (no_ok (next_is h)) where
        no_ok : ◌≡◌ {A = Result ℕ End} (Err Ended) (Ok p) → ⊥
        no_ok e = cc
      by false h = absurd (no_end (same_end (next_is h))) where
        no_end : Ended ≡ TraceFull → ⊥
        no_end e = cc
  last (machine.Ended v) s seen c h = ap (halt_at Ended) (way_is (sym (ap (λ x. x.state) h)) (sym (ap (λ x. x.seen) h)) c)
  last (Stopped f) s seen c h = absurd (no_end (same_end (next_is h))) where
    no_end : Ended ≡ Faulted f → ⊥
    no_end e = cc
  last Past s seen c h = absurd (no_end (same_end (next_is h))) where
    no_end : Ended ≡ OffCode → ⊥
    no_end e = cc

  -- where it isn't made
  unmade : (x : machine.End) (e : End) (s : State) (seen : List Obs) → (e ≡ Ended → ⊥) → stands (Err e) s seen ≡ step_stand room w x → after_step room w next x ≡ halt_at e (way s seen w.steps)
  unmade (Running p v) e s seen not_ended h = by (nat_le (length v.seen) room) h
    where
      by : (b : Bool) → stands (Err e) s seen ≡ (if b then stands (Ok p) v.state v.seen else stands (Err TraceFull) w.state w.seen) → (if b then next p v else halt_at TraceFull w) ≡ halt_at e (way s seen w.steps)
      by true h = absurd (no_ok (next_is h)) where
        no_ok : ◌≡◌ {A = Result ℕ End} (Err e) (Ok p) → ⊥
        no_ok e = cc
      by false h = ap (λ f. halt_at f w) (sym (same_end (next_is h))) ∙ ap (halt_at e) (way_is (sym (ap (λ x. x.state) h)) (sym (ap (λ x. x.seen) h)) refl)
  unmade (machine.Ended v) e s seen not_ended h = absurd (not_ended (same_end (next_is h)))
  unmade (Stopped f) e s seen not_ended h = ap (λ f. halt_at f w) (sym (same_end (next_is h))) ∙ ap (halt_at e) (way_is (sym (ap (λ x. x.state) h)) (sym (ap (λ x. x.seen) h)) refl)
  unmade Past e s seen not_ended h = ap (λ f. halt_at f w) (sym (same_end (next_is h))) ∙ ap (halt_at e) (way_is (sym (ap (λ x. x.state) h)) (sym (ap (λ x. x.seen) h)) refl)

module _ (items : List Item) (room pos k : ℕ) (s : State) (seen : List Obs) (next : ℕ → Way → Halt) where
  abbrev one : machine.End
  one = run items 1 pos (way s seen k)

  counted_one : Counted k one
  counted_one = counted (step items pos s) (way s seen k)

  pub goes_on : (q : ℕ) (t : State) (l : List Obs) → stands (Ok q) t l ≡ step_stand room (way s seen k) one → after_step room (way s seen k) next one ≡ next q (way t l (k + 1))
  goes_on q t l h = onward room (way s seen k) next one q t l counted_one h

  pub ends : (e : End) (t : State) (l : List Obs) → stands (Err e) t l ≡ step_stand room (way s seen k) one → after_step room (way s seen k) next one ≡ halt_at e (way t l (steps_by e k))
  ends Ended t l h = last room (way s seen k) next one t l counted_one h
  ends (Faulted f) t l h = unmade room (way s seen k) next one (Faulted f) t l (λ e. cc) h
  ends OffCode t l h = unmade room (way s seen k) next one OffCode t l (λ e. cc) h
  ends Paused t l h = unmade room (way s seen k) next one Paused t l (λ e. cc) h
  ends TraceFull t l h = unmade room (way s seen k) next one TraceFull t l (λ e. cc) h
