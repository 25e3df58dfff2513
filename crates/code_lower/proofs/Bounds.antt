-- Guarded runs: a step more at the start is a step more at the end, and greater bounds don't change what ended.
use Rattle.std.proofs.Common.{◌≡◌, ℕ, zero, suc, ◌≤◌, Bool, true, false, refl, ap, ◌∙◌, arith}
use Rattle.std.specs.Prelude.{Option, if◌then◌else◌}
use Rattle.x64_syntax.specs.declared.places.Reg.{Reg as GeneralReg}
use Rattle.x64_syntax.specs.declared.operands.Opr.{Opr}
use Rattle.x64_syntax.specs.declared.conditions.Cmp.{Cmp}
use Rattle.x64_syntax.specs.declared.instructions.Ins.{Ins}
use Rattle.x64_syntax.specs.Code.{Prog, Done, Step, If, Loop}
use Rattle.x64_meaning.specs.Run.{Way, Outcome, does}
use Rattle.x64_meaning.specs.Run as machine
use Rattle.code_lower.specs.Lowered.{compare}
use Rattle.code_lower.specs.Guarded.{Course, Ended, Faulted, OutOfTurns, then_, guarded_step, goes_on, stays, way_past, way_of_jump, test_course, test, arms, back, turns, guarded_run}
use Rattle.code_lower.specs.Keeps.{later}

-- the same course a step later
abbrev pub shifted : Course → Course
shifted (Ended v) = Ended (later 1 v)
shifted Faulted = Faulted
shifted OutOfTurns = OutOfTurns

-- it goes alike from a step later on
abbrev Alike : (Way → Course) → Type 0
Alike f = (w : Way) → f (later 1 w) ≡ shifted (f w)

then_later : (c : Course) (next : Way → Course) → Alike next → then_ (shifted c) next ≡ shifted (then_ c next)
then_later (Ended v) next a = a v
then_later Faulted next a = refl
then_later OutOfTurns next a = refl

one_then : (f next : Way → Course) → Alike f → Alike next → Alike (λ w. then_ (f w) next)
one_then f next a b w = ap (λ c. then_ c next) (a w) ∙ then_later (f w) next b

step_later : (stack : ℕ) (i : Ins) (block : Option ℕ) → Alike (guarded_step stack i block)
step_later stack i block w = by_stays (stays stack w.state i block)
  where
    by_outcome : (o : Outcome) → goes_on o (later 1 w) ≡ shifted (goes_on o w)
    by_outcome (machine.Done s seen) = refl
    by_outcome (machine.Faulted f) = refl

    by_stays : (b : Bool) → (if b then goes_on (does i w.state) (later 1 w) else Faulted) ≡ shifted (if b then goes_on (does i w.state) w else Faulted)
    by_stays true = by_outcome (does i w.state)
    by_stays false = refl

tested_later : (stack : ℕ) (c : Cmp) (l : GeneralReg) (r : Opr) (next : Bool → Way → Course) → ((b : Bool) → Alike (next b)) → Alike (test_course stack c l r next)
tested_later stack c l r next a w =
    ap (λ d. then_ d (next (test c l r w.state))) (step_later stack (compare l r) _ w) ∙ then_later _ _ (a (test c l r w.state))

arms_later : (first second : Way → Course) → Alike first → Alike second → (b : Bool) → Alike (arms first second b)
arms_later first second a b true w = one_then (λ v. first (way_of_jump false v)) _ (λ v. a (way_of_jump false v)) (λ v. refl) w
arms_later first second a b false w = one_then (λ v. second (way_past (way_of_jump true v))) _ (λ v. b (way_past (way_of_jump true v))) (λ v. refl) w

back_later : (again : Way → Course) → Alike again → (b : Bool) → Alike (back again b)
back_later again a true w = a (way_of_jump true w)
back_later again a false w = refl

turns_later : (stack : ℕ) (c : Cmp) (l : GeneralReg) (r : Opr) (body : Way → Course) → Alike body → (m : ℕ) → Alike (turns (test_course stack c l r) body m)
turns_later stack c l r body a zero w = tested_later stack c l r _ (back_later (λ v. OutOfTurns) (λ v. refl)) (way_past w)
turns_later stack c l r body a (suc m) w =
    tested_later stack c l r _ (back_later _ (one_then (λ v. body (way_past v)) _ (λ v. a (way_past v)) (turns_later stack c l r body a m))) (way_past w)

pub guarded_later : (stack n : ℕ) (p : Prog) → Alike (guarded_run stack n p)
guarded_later stack n Done w = refl
guarded_later stack n (Step i block p) w = one_then (guarded_step stack i block) (guarded_run stack n p) (step_later stack i block) (guarded_later stack n p) w
guarded_later stack n (If c l r first second p) w =
    one_then (test_course stack c l r (arms (guarded_run stack n first) (guarded_run stack n second))) (guarded_run stack n p)
    (tested_later stack c l r _ (arms_later _ _ (guarded_later stack n first) (guarded_later stack n second))) (guarded_later stack n p) w
guarded_later stack n (Loop c l r body p) w =
    one_then (λ v. turns (test_course stack c l r) (guarded_run stack n body) n (way_past v)) (guarded_run stack n p)
    (λ v. turns_later stack c l r _ (guarded_later stack n body) n (way_past v)) (guarded_later stack n p) w

-- where the one ends, the other ends alike
abbrev Ends : Course → Course → Type 0
Ends c d = (v : Way) → c ≡ Ended v → d ≡ Ended v

abbrev EndsFrom : (Way → Course) → (Way → Course) → Type 0
EndsFrom f g = (w : Way) → Ends (f w) (g w)

then_ends : (c d : Course) (f g : Way → Course) → Ends c d → EndsFrom f g → Ends (then_ c f) (then_ d g)
then_ends (Ended u) d f g a b v h = ap (λ e. then_ e g) (a u refl) ∙ b u v h
then_ends Faulted d f g a b v h = absurd cc
then_ends OutOfTurns d f g a b v h = absurd cc

same_ends : (c : Course) → Ends c c
same_ends c v h = h

tested_ends : (stack : ℕ) (c : Cmp) (l : GeneralReg) (r : Opr) (f g : Bool → Way → Course) → ((b : Bool) → EndsFrom (f b) (g b)) → EndsFrom (test_course stack c l r f) (test_course stack c l r g)
tested_ends stack c l r f g a w = then_ends _ _ _ _ (same_ends _) (a (test c l r w.state))

arms_ends : (f g h k : Way → Course) → EndsFrom f g → EndsFrom h k → (b : Bool) → EndsFrom (arms f h b) (arms g k b)
arms_ends f g h k a b true w = then_ends _ _ _ _ (a (way_of_jump false w)) (λ v. same_ends _)
arms_ends f g h k a b false w = then_ends _ _ _ _ (b (way_past (way_of_jump true w))) (λ v. same_ends _)

back_ends : (f g : Way → Course) → EndsFrom f g → (b : Bool) → EndsFrom (back f b) (back g b)
back_ends f g a true w = a (way_of_jump true w)
back_ends f g a false w = same_ends _

never_ends : (c : Course) → Ends OutOfTurns c
never_ends c v h = absurd cc

turns_ends : (stack : ℕ) (c : Cmp) (l : GeneralReg) (r : Opr) (f g : Way → Course) → EndsFrom f g → (m n : ℕ) → m ≤ n → EndsFrom (turns (test_course stack c l r) f m) (turns (test_course stack c l r) g n)
turns_ends stack c l r f g a zero zero le w =
    tested_ends stack c l r _ _ (back_ends (λ v. OutOfTurns) (λ v. OutOfTurns) (λ v. never_ends _)) (way_past w)
turns_ends stack c l r f g a zero (suc n) le w =
    tested_ends stack c l r _ _
    (back_ends (λ v. OutOfTurns) (λ v. then_ (g (way_past v)) (turns (test_course stack c l r) g n)) (λ v. never_ends _)) (way_past w)
turns_ends stack c l r f g a (suc m) zero le w = absurd (omega (arith, le))
turns_ends stack c l r f g a (suc m) (suc n) le w =
    tested_ends stack c l r _ _
    (back_ends _ _ (λ v. then_ends _ _ _ _ (a (way_past v)) (turns_ends stack c l r f g a m n (omega (arith, le))))) (way_past w)

pub more_turns_end : (stack m n : ℕ) (p : Prog) → m ≤ n → EndsFrom (guarded_run stack m p) (guarded_run stack n p)
more_turns_end stack m n Done le w = same_ends _
more_turns_end stack m n (Step i block p) le w = then_ends _ _ _ _ (same_ends _) (more_turns_end stack m n p le)
more_turns_end stack m n (If c l r first second p) le w =
    then_ends _ _ _ _
    (tested_ends stack c l r _ _ (arms_ends _ _ _ _ (more_turns_end stack m n first le) (more_turns_end stack m n second le)) w)
    (more_turns_end stack m n p le)
more_turns_end stack m n (Loop c l r body p) le w =
    then_ends _ _ _ _ (turns_ends stack c l r _ _ (more_turns_end stack m n body le) m n le (way_past w)) (more_turns_end stack m n p le)
