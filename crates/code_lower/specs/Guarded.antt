-- Runs of structured code in which each access stays in the block that its operand names.
use Rattle.std.specs.Prelude.{ℕ, zero, suc, ◌==◌, nat_lt, nat_le, Bool, true, false, not, [], ◌∷◌, Option, Some, None, position, if◌then◌else◌}
use Rattle.x64_syntax.specs.declared.places.Reg.{Reg as GeneralReg}
use Rattle.x64_syntax.specs.declared.places.MachinePlace.TheVariants.{Reg}
use Rattle.x64_syntax.specs.declared.operands.Opr.{Opr}
use Rattle.x64_syntax.specs.declared.operands.Opr.TheVariants.{R, Imm, M}
use Rattle.x64_syntax.specs.declared.conditions.Cmp.{Cmp}
use Rattle.x64_syntax.specs.declared.conditions.Cmp.TheVariants as cmp
use Rattle.x64_syntax.specs.declared.instructions.Ins.{Ins}
use Rattle.x64_syntax.specs.declared.instructions.Ins.TheVariants.{Push, Pop}
use Rattle.x64_syntax.specs.Code.{Prog, Done, Step, If, Loop}
use Rattle.x64_blocks.specs.Memory.{holds}
use Rattle.term_core.specs.Value.{word, word_of}
use Rattle.x64_meaning.specs.declared.machine.Obs.TheVariants.{Branch}
use Rattle.x64_meaning.specs.State.{State, read}
use Rattle.x64_meaning.specs.Table.{store_size}
use Rattle.x64_meaning.specs.Run.{Way, next_way, Outcome, does, Access, No, Loads, Stores, access}
use Rattle.x64_meaning.specs.Run as run
use Rattle.code_lower.specs.Lowered.{compare}

-- how a run stands whose loops take at most so many turns
pub data Course : Type 0 where
  Ended : Way → Course
  Faulted : Course
  OutOfTurns : Course

-- where an access begins, and how many bytes it takes
abbrev pub extent : State → Ins → Access → Option (ℕ × ℕ)
extent s i No = None
extent s i (Loads a size) = Some (a, size)
extent s i (Stores a) = Some (a, store_size i)

-- the block that is named: the operand's, and for PUSH and POP the stack
abbrev pub access_block : ℕ → Ins → Option ℕ → Option ℕ
access_block stack (Push r) block = Some stack
access_block stack (Pop d) block = Some stack
access_block stack i block = block

abbrev pub is_at : ℕ → Option ℕ → Bool
is_at k None = false
is_at k (Some j) = j == k

-- The first block that holds an access wholly is the one that is named. Since blocks lie apart, no other one holds it.
abbrev pub lies_in : State → Option (ℕ × ℕ) → Option ℕ → Bool
lies_in s None block = true
lies_in s (Some e) None = false
lies_in s (Some e) (Some k) = is_at k (position (holds e.0 e.1) s.blocks)

abbrev pub stays : ℕ → State → Ins → Option ℕ → Bool
stays stack s i block = lies_in s (extent s i (access s i)) (access_block stack i block)

abbrev pub goes_on : Outcome → Way → Course
goes_on (run.Done s seen) w = Ended (next_way w s seen)
goes_on (run.Faulted f) w = Faulted

-- an instruction does what it does, and faults too where its access isn't wholly in the block that is named
abbrev pub guarded_step : ℕ → Ins → Option ℕ → Way → Course
guarded_step stack i block w = if stays stack w.state i block then goes_on (does i w.state) w else Faulted

-- what follows where a run ended
abbrev pub then_ : Course → (Way → Course) → Course
then_ (Ended w) next = next w
then_ Faulted next = Faulted
then_ OutOfTurns next = OutOfTurns

-- comparisons are without sign
abbrev pub compares : Cmp → ℕ → ℕ → Bool
compares cmp.Eq a b = a == b
compares cmp.Ne a b = not (a == b)
compares cmp.Lt a b = nat_lt a b
compares cmp.Le a b = nat_le a b
compares cmp.Gt a b = nat_lt b a
compares cmp.Ge a b = nat_le b a

-- the word that a test compares with; it takes none from memory
abbrev pub operand : State → Opr → ℕ
operand s (R r) = word (read s (Reg r))
operand s (Imm z) = word_of z
operand s (M m) = 0

abbrev pub test : Cmp → GeneralReg → Opr → State → Bool
test c l r s = compares c (word (read s (Reg l))) (operand s r)

-- a step that does nothing: a label, or a jump without a condition
abbrev pub way_past : Way → Way
way_past w = next_way w w.state []

-- a conditional jump, taken or not
abbrev pub way_of_jump : Bool → Way → Way
way_of_jump taken w = next_way w w.state (Branch taken ∷ [])

-- a comparison, which leaves its flags, and what follows by whether the test holds
abbrev pub test_course : ℕ → Cmp → GeneralReg → Opr → (Bool → Way → Course) → Way → Course
test_course stack c l r next w = then_ (guarded_step stack (compare l r) None w) (next (test c l r w.state))

-- where the test holds the first arm, a jump and the last label; else a jump to a label, the second arm and the last label
abbrev pub arms : (Way → Course) → (Way → Course) → Bool → Way → Course
arms first second true w = then_ (first (way_of_jump false w)) (λ v. Ended (way_past (way_past v)))
arms first second false w = then_ (second (way_past (way_of_jump true w))) (λ v. Ended (way_past v))

-- a loop jumps back where the test holds, and goes on behind it where it doesn't
abbrev pub back : (Way → Course) → Bool → Way → Course
back again true w = again (way_of_jump true w)
back again false w = Ended (way_of_jump false w)

-- a loop from the label of its test on, with so many turns left
abbrev pub turns : ((Bool → Way → Course) → Way → Course) → (Way → Course) → ℕ → Way → Course
turns test_course body zero w = test_course (back (λ v. OutOfTurns)) (way_past w)
turns test_course body (suc m) w = test_course (back (λ v. then_ (body (way_past v)) (turns test_course body m))) (way_past w)

-- A run of code, each of whose loops takes at most n turns. Steps and observations are those of the code's items.
abbrev pub guarded_run : ℕ → ℕ → Prog → Way → Course
guarded_run stack n Done w = Ended w
guarded_run stack n (Step i block p) w = then_ (guarded_step stack i block w) (guarded_run stack n p)
guarded_run stack n (If c l r first second p) w =
    then_ (test_course stack c l r (arms (guarded_run stack n first) (guarded_run stack n second)) w) (guarded_run stack n p)
guarded_run stack n (Loop c l r body p) w =
    then_ (turns (test_course stack c l r) (guarded_run stack n body) n (way_past w)) (guarded_run stack n p)
