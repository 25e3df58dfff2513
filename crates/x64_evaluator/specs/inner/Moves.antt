-- What one step leaves.
use Rattle.std.specs.Prelude.{ℕ, ◌+◌, List, length, nat_le, ◌++◌, ◌∷◌, [], Result, Ok, Err, if◌then◌else◌}
use Rattle.x64_meaning.specs.declared.machine.Obs.{Obs}
use Rattle.x64_meaning.specs.State.{State}
use Rattle.x64_meaning.specs.Run.{Way, Outcome, Done, Running, Stopped, Past}
use Rattle.x64_meaning.specs.Run as machine
use Rattle.x64_evaluator.specs.declared.end.End.{End}
use Rattle.x64_evaluator.specs.declared.end.End.TheVariants.{Ended, Faulted, OffCode, TraceFull}

-- what comes next or why nothing does, the state, and what was seen
pub record Stand (A : Type 0) : Type 0 where
  pub next : Result A End
  pub state : State
  pub seen : List Obs

abbrev pub stands : {A : Type 0} → Result A End → State → List Obs → Stand A
stands next s seen = record { next = next; state = s; seen = seen }

-- after one step: the position of the next
abbrev pub step_stand : ℕ → Way → machine.End → Stand ℕ
step_stand room w (Running pos v) = if nat_le (length v.seen) room then stands (Ok pos) v.state v.seen else stands (Err TraceFull) w.state w.seen
step_stand room w (machine.Ended v) = stands (Err Ended) v.state v.seen
step_stand room w (Stopped f) = stands (Err (Faulted f)) w.state w.seen
step_stand room w Past = stands (Err OffCode) w.state w.seen

-- after an instruction
abbrev pub done : ℕ → State → List Obs → Outcome → Stand (Unit {0})
done room s seen (Done t os) = if nat_le (length (seen ++ os)) room then stands (Ok tt) t (seen ++ os) else stands (Err TraceFull) s seen
done room s seen (machine.Faulted f) = stands (Err (Faulted f)) s seen

-- after an observation
abbrev pub shown : ℕ → List Obs → Obs → Result (Unit {0}) End × List Obs
shown room seen o = if nat_le (length (seen ++ o ∷ [])) room then (Ok tt, seen ++ o ∷ []) else (Err TraceFull, seen)

-- how many steps were made, with the `ret` that ended a run
abbrev pub steps_by : End → ℕ → ℕ
steps_by Ended made = made + 1
steps_by _ made = made
