-- Runs of items whose observations are kept, as far as there is room for them.
use Rattle.std.specs.Prelude.{◌≡◌, ◌<◌, ◌≤◌, ℕ, zero, suc, Bool, true, false, List, length, nat_le, if◌then◌else◌, Option, Some, slice_get}
use Rattle.x64_syntax.specs.declared.items.Item.{Item}
use Rattle.x64_syntax.specs.declared.items.Item.TheVariants as item
use Rattle.x64_meaning.specs.declared.machine.Obs.{Obs}
use Rattle.x64_meaning.specs.State.{State}
use Rattle.x64_meaning.specs.Run.{Way, run, Running, Stopped, Past}
use Rattle.x64_meaning.specs.Run as machine
use Rattle.x64_evaluator.specs.declared.end.End.{End}
use Rattle.x64_evaluator.specs.declared.end.End.TheVariants.{Ended, Faulted, OffCode, Paused, TraceFull}

-- the observations, and how many there is room for
pub record Traced : Type 0 where
  pub room : ℕ
  pub seen : List Obs

-- why a run ended, and how it stood
pub record Halt : Type 0 where
  pub end : End
  pub way : Way

abbrev pub halt_at : End → Way → Halt
halt_at e w = record { end = e; way = w }

-- goes on after a step, where its observation has room
abbrev pub after_step : ℕ → Way → (ℕ → Way → Halt) → machine.End → Halt
after_step room w next (Running pos v) = if nat_le (length v.seen) room then next pos v else halt_at TraceFull w
after_step room w next (machine.Ended v) = halt_at Ended v
after_step room w next (Stopped f) = halt_at (Faulted f) w
after_step room w next Past = halt_at OffCode w

-- At most so many steps, each a run of one step. A step isn't made that is a fault, and then one isn't made whose
-- observation has no room.
abbrev pub evaluation : List Item → ℕ → ℕ → ℕ → Way → Halt
evaluation items room zero pos w = halt_at Paused w
evaluation items room (suc n) pos w = after_step room w (evaluation items room n) (run items 1 pos w)

-- the state of a run, what was seen and how many steps were made
abbrev pub way : State → List Obs → ℕ → Way
way s seen steps = record { state = s; seen = seen; steps = steps }

-- an entry stands at this position
abbrev pub is_entry : Option Item → Bool
is_entry (Some (item.Entry name)) = true
is_entry _ = false

abbrev pub is_entry_at : List Item → ℕ → Bool
is_entry_at items pos = is_entry (slice_get items pos)

-- What an evaluation tells of the machine's run: it ended so after some of the steps, or still runs after all of them, or
-- it came so far with its next step a fault, off the code, or one whose observation has no room.
abbrev pub Before : List Item → ℕ → ℕ → Way → Way → (machine.End → Type 0) → Type 0
Before items n pos w v Next = (m : ℕ) × (q : ℕ) × (m < n) × (run items m pos w ≡ Running q v) × Next (run items (suc m) pos w)

abbrev pub IsRun : List Item → ℕ → ℕ → ℕ → Way → End → Way → Type 0
IsRun items room n pos w Ended v = (m : ℕ) × (m ≤ n) × (run items m pos w ≡ machine.Ended v)
IsRun items room n pos w Paused v = (q : ℕ) × (run items n pos w ≡ Running q v)
IsRun items room n pos w (Faulted f) v = Before items n pos w v (λ e. e ≡ Stopped f)
IsRun items room n pos w OffCode v = Before items n pos w v (λ e. e ≡ Past)
IsRun items room n pos w TraceFull v = Before items n pos w v (λ e. (q : ℕ) × (u : Way) × (e ≡ Running q u) × (room < length u.seen))
