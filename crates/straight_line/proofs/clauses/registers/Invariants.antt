use Rattle.std.proofs.Common.{◌≡◌, [], drop}
use Rattle.straight_line.specs.Form.{reads_from}
use Rattle.straight_line.proofs.clauses.registers.Given as goal

-- the rest, behind the registers so far, gives what the whole gives
abbrev pub invariant-loop-place : goal.invariant-loop-place
invariant-loop-place l = reads_from l.regs (drop l.place-index l.places) ≡ reads_from [] l.places
