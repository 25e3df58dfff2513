use Rattle.std.proofs.Common.{◌≡◌, drop}
use Rattle.straight_line.specs.Form.{among}
use Rattle.straight_line.proofs.clauses.among.Given as goal

-- the rest gives what the whole gives
abbrev pub invariant-loop-other : goal.invariant-loop-other
invariant-loop-other l = among (drop l.other-index l.regs) l.reg ≡ among l.regs l.reg
