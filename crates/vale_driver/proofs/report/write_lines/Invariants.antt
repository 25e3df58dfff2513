use Rattle.std.proofs.Common.{◌≤◌, length}
use Rattle.vale_driver.proofs.Puts.{Written}
use Rattle.vale_driver.proofs.report.write_lines.Given as goal

-- the lines so far are put, and no count fell
abbrev pub invariant-loop-end : goal.invariant-loop-end
invariant-loop-end g l = record {
  written : Written (g.O.Sink.told l.fn.out) (g.O.Sink.told l.out) l.text l.rest;
  count : g.O.Sink.faults l.fn.out ≤ g.O.Sink.faults l.out;
}

abbrev pub decreases-loop-end : goal.decreases-loop-end
decreases-loop-end g l = length l.rest
