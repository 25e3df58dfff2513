use Rattle.std.proofs.Common.{length}
use Rattle.straight_line.proofs.clauses.+are_modified.Given as goal

abbrev pub decreases-are_modified : goal.decreases-are_modified
decreases-are_modified l = length l.regs.now
