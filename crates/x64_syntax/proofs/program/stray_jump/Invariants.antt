use Rattle.std.proofs.Common.{drop}
use Rattle.x64_syntax.proofs.Pieces.{Within}
use Rattle.x64_syntax.proofs.program.stray_jump.Given as goal

abbrev pub invariant-loop-k : goal.invariant-loop-k
invariant-loop-k l = Within l.k l.low l.high (drop l.k l.items) l.items
