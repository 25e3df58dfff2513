use Rattle.std.proofs.Common.{◌≡◌, [], drop, map}
use Rattle.vale_syntax.specs.inner.CodeTrees.{stmt_tree}
use Rattle.straight_line.specs.Form.{statements_from}
use Rattle.straight_line.proofs.statements.instructions.Given as goal

-- the rest, behind the instructions so far, gives what the whole gives
abbrev pub invariant-loop-stmt : goal.invariant-loop-stmt
invariant-loop-stmt l = statements_from l.regs l.read (map stmt_tree (drop l.stmt-index l.stmts)) ≡ statements_from l.regs [] (map stmt_tree l.stmts)
