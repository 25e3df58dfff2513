use Rattle.std.proofs.Common.{◌≡◌, drop}
use Rattle.operand_types.specs.TermIn.{sorts_of}
use Rattle.operand_types.proofs.names.RefSliceVariableNames.sort_of.Given as goal

-- the first of the rest is the first of all
abbrev pub invariant-loop-variable : goal.invariant-loop-variable
invariant-loop-variable l = sorts_of (drop l.variable-index l.list) l.name ≡ sorts_of l.list l.name
