use Rattle.std.proofs.Common.{◌≡◌, drop}
use Rattle.term_core.specs.Functions.{functions}
use Rattle.operand_types.specs.Operations.{function_from}
use Rattle.operand_types.proofs.functions.function_named.Given as goal

-- the first of the rest is the first of all
abbrev pub invariant-loop-k : goal.invariant-loop-k
invariant-loop-k l = function_from l.k (functions (drop l.k l.funs)) l.name ≡ function_from 0 (functions l.funs) l.name
