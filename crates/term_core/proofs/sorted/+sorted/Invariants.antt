use Rattle.std.proofs.Common.{◌≡◌, drop, map}
use Rattle.term_core.specs.Functions.{functions}
use Rattle.term_core.specs.Terms.{tree, tms}
use Rattle.term_core.specs.inner.Checked.{checked_arguments}
use Rattle.term_core.proofs.sorted.+sorted.Given as goal

-- the rests of arguments and parameters fit as the wholes do
abbrev pub invariant-are_sorted-loop-k : goal.invariant-are_sorted-loop-k
invariant-are_sorted-loop-k l = checked_arguments (functions l.funs) (drop l.k l.params) (tms (map tree (drop l.k l.args))) ≡ checked_arguments (functions l.funs) l.params (tms (map tree l.args))
