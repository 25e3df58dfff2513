use Rattle.std.proofs.Common.{◌≡◌, drop, map}
use Rattle.term_core.specs.Sorted.{sorts_eq}
use Rattle.term_core.specs.Terms.{tree, tm_sort}
use Rattle.operand_types.proofs.functions.are_fit.Given as goal

-- the rests fit as the wholes do
abbrev pub invariant-loop-k : goal.invariant-loop-k
invariant-loop-k l = sorts_eq (map tm_sort (map tree (drop l.k l.args))) (map (λ p. p.sort) (drop l.k l.params)) ≡ sorts_eq (map tm_sort (map tree l.args)) (map (λ p. p.sort) l.params)
