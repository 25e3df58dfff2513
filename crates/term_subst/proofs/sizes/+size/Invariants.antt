use Rattle.std.proofs.Common.{◌≡◌, ◌+◌, ◌<◌, ◌^◌, drop, map}
use Rattle.term_core.specs.Terms.{tree, tms}
use Rattle.term_subst.specs.Sizes.{all_nodes, at_most_64_bits}
use Rattle.term_subst.proofs.sizes.+size.Given as goal

-- what was counted, with the nodes that are left
abbrev pub invariant-size_of_all-loop-arg : goal.invariant-size_of_all-loop-arg
invariant-size_of_all-loop-arg l = record {
  counted : at_most_64_bits (l.total + all_nodes (tms (map tree (drop l.arg-index l.args)))) ≡ at_most_64_bits (all_nodes (tms (map tree l.args)));
  small : l.total < 2 ^ 64;
}
