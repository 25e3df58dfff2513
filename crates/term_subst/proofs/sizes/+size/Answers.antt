use Rattle.std.proofs.Common.{◌+◌, arith, sym, ap, ◌∙◌}
use Rattle.std.proofs.lemmas.List.{drop_all}
use Rattle.term_core.specs.Terms.{tree, tms}
use Rattle.std.specs.Prelude.{map}
use Rattle.term_subst.specs.Sizes.{all_nodes, at_most_64_bits}
use Rattle.term_subst.proofs.sizes.+size.Goals as goal

pub size_of_all-returns : goal.size_of_all-returns
size_of_all-returns t c =
    let left = ap (λ l. at_most_64_bits (c.loop-arg.total + all_nodes (tms (map tree l)))) (drop_all c.loop-arg.arg-index c.args.args.now c.loop-arg-test.false) in
    omega (arith, c.loop-arg.invariant.small) ∙ sym left ∙ c.loop-arg.invariant.counted
