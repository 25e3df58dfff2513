use Rattle.std.proofs.Common.{◌≡◌, suc, ◌+◌, ◌-◌, ◌*◌, ◌≤◌}
use Rattle.vale_syntax.specs.inner.Parse.{chain, indices, others, parse}
use Rattle.expr_parser.specs.inner.Reads.{view, view_list}
use Rattle.expr_parser.proofs.parser.+expression.Given as goal

abbrev pub decreases-part : goal.decreases-part
decreases-part l = 1024 * l.left

abbrev pub decreases-ranked : goal.decreases-ranked
decreases-ranked l = 1024 * l.below + 512 + l.rank

abbrev pub decreases-unary : goal.decreases-unary
decreases-unary l = 1024 * l.below + 511

abbrev pub decreases-atom : goal.decreases-atom
decreases-atom l = 1024 * l.below + 4

abbrev pub decreases-named : goal.decreases-named
decreases-named l = 1024 * l.below + 3

abbrev pub decreases-arguments : goal.decreases-arguments
decreases-arguments l = 1024 * l.below + 2

abbrev pub decreases-others : goal.decreases-others
decreases-others l = 1024 * l.below + 1

abbrev pub decreases-bracketed : goal.decreases-bracketed
decreases-bracketed l = 1024 * l.below + 1

abbrev pub decreases-prefixed : goal.decreases-prefixed
decreases-prefixed l = 1024 * l.below + 1

abbrev pub decreases-chain : goal.decreases-chain
decreases-chain l = 1024 * l.below + 1

abbrev pub decreases-indexed : goal.decreases-indexed
decreases-indexed l = 1024 * l.below + 1

-- what the turns that are left give is what all give
abbrev pub invariant-chain-loop-turn : goal.invariant-chain-loop-turn
invariant-chain-loop-turn l = record {
  found : chain (parse l.below) l.below (suc l.below - l._turn) l.goes_on l.spot (view l.sofar) ≡ chain (parse l.below) l.below (suc l.below) l.fn.rank l.fn.spot (view l.fn.first);
  shallow : l.sofar.height ≤ suc l.below;
}

abbrev pub invariant-indexed-loop-turn : goal.invariant-indexed-loop-turn
invariant-indexed-loop-turn l = record {
  found : indices (parse l.below) l.below (suc l.below - l._turn) l.spot (view l.sofar) ≡ indices (parse l.below) l.below (suc l.below) l.fn.spot (view l.fn.first);
  shallow : l.sofar.height ≤ suc l.below;
}

abbrev pub invariant-others-loop-turn : goal.invariant-others-loop-turn
invariant-others-loop-turn l = record {
  found : others (parse l.below) (l.turns - l._turn) (view_list l.sofar).trees l.sofar.height l.sofar.rest.now ≡ others (parse l.below) l.turns (view_list l.fn.list).trees l.fn.list.height l.fn.list.rest.now;
  shallow : l.sofar.height ≤ l.below;
}
