use Rattle.std.proofs.Common.{◌≡◌, ◌+◌, ◌*◌, map, take}
use Rattle.term_core.specs.Terms.{tree}
use Rattle.term_store.specs.Numbers.{term_at}
use Rattle.term_store.proofs.store.TermStore.+tree.Given as goal

abbrev pub decreases-tree : goal.decreases-tree
decreases-tree l = 2 * l.id + 1

abbrev pub decreases-trees : goal.decreases-trees
decreases-trees l = 2 * l.call

abbrev pub invariant-trees-loop-k : goal.invariant-trees-loop-k
invariant-trees-loop-k l = map tree l.terms ≡ map (term_at l.self) (take l.k l.ids)
