use Rattle.std.proofs.Common.{subst, ◌∙◌}
use Rattle.term_store.specs.inner.Kept.{Numbered}
use Rattle.term_store.proofs.Growing.{node-at}
use Rattle.term_store.proofs.store.TermStore.node.Goals as goal

pub returns-clause-term : goal.returns-clause-term
returns-clause-term c =
    node-at c.args.self.now c.as_slice.result.now c.args.id c.index-as_slice-place.result (subst Numbered c.self.view_is c.self.invariant.numbered) c.requires
    (c.as_slice.ensures.keys ∙ c.self.view_is) (rw c.place.ensures.same at c.index-as_slice-place.is)
