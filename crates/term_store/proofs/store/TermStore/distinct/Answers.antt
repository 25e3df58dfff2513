use Rattle.std.proofs.Common.{ap, arith, length, subst}
use Rattle.std.specs.List.{IsDistinct}
use Rattle.term_store.specs.contracts.node.NodePartialEq.TheImpl.{eq-value as node_eq}
use Rattle.term_store.specs.Numbers.{term_at}
use Rattle.term_store.specs.inner.Kept.{Numbered}
use Rattle.term_store.proofs.Apart.{term-injective}
use Rattle.term_store.proofs.store.TermStore.distinct.Goals as goal

pub returns : goal.returns
returns c = λ a b al bl. (
  λ e. term-injective c.args.self.now (subst Numbered c.self.view_is c.self.invariant.numbered) (subst (IsDistinct node_eq.it) c.self.view_is c.len-count.ensures.unique)
      (length c.args.self.now) a b (omega arith) al bl e,
  λ e. ap (term_at c.args.self.now) e,
)
