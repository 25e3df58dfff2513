use Rattle.term_store.specs.inner.Changing.{changed, goes_under}
use Rattle.term_store.proofs.Changing.{call-over}
use Rattle.term_store.proofs.store.TermStore.changed_node.Goals as goal

pub returns-in-Some-2-clause-term : goal.returns-in-Some-2-clause-term
returns-in-Some-2-clause-term c =
    let ns = c.args.self.now in
    let l = rw c.in-Some-2.is at c.in_ok-ids-in-Call.ensures.terms in
    call-over ns (changed ns c.args.change.now) (goes_under ns c.args.change.now) c.in-Call.f c.args.at c.node.result.now c.in-Call.ids c.as_slice.result.now c.in-Some-2.ids
    c.node.ensures.term c.in-Call.is c.as_slice.ensures l
