use Rattle.std.proofs.Common.{sym, ◌∙◌}
use Rattle.term_store.specs.Numbers.{term_at}
use Rattle.term_store.specs.Changes.{replaced}
use Rattle.term_store.specs.inner.Changing.{goes_under}
use Rattle.term_store.proofs.Changing.{rebuild-over}
use Rattle.term_store.proofs.store.TermStore.value.Goals as goal

pub returns-clause-term : goal.returns-clause-term
returns-clause-term c =
    let ns = c.args.self.now in
    (rw c.in-Some-2.is at c.in_ok-new.ensures.term)
    ∙ sym (rebuild-over (replaced (term_at ns c.args.change.now.from) (term_at ns c.args.change.now.to)) (goes_under ns c.args.change.now) (term_at ns c.args.at) (sym c.in_default.ensures.image))
