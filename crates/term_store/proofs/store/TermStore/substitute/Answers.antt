use Rattle.std.proofs.Common.{refl, ap, ◌∙◌}
use Rattle.term_core.specs.Terms.{Name}
use Rattle.term_store.specs.Numbers.{term_at}
use Rattle.term_store.proofs.Putting.{put-changed}
use Rattle.term_store.proofs.store.TermStore.substitute.Goals as goal

pub returns-clause-term : goal.returns-clause-term
returns-clause-term c =
    put-changed c.args.self.now c.make.new.self (record { from = c.in_ok-from.from; to = c.args.by; beside = c.in_ok-from.from }) c.args.name.now c.args.sort c.args.by c.args.id
    (term_at c.change.new.self c.in_ok-put.put) c.in_ok-from.ensures.grows c.requires.by_in c.requires.id_in refl refl
    (c.in_ok-from.ensures.term ∙ ap (λ text. Name text c.args.sort) c.in_ok-text.ensures) c.in_ok-put.ensures.term
