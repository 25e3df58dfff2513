use Rattle.std.proofs.Common.{◌≡◌, ◌∙◌, ap, Some, None, if◌then◌else◌}
use Rattle.std.specs.Prelude.{◌==◌}
use Rattle.term_core.specs.Terms.{tm_eq}
use Rattle.term_store.specs.Numbers.{term_at}
use Rattle.term_store.proofs.Changing.{eq-by}
use Rattle.term_store.proofs.store.TermStore.image.Goals as goal

pub returns-then-eq-clause-image : goal.returns-then-eq-clause-image
returns-then-eq-clause-image c =
    let ns = c.args.self.now in
    let d = c.distinct.ensures c.args.at c.args.change.now.from c.requires.within c.requires.fits.0 in
    let e : (c.args.at == c.args.change.now.from) ≡ tm_eq (term_at ns c.args.at) (term_at ns c.args.change.now.from) =
    eq-by c.args.at c.args.change.now.from (term_at ns c.args.at) (term_at ns c.args.change.now.from) d.0 d.1 in
    ap (λ b. if b then Some (term_at ns c.args.change.now.to) else None) (c.if-eq.ensures ∙ e)

pub returns-else-eq-clause-image : goal.returns-else-eq-clause-image
returns-else-eq-clause-image c =
    let ns = c.args.self.now in
    let d = c.distinct.ensures c.args.at c.args.change.now.from c.requires.within c.requires.fits.0 in
    let e : (c.args.at == c.args.change.now.from) ≡ tm_eq (term_at ns c.args.at) (term_at ns c.args.change.now.from) =
    eq-by c.args.at c.args.change.now.from (term_at ns c.args.at) (term_at ns c.args.change.now.from) d.0 d.1 in
    ap (λ b. if b then Some (term_at ns c.args.change.now.to) else None) (c.if-eq.ensures ∙ e)
