use Rattle.std.proofs.Common.{◌≡◌, ◌∙◌, sym, arith}
use Rattle.term_store.specs.Numbers.{term_at}
use Rattle.term_store.specs.inner.Changing.{changed}
use Rattle.term_store.proofs.Changing.{right-onward, right-insert, changed-grows}
use Rattle.term_store.proofs.store.TermStore.visit.Goals as goal

pub returns-in_default-clause-right : goal.returns-in_default-clause-right
returns-in_default-clause-right c = right-onward _ _ c.args.change.now _ c.in_ok-new.ensures.grows c.requires.fits c.requires.right

pub returns-clause-right : goal.returns-clause-right
returns-clause-right c =
    let g = c.in_ok-new.ensures.grows in
    let e = rw c.in-Some.is at c.in_ok-new.ensures.term in
    let p : changed c.value.new.self c.args.change.now (term_at c.value.new.self c.args.at) ≡ changed c.args.self.now c.args.change.now (term_at c.args.self.now c.args.at) =
    λ i. changed-grows c.args.self.now c.value.new.self c.args.change.now g c.requires.fits i (g.kept c.args.at c.requires.within i) in
    right-insert c.value.new.self c.args.change.now c.args.memo.now c.insert.new.self c.args.at c.in-Some.new c.in_ok-insert.ensures.updates
    (omega (arith, g.longer, c.requires.within)) (rw c.in-Some.is at c.in_ok-new.ensures.within)
    (e ∙ sym p)
    (right-onward _ _ c.args.change.now _ g c.requires.fits c.requires.right)
