use Rattle.std.proofs.Common.{◌≡◌, ℕ, ◌∙◌, ap, sym, get_or, length, arith}
use Rattle.std.proofs.lemmas.List.{get_or_default}
use Rattle.term_core.specs.Terms.{Tm}
use Rattle.term_store.specs.Numbers.{term_at}
use Rattle.term_store.specs.inner.Changing.{changed}
use Rattle.term_store.proofs.Lists.{each-next}
use Rattle.term_store.proofs.Changing.{terms-push}
use Rattle.term_store.proofs.store.TermStore.all_known.Goals as goal

pub loop-k-preserved : goal.loop-k-preserved
loop-k-preserved c =
    let ns = c.args.self.now in
    let f : ℕ → Tm = λ i. changed ns c.args.change.now (term_at ns i) in
    let e : c.index-ids-k.result ≡ get_or c.args.ids.now c.loop-k.k 0 = c.index-ids-k.is ∙ sym (get_or_default c.args.ids.now c.loop-k.k 0 c.index-ids-k.result c.loop-k-test.true) in
    record {
      within = each-next (length ns) (length ns) c.loop-k.new _ c.in-Some.part (omega arith) c.loop-k.invariant.within c.in-Some.ensures.within c.in_ok-push.ensures;
      terms = terms-push (term_at ns) f c.args.ids.now c.loop-k.new _ c.loop-k.k c.in-Some.part c.loop-k.invariant.terms c.loop-k-test.true (c.in-Some.ensures.term ∙ ap f e) c.in_ok-push.ensures;
    }
