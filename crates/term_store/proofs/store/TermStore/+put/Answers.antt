use Rattle.std.proofs.Common.{length}
use Rattle.term_core.specs.Terms.{tree}
use Rattle.term_store.proofs.Growing.{grows-on}
use Rattle.term_store.proofs.Lists.{each-next, list-next}
use Rattle.term_store.proofs.store.TermStore.+put.Goals as goal

pub put_all-loop-k-preserved : goal.put_all-loop-k-preserved
put_all-loop-k-preserved t c =
    let v = c.loop-k.invariant in
    let e = c.in_ok-id.ensures in
    record {
      grows = grows-on _ _ _ v.grows e.grows;
      within = each-next (length c.loop-k.self) (length c.put.new.self) c.loop-k.ids _ c.in_ok-id.id e.grows.longer v.within e.within c.in_ok-push.ensures;
      terms = list-next c.loop-k.self c.put.new.self tree c.args.terms.now c.loop-k.ids _ c.loop-k.k c.in_ok-id.id c.index-terms-k.result e.grows v.within v.terms c.loop-k-test.true c.index-terms-k.is e.term c.in_ok-push.ensures;
    }
