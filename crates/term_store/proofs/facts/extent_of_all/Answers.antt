use Rattle.std.proofs.Common.{◌≡◌, ◌<◌, ◌-◌, ◌∙◌, sym, subst, get_or, length, arith}
use Rattle.std.proofs.lemmas.List.{get_or_default}
use Rattle.term_store.specs.inner.Kept.{Known, nothing}
use Rattle.term_store.proofs.Growing.{each-at}
use Rattle.term_store.proofs.Filing.{measured-step}
use Rattle.term_store.proofs.facts.extent_of_all.Goals as goal

pub bounds-known-place : goal.bounds-known-place
bounds-known-place c =
    let l : c.loop-k.k - 1 < length c.args.ids.now = omega (arith, c.loop-k.invariant.within, c.loop-k-test.true) in
    let h = each-at (length c.args.known.now) c.args.ids.now (c.loop-k.k - 1) c.requires l in
    omega (arith, h, c.place.ensures.same, c.index-ids-k.is, get_or_default c.args.ids.now (c.loop-k.k - 1) 0 c.index-ids-k.result l)

pub loop-k-preserved : goal.loop-k-preserved
loop-k-preserved c = record {
  within = omega (arith, c.loop-k.invariant.within);
  known = λ at h.
      let l : c.loop-k.k - 1 < length c.args.ids.now = omega (arith, c.loop-k.invariant.within, c.loop-k-test.true) in
      let e : c.place.result ≡ get_or c.args.ids.now (c.loop-k.k - 1) 0 = c.place.ensures.same ∙ c.index-ids-k.is ∙ sym (get_or_default c.args.ids.now (c.loop-k.k - 1) 0 c.index-ids-k.result l) in
      let b = each-at (length c.args.known.now) c.args.ids.now (c.loop-k.k - 1) c.requires l in
      measured-step at c.args.ids.now c.loop-k.k (get_or c.args.known.now c.place.result nothing) c.loop-k.all c.beside-all.result c.loop-k-test.true c.loop-k.invariant.within
      (subst (λ i. Known (at (get_or c.args.ids.now (c.loop-k.k - 1) 0)) (get_or c.args.known.now i nothing)) (sym e) (h (get_or c.args.ids.now (c.loop-k.k - 1) 0) b))
      (c.loop-k.invariant.known at h) c.beside-all.ensures.size c.beside-all.ensures.depth;
}
