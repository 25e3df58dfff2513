use Rattle.std.proofs.Common.{◌≡◌, ◌<◌, ◌∙◌, sym, get_or, arith}
use Rattle.std.proofs.lemmas.List.{get_or_default}
use Rattle.term_store.proofs.Growing.{each-at}
use Rattle.term_store.proofs.store.TermStore.+tree.Goals as goal

pub trees-tree-requires : goal.trees-tree-requires
trees-tree-requires t c =
    let h : get_or c.args.ids.now c.loop-k.k 0 < c.args.call = each-at c.args.call c.args.ids.now c.loop-k.k c.requires.below c.loop-k-test.true in
    let e : c.index-ids-k.result ≡ get_or c.args.ids.now c.loop-k.k 0 = c.index-ids-k.is ∙ sym (get_or_default c.args.ids.now c.loop-k.k 0 c.index-ids-k.result c.loop-k-test.true) in
    (omega (arith, c.decreases, h, e), omega (arith, h, e, c.requires.within))
