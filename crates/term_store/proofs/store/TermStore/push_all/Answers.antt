use Rattle.std.proofs.Common.{All, ◌<◌, sym, subst, length}
use Rattle.std.proofs.lemmas.List.Elements.{All-append}
use Rattle.term_store.proofs.Changing.{all-below}
use Rattle.term_store.proofs.store.TermStore.push_all.Goals as goal

pub returns : goal.returns
returns c =
    let n = length c.args.self.now in
    subst (All (λ i. i < n)) (sym c.in_ok-extend_from_slice.ensures.items)
    (All-append (λ i. i < n) c.args.todo.now.items c.args.ids.now c.requires.todo (all-below c.args._call n c.args.ids.now c.requires.below c.requires.within))
