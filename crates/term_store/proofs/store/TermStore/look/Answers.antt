use Rattle.std.proofs.Common.{◌≡◌, ◌∙◌, sym, All, subst, false}
use Rattle.std.specs.List.{list_any}
use Rattle.std.proofs.lemmas.List.Elements.{All-append, All-push}
use Rattle.term_store.specs.Numbers.{term_at}
use Rattle.term_store.specs.Free.{is_free}
use Rattle.term_store.specs.inner.Walks.{Leads, open_parts}
use Rattle.term_store.proofs.Freeness.{parts-clean, clean-here, clean-insert, leads-parts}
use Rattle.term_store.proofs.store.TermStore.look.Goals as goal

pub returns-then-all_in-clause-clean : goal.returns-then-all_in-clause-clean
returns-then-all_in-clause-clean c =
    let ns = c.args.self.now in
    let x = c.args.name.now in
    let e = c.as_slice.ensures ∙ c.in_ok-parts.ensures in
    let h : list_any (λ i. is_free x c.args.sort (term_at ns i)) (open_parts x c.args.sort c.node-node.result.now) ≡ false =
    parts-clean ns x c.args.sort c.args.clean.now (open_parts x c.args.sort c.node-node.result.now) c.requires.clean (rw e at (sym c.if-all_in.ensures)) in
    clean-insert ns x c.args.sort c.args.clean.now c.insert.new.self c.args.at c.in_ok-insert.ensures.updates c.requires.clean
    (clean-here ns x c.args.sort c.args.at c.node-node.result.now c.node-node.ensures.term (sym c.if-is_variable.ensures) h)

pub returns-clause-todo : goal.returns-clause-todo
returns-clause-todo c =
    let ns = c.args.self.now in
    let x = c.args.name.now in
    let e = c.as_slice-2.ensures ∙ c.in_ok-parts.ensures in
    let new = leads-parts ns x c.args.sort c.args._root c.args.at c.node-node.result.now c.requires.leads c.node-node.ensures.below c.node-node.ensures.term in
    let pushed = subst (All (Leads ns x c.args.sort c.args._root)) (sym c.in_ok-push.ensures.items) (All-push (Leads ns x c.args.sort c.args._root) c.args.todo.now.items c.args.at c.requires.todo c.requires.leads) in
    subst (All (Leads ns x c.args.sort c.args._root)) (sym c.in_ok-extend_from_slice.ensures.items)
    (All-append (Leads ns x c.args.sort c.args._root) c.push.new.self.items c.as_slice-2.result.now pushed (subst (All (Leads ns x c.args.sort c.args._root)) (sym e) new))
