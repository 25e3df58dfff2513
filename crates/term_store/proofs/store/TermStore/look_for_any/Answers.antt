use Rattle.std.proofs.Common.{◌<◌, ◌∙◌, sym, subst, All, length}
use Rattle.std.proofs.lemmas.List.Elements.{All-append, All-push}
use Rattle.term_store.specs.Numbers.{term_at}
use Rattle.term_store.specs.inner.Walks.{all_parts}
use Rattle.term_store.proofs.Changing.{all-below}
use Rattle.term_store.proofs.FreeNames.{named-free, bare-insert, parts_below}
use Rattle.term_store.proofs.store.TermStore.look_for_any.Goals as goal

pub returns-then-branch-clause-found : goal.returns-then-branch-clause-found
returns-then-branch-clause-found c =
    λ _. named-free (term_at c.args.self.now c.args.root) c.node-node.result.now (sym c.in_ok-is_free_name.ensures ∙ c.if-branch.true)

pub returns-then-all_in-clause-bare : goal.returns-then-all_in-clause-bare
returns-then-all_in-clause-bare c =
    let e = c.as_slice.ensures ∙ c.in_ok-parts.ensures in
    bare-insert c.args.self.now c.args.root c.args.bare.now c.insert.new.self c.args.at c.node-node.result.now c.in_ok-insert.ensures.updates c.requires.bare
    c.node-node.ensures.term (sym c.in_ok-is_free_name.ensures ∙ c.if-branch.false) (rw e at (sym c.if-all_in.ensures))

pub returns-clause-todo : goal.returns-clause-todo
returns-clause-todo c =
    let n = length c.args.self.now in
    let e = c.as_slice-2.ensures ∙ c.in_ok-parts.ensures in
    let new = all-below c.args.at n (all_parts c.node-node.result.now) (parts_below c.args.at c.node-node.result.now c.node-node.ensures.below) c.requires.within in
    let pushed = subst (All (λ i. i < n)) (sym c.in_ok-push.ensures.items) (All-push (λ i. i < n) c.args.todo.now.items c.args.at c.requires.todo c.requires.within) in
    subst (All (λ i. i < n)) (sym c.in_ok-extend_from_slice.ensures.items)
    (All-append (λ i. i < n) c.push.new.self.items c.as_slice-2.result.now pushed (subst (All (λ i. i < n)) (sym e) new))
