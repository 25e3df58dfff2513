use Rattle.std.proofs.Common.{◌∙◌}
use Rattle.term_store.proofs.Filing.{made-stored}
use Rattle.term_store.proofs.Growing.{grows-push}
use Rattle.term_store.proofs.Apart.{found-term, pushed, made-term}
use Rattle.term_store.proofs.store.TermStore.make.Goals as goal

pub returns-in-Some-clause-term : goal.returns-in-Some-clause-term
returns-in-Some-clause-term c =
    rw (c.in_ok-found.ensures, ← c.self.view_is) (found-term c.self.inside.nodes.keys c.args.node c.in-Some.place c.self.invariant.numbered c.in-Some.ensures.index)

pub invariant_of-self-2 : goal.invariant_of-self-2
invariant_of-self-2 c =
    made-stored c.self.inside.nodes.keys c.insert.new.self.keys c.self.inside.facts.items c.truncate.new.self.items c.push.new.self.items c.args.node c.facts_of-facts.result
    c.self.invariant (rw c.self.view_is c.requires)
    (rw (← c.len.ensures.len) c.truncate.ensures.items)
    c.in_ok-push.ensures.items
    (pushed c.self.inside.nodes.keys c.insert.new.self.keys c.args.node c.in_default.ensures.found c.in_ok-insert.ensures.keys)
    (rw c.deref.ensures.value at c.facts_of-facts.ensures)

pub returns-clause-term : goal.returns-clause-term
returns-clause-term c =
    let e = pushed c.self.inside.nodes.keys c.insert.new.self.keys c.args.node c.in_default.ensures.found c.in_ok-insert.ensures.keys in
    rw (e, ← c.self.view_is) (made-term c.self.inside.nodes.keys c.args.node c.in_ok-id.id (c.in_ok-id.ensures ∙ c.len-2.ensures.len))

pub returns-clause-grows : goal.returns-clause-grows
returns-clause-grows c =
    let e = pushed c.self.inside.nodes.keys c.insert.new.self.keys c.args.node c.in_default.ensures.found c.in_ok-insert.ensures.keys in
    rw (e, ← c.self.view_is) (grows-push c.self.inside.nodes.keys c.args.node)
