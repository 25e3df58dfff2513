use Rattle.std.proofs.Common.{sym, length}
use Rattle.term_store.proofs.FreeNames.{bare-root, last-in}
use Rattle.term_store.proofs.store.TermStore.has_free_names.Goals as goal

pub returns-then-contains : goal.returns-then-contains
returns-then-contains c = sym (bare-root c.args.self.now c.args.id c.loop-turn.bare c.loop-turn.invariant.bare (sym c.if-contains.ensures))

pub look_for_any-requires-clause-within : goal.look_for_any-requires-clause-within
look_for_any-requires-clause-within c =
    last-in (length c.args.self.now) c.loop-turn.todo.items c.pop.new.self.items c.in-Some.at c.loop-turn.invariant.todo c.in-Some.ensures.items
