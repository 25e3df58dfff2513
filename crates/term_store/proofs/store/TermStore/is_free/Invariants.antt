use Rattle.std.proofs.Common.{All}
use Rattle.term_store.specs.inner.Walks.{Clean, Leads}
use Rattle.term_store.proofs.store.TermStore.is_free.Given as goal

abbrev pub invariant-loop-turn : goal.invariant-loop-turn
invariant-loop-turn l = record {
  clean : Clean l.self l.name l.sort l.clean;
  todo : All (Leads l.self l.name l.sort l.id) l.todo.items;
}
