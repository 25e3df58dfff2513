use Rattle.std.proofs.Common.{◌<◌, length, All}
use Rattle.term_store.specs.inner.Walks.{Bare}
use Rattle.term_store.proofs.store.TermStore.has_free_names.Given as goal

abbrev pub invariant-loop-turn : goal.invariant-loop-turn
invariant-loop-turn l = record {
  bare : Bare l.self l.id l.bare;
  todo : All (λ i. i < length l.self) l.todo.items;
}
