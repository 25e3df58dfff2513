use Rattle.std.proofs.Common.{◌<◌, length, All}
use Rattle.term_store.specs.Numbers.{Grows}
use Rattle.term_store.specs.inner.Changing.{Right}
use Rattle.term_store.proofs.store.TermStore.change.Given as goal

abbrev pub invariant-loop-turn : goal.invariant-loop-turn
invariant-loop-turn l = record {
  grows : Grows l.initial.self l.self;
  right : Right l.self l.change l.memo;
  todo : All (λ i. i < length l.self) l.todo.items;
}
