use Rattle.std.proofs.Common.{◌<◌, length}
use Rattle.term_store.specs.Numbers.{Grows}
use Rattle.library_tests.proofs.shared_terms.turned.Given as goal

abbrev pub invariant-loop-level : goal.invariant-loop-level
invariant-loop-level l = record {
  grows : Grows l.initial.store l.store;
  within : l.top < length l.store;
}
