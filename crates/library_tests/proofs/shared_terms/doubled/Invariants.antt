use Rattle.std.proofs.Common.{◌<◌, length}
use Rattle.term_store.specs.Numbers.{Grows}
use Rattle.library_tests.proofs.shared_terms.doubled.Given as goal

abbrev pub invariant-loop-time : goal.invariant-loop-time
invariant-loop-time l = record {
  grows : Grows l.initial.store l.store;
  within : l.sum < length l.store;
}
