use Rattle.std.proofs.Common.{◌≡◌, ◌≤◌, ◌+◌, drop}
use Rattle.x64_syntax.specs.Programs.{piece}
use Rattle.x64_syntax.specs.inner.LabelCount.{label_count}
use Rattle.x64_syntax.proofs.program.labels_in_piece.Given as goal

abbrev pub invariant-loop-item : goal.invariant-loop-item
invariant-loop-item l = record {
  rest : l.count + label_count (piece (drop l.item-index l.items)) ≡ label_count (piece l.items);
  few : l.count ≤ l.item-index;
}
