use Rattle.std.proofs.Common.{◌≡◌, ◌≤◌, drop}
use Rattle.x64_syntax.specs.Programs.{labels_from}
use Rattle.x64_syntax.proofs.program.are_labels_in_order.Given as goal

abbrev pub invariant-loop-item : goal.invariant-loop-item
invariant-loop-item l = record {
  rest : labels_from l.next (drop l.item-index l.items) ≡ labels_from 0 l.items;
  few : l.next ≤ l.item-index;
}
