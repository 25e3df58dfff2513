use Rattle.std.proofs.Common.{◌≡◌, ◌+◌, ◌*◌, ◌≤◌, drop, true}
use Rattle.std.specs.List.{list_all}
use Rattle.x64_syntax.specs.Programs.{is_item}
use Rattle.gas_text.specs.Gas.{items_text}
use Rattle.gas_text.specs.Text.{newlines}
use Rattle.gas_text.proofs.text.line_count.Given as goal

abbrev pub invariant-loop-item : goal.invariant-loop-item
invariant-loop-item l = record {
  rest : l.count + newlines (items_text (drop l.item-index l.items)) ≡ newlines (items_text l.items);
  are_items : list_all is_item (drop l.item-index l.items) ≡ true;
  few : l.count ≤ 2 * l.item-index;
}
