use Rattle.std.proofs.Common.{◌≡◌, drop}
use Rattle.std.specs.List.{list_all}
use Rattle.x64_syntax.specs.Programs.{is_item}
use Rattle.x64_syntax.proofs.program.are_items.Given as goal

abbrev pub invariant-loop-item : goal.invariant-loop-item
invariant-loop-item l = list_all is_item (drop l.item-index l.items) ≡ list_all is_item l.items
