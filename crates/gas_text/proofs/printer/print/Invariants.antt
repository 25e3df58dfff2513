use Rattle.std.proofs.Common.{◌≡◌, ◌++◌, drop}
use Rattle.gas_text.specs.Gas.{items_text, gas_text}
use Rattle.gas_text.proofs.printer.print.Given as goal

-- what was pushed, and the text of the rest, are the whole text
abbrev pub invariant-loop-item : goal.invariant-loop-item
invariant-loop-item l = l.out.items ++ items_text (drop l.item-index l.items) ≡ gas_text l.items
