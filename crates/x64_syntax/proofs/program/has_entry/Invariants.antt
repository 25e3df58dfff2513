use Rattle.std.proofs.Common.{◌≡◌, drop}
use Rattle.x64_syntax.specs.Programs.{has_entry}
use Rattle.x64_syntax.proofs.program.has_entry.Given as goal

abbrev pub invariant-loop-item : goal.invariant-loop-item
invariant-loop-item l = has_entry l.name (drop l.item-index l.items) ≡ has_entry l.name l.items
