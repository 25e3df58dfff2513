use Rattle.std.proofs.Common.{◌≡◌, drop}
use Rattle.x64_syntax.specs.Programs.{entries_differ}
use Rattle.x64_syntax.proofs.program.entries_differ.Given as goal

abbrev pub invariant-loop-k : goal.invariant-loop-k
invariant-loop-k l = entries_differ (drop l.k l.items) ≡ entries_differ l.items
