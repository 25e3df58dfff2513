use Rattle.std.proofs.Common.{◌≡◌, drop}
use Rattle.term_core.specs.Rules.{names_differ}
use Rattle.term_core.proofs.rules.names_differ.Given as goal

-- the names of the rest differ where those of the whole do
abbrev pub invariant-loop-k : goal.invariant-loop-k
invariant-loop-k l = names_differ (drop l.k l.variables) ≡ names_differ l.variables
