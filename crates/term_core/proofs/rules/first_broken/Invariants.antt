use Rattle.std.proofs.Common.{◌≡◌, drop}
use Rattle.term_core.specs.Rules.{first_broken}
use Rattle.term_core.proofs.rules.first_broken.Given as goal

-- the first broken rule of the rest is that of the whole
abbrev pub invariant-loop-k : goal.invariant-loop-k
invariant-loop-k l = first_broken (drop l.k l.rules) ≡ first_broken l.rules
