use Rattle.std.proofs.Common.{◌≡◌, drop, map}
use Rattle.term_core.specs.Rules.{all_free_all}
use Rattle.term_core.specs.Terms.{tree, tms}
use Rattle.term_core.specs.Scopes.{in_scope}
use Rattle.term_core.proofs.scope.+knows_all.Given as goal

-- the free names of the rest are known as those of the whole are
abbrev pub invariant-knows_each-loop-k : goal.invariant-knows_each-loop-k
invariant-knows_each-loop-k l = all_free_all (in_scope l.scope) (tms (map tree (drop l.k l.terms))) ≡ all_free_all (in_scope l.scope) (tms (map tree l.terms))
