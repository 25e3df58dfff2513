use Rattle.std.proofs.Common.{◌≡◌, drop, map}
use Rattle.term_core.specs.Terms.{tree, tms, trees}
use Rattle.term_core.specs.inner.Uses.{first_in, all_agree}
use Rattle.term_core.proofs.fitting.+agrees.Given as goal

-- the rest agrees as the whole does
abbrev pub invariant-all_agree-loop-k : goal.invariant-all_agree-loop-k
invariant-all_agree-loop-k l = all_agree (first_in (trees l.s.hyps) (tree l.s.goal)) (tms (map tree (drop l.k l.terms))) ≡ all_agree (first_in (trees l.s.hyps) (tree l.s.goal)) (tms (map tree l.terms))
