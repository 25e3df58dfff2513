use Rattle.std.proofs.Common.{◌≡◌, drop, map}
use Rattle.term_core.specs.Terms.{tree, tms, tms_eq}
use Rattle.term_core.proofs.term.+same.Given as goal

-- the rests are compared as the wholes are
abbrev pub invariant-same_all-loop-k : goal.invariant-same_all-loop-k
invariant-same_all-loop-k l = tms_eq (tms (map tree (drop l.k l.a))) (tms (map tree (drop l.k l.b))) ≡ tms_eq (tms (map tree l.a)) (tms (map tree l.b))
