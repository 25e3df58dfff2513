use Rattle.std.proofs.Common.{◌≡◌, drop, map}
use Rattle.term_core.specs.Terms.{tree, tms}
use Rattle.term_subst.specs.Unfolded.{argument_of}
use Rattle.term_subst.specs.inner.Walks.{images_of}
use Rattle.term_subst.proofs.unfolding.arguments.Given as goal

-- the parameters from k on have their arguments
abbrev pub invariant-loop-k : goal.invariant-loop-k
invariant-loop-k l = images_of l.images.images.items ≡ argument_of (drop l.k l.params) (tms (map tree (drop l.k l.args)))
