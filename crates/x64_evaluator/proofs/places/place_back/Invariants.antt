use Rattle.x64_evaluator.specs.inner.Places.{OnlyAbove}
use Rattle.x64_evaluator.proofs.places.place_back.Given as goal

abbrev pub invariant-loop-k : goal.invariant-loop-k
invariant-loop-k l = OnlyAbove l.items l.k l.label
