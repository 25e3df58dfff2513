use Rattle.std.proofs.Common.{◌≡◌, ◌≤◌, drop}
use Rattle.term_core.specs.Terms.{trees}
use Rattle.vale_driver.specs.Ring.{weight_of, width_limit}
use Rattle.vale_driver.specs.inner.RingCode.{occurrence_views}
use Rattle.vale_driver.proofs.RingCode.{in_front}
use Rattle.vale_driver.proofs.ring.weigh.Given as goal

-- what is weighed so far, in front of what is still to be weighed, is all of it
abbrev pub invariant-loop-pair : goal.invariant-loop-pair
invariant-loop-pair l = record {
  whole : in_front (occurrence_views l.all.items) l.width (weight_of (trees l.hyps) (drop l.pair-index l.pairs)) ≡ weight_of (trees l.hyps) l.pairs;
  narrow : l.width ≤ width_limit;
}
