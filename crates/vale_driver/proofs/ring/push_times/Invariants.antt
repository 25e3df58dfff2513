use Rattle.std.proofs.Common.{◌≡◌, ◌++◌, take}
use Rattle.vale_driver.specs.Ring.{times}
use Rattle.vale_driver.specs.inner.RingCode.{occurrence_views}
use Rattle.vale_driver.proofs.ring.push_times.Given as goal

abbrev pub invariant-loop-o : goal.invariant-loop-o
invariant-loop-o l = occurrence_views l.into.items ≡ occurrence_views l.fn.into.items ++ times l.factor (occurrence_views (take l.o-index l.more))
