use Rattle.std.proofs.Common.{◌≡◌, drop}
use Rattle.std.specs.Prelude.{◌==◌}
use Rattle.std.specs.List.{list_all}
use Rattle.vale_driver.specs.Ring.{coefficient}
use Rattle.vale_driver.specs.inner.RingCode.{occurrence_views}
use Rattle.vale_driver.proofs.ring.agree.Given as goal

abbrev pub invariant-loop-o : goal.invariant-loop-o
invariant-loop-o l =
    list_all (λ o. coefficient o.atom (occurrence_views l.left) == coefficient o.atom (occurrence_views l.right)) (occurrence_views (drop l.o-index l.of))
    ≡ list_all (λ o. coefficient o.atom (occurrence_views l.left) == coefficient o.atom (occurrence_views l.right)) (occurrence_views l.of)
