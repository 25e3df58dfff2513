use Rattle.std.proofs.Common.{◌≡◌, ◌+◌, ◌%◌, drop}
use Rattle.term_core.specs.Value.{T}
use Rattle.vale_driver.specs.Ring.{coefficient}
use Rattle.vale_driver.specs.inner.RingCode.{occurrence_views, atom_of}
use Rattle.vale_driver.proofs.ring.coefficient_in.Given as goal

-- the sum so far and the coefficients still to come are those of all
abbrev pub invariant-loop-o : goal.invariant-loop-o
invariant-loop-o l = (l.sum + coefficient (atom_of l.atom) (occurrence_views (drop l.o-index l.all))) % T ≡ coefficient (atom_of l.atom) (occurrence_views l.all) % T
