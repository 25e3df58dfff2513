use Rattle.std.proofs.Common.{◌∙◌}
use Rattle.vale_driver.proofs.RingCode.{no_sides, some_sides}
use Rattle.vale_driver.proofs.ring.hypothesis_sides.Goals as goal

pub returns-in-None : goal.returns-in-None
returns-in-None c = no_sides _ _ c.in-None.ensures

pub returns-in-Some : goal.returns-in-Some
returns-in-Some c = c.sides_in.ensures ∙ some_sides _ _ _ c.in-Some.ensures
