use Rattle.std.proofs.Common.{◌∙◌}
use Rattle.word_ops.proofs.Rotations.{rotated_left}
use Rattle.word_ops.proofs.rotate_left.Goals as goal

pub returns : goal.returns
returns c = (rw c.from.ensures at c.rotate_left.ensures) ∙ rotated_left c.args.a c.args.n c.ranges.a.fits c.requires
