use Rattle.std.proofs.Common.{◌∙◌}
use Rattle.word_ops.proofs.Rotations.{rotated_right}
use Rattle.word_ops.proofs.rotate_right.Goals as goal

pub returns : goal.returns
returns c = (rw c.from.ensures at c.rotate_right.ensures) ∙ rotated_right c.args.a c.args.n c.ranges.a.fits c.requires
