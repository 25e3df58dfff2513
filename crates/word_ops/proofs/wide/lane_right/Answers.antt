use Rattle.std.proofs.Common.{sym}
use Rattle.word_ops.proofs.Shifts.{gone_right}
use Rattle.word_ops.proofs.wide.lane_right.Goals as goal

pub returns-else-n-lt32 : goal.returns-else-n-lt32
returns-else-n-lt32 c = sym (gone_right c.args.x 32 c.args.n c.ranges.x.fits c.if-n-lt32.false)
