use Rattle.aes_words.proofs.Doubles.{twice_low, twice_high}
use Rattle.aes_words.proofs.rounds.double.Goals as goal

pub returns-then-y-lt128 : goal.returns-then-y-lt128
returns-then-y-lt128 c = twice_low c.args.y c.ranges.y.fits c.if-y-lt128.true

pub returns-else-y-lt128 : goal.returns-else-y-lt128
returns-else-y-lt128 c = twice_high c.args.y c.ranges.y.fits c.if-y-lt128.false
