use Rattle.std.proofs.Common.{ap, ◌∙◌}
use Rattle.std.specs.Int.Bits.{bit_xor}
use Rattle.aes_words.proofs.Doubles.{thrice}
use Rattle.aes_words.proofs.rounds.triple.Goals as goal

pub returns : goal.returns
returns c = ap (λ x. bit_xor x c.args.y) c.double.ensures ∙ thrice c.args.y c.ranges.y.fits
