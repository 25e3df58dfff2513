use Rattle.std.proofs.Common.{ap, ◌∙◌, get_or}
use Rattle.aes_words.specs.declared.s_box.TheConstants.{S_BOX}
use Rattle.aes_words.proofs.SBoxTable.{s_box_at}
use Rattle.aes_words.proofs.s_box.sub_byte.Goals as goal

pub returns : goal.returns
returns c = ap (λ i. get_or S_BOX i 0) c.from.ensures ∙ s_box_at c.args.y c.ranges.y.fits
