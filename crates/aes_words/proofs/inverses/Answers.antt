use Rattle.aes_words.proofs.UniqueInverses.{are_inverse, no_other}
use Rattle.aes_words.proofs.inverses.Goals as goal

pub returns : goal.returns
returns c = record { are_inverse = are_inverse; alone = no_other }
