use Rattle.term_subst.proofs.Meanings.{means}
use Rattle.term_subst.proofs.laws.functions_mean.Goals as goal

pub returns : goal.returns
returns c fs k f vs h at = means fs h k f at vs
