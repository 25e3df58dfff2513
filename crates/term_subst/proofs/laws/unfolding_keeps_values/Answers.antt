use Rattle.term_subst.proofs.CallValues.{unfolding-value}
use Rattle.term_subst.proofs.laws.unfolding_keeps_values.Goals as goal

pub returns : goal.returns
returns c = unfolding-value
