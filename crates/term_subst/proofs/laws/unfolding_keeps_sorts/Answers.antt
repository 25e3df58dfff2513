use Rattle.term_subst.proofs.CallValues.{unfolding-sort}
use Rattle.term_subst.proofs.WellUnfolded.{unfolding-well}
use Rattle.term_subst.proofs.laws.unfolding_keeps_sorts.Goals as goal

pub returns-clause-sort : goal.returns-clause-sort
returns-clause-sort c = unfolding-sort

pub returns-clause-well : goal.returns-clause-well
returns-clause-well c = unfolding-well
