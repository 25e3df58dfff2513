use Rattle.term_subst.specs.Substituted.{image}
use Rattle.term_subst.proofs.Substituting.{put_sort, put_well, image-sorts}
use Rattle.term_subst.proofs.laws.substitution_keeps_sorts.Goals as goal

pub returns-clause-one : goal.returns-clause-one
returns-clause-one c name by t = put_sort (image name by) t (image-sorts name by)

pub returns-clause-all : goal.returns-clause-all
returns-clause-all c f t o = put_sort f t (record { sorted = o })

pub returns-clause-well : goal.returns-clause-well
returns-clause-well c fs f t o k = put_well fs f t (record { sorted = o }) (record { well = k })
