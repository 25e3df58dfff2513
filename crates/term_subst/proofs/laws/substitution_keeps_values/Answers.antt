use Rattle.term_subst.proofs.Substituting.{substituted-value, put-all-value}
use Rattle.term_subst.proofs.laws.substitution_keeps_values.Goals as goal

pub returns-clause-one : goal.returns-clause-one
returns-clause-one c m a name by t k = substituted-value m a name by t k

pub returns-clause-all : goal.returns-clause-all
returns-clause-all c m a b f t o k h = put-all-value m a b f t (record { sorted = o }) k (record { same = h })
