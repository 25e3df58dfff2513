use Rattle.term_subst.proofs.Agreeing.{value-agree, value-alike}
use Rattle.term_subst.proofs.laws.values_agree.Goals as goal

pub returns-clause-variables : goal.returns-clause-variables
returns-clause-variables c m a b p t h k = value-agree m p a b t h (record { same = k })

pub returns-clause-functions : goal.returns-clause-functions
returns-clause-functions c m n a fs t h k = value-alike m n fs a t h (record { same = k })
