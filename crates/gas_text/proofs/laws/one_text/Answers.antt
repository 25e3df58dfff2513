use Rattle.gas_text.proofs.Once.{one_list}
use Rattle.gas_text.proofs.laws.one_text.Goals as goal

pub returns-clause-items : goal.returns-clause-items
returns-clause-items c = one_list
