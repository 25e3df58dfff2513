use Rattle.gas_text.proofs.Once.{only_read}
use Rattle.gas_text.proofs.laws.printed_is_read.Goals as goal

pub returns-clause-only : goal.returns-clause-only
returns-clause-only c = only_read
