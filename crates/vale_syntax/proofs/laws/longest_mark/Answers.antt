use Rattle.vale_syntax.proofs.Marks.{longest, some}
use Rattle.vale_syntax.proofs.laws.longest_mark.Goals as goal

pub returns-clause-some : goal.returns-clause-some
returns-clause-some c = some

pub returns-clause-longest : goal.returns-clause-longest
returns-clause-longest c = longest
