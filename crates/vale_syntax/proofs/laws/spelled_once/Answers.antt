use Rattle.vale_syntax.proofs.Reading.{one_tree}
use Rattle.vale_syntax.proofs.laws.spelled_once.Goals as goal

pub returns : goal.returns
returns c = one_tree
