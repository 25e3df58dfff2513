use Rattle.vale_syntax.proofs.Reading.{read_is, is_read}
use Rattle.vale_syntax.proofs.laws.read_as_spelled.Goals as goal

pub returns-clause-sound : goal.returns-clause-sound
returns-clause-sound c = read_is

pub returns-clause-complete : goal.returns-clause-complete
returns-clause-complete c = is_read
