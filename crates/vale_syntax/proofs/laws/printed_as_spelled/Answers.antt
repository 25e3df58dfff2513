use Rattle.vale_syntax.proofs.Printed.{text_spells}
use Rattle.vale_syntax.proofs.Writable.{spelled_is_writable}
use Rattle.vale_syntax.proofs.laws.printed_as_spelled.Goals as goal

pub returns-clause-writable : goal.returns-clause-writable
returns-clause-writable c = spelled_is_writable

pub returns-clause-text : goal.returns-clause-text
returns-clause-text c = text_spells
