use Rattle.x64_meaning.proofs.Named.{read_now, read_at_entry}
use Rattle.x64_meaning.proofs.laws.names_are_read.Goals as goal

pub returns-clause-now : goal.returns-clause-now
returns-clause-now c = read_now

pub returns-clause-at_the_entry : goal.returns-clause-at_the_entry
returns-clause-at_the_entry c = read_at_entry
