use Rattle.code_lower.proofs.Program.{is_program, stands, labels_differ}
use Rattle.code_lower.proofs.laws.lowered_is_a_program.Goals as goal

pub returns-clause-program : goal.returns-clause-program
returns-clause-program c = is_program

pub returns-clause-stands : goal.returns-clause-stands
returns-clause-stands c = stands

pub returns-clause-differ : goal.returns-clause-differ
returns-clause-differ c = labels_differ
