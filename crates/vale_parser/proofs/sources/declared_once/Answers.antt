use Rattle.vale_parser.proofs.Whole.{one, all, place, either}
use Rattle.vale_parser.proofs.sources.declared_once.Goals as goal

pub returns-clause-one : goal.returns-clause-one
returns-clause-one c = one

pub returns-clause-all : goal.returns-clause-all
returns-clause-all c = all

pub returns-clause-place : goal.returns-clause-place
returns-clause-place c = place

pub returns-clause-either : goal.returns-clause-either
returns-clause-either c = either
