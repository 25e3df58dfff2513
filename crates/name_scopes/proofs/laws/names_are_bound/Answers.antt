use Rattle.name_scopes.proofs.Bound.{each, own, stands}
use Rattle.name_scopes.proofs.laws.names_are_bound.Goals as goal

pub returns-clause-each : goal.returns-clause-each
returns-clause-each c = each

pub returns-clause-own : goal.returns-clause-own
returns-clause-own c = own

pub returns-clause-stands : goal.returns-clause-stands
returns-clause-stands c = stands
