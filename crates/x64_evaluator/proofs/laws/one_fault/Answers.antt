use Rattle.x64_evaluator.proofs.OneState.{one_stop, no_stop}
use Rattle.x64_evaluator.proofs.laws.one_fault.Goals as goal

pub returns-clause-stops : goal.returns-clause-stops
returns-clause-stops c = one_stop

pub returns-clause-none : goal.returns-clause-none
returns-clause-none c = no_stop
