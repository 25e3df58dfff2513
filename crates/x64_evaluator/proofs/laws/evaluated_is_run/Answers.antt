use Rattle.x64_evaluator.proofs.AsRun.{is_run}
use Rattle.x64_evaluator.proofs.laws.evaluated_is_run.Goals as goal

pub returns : goal.returns
returns c = is_run
