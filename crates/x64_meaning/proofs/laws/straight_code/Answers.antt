use Rattle.x64_meaning.proofs.Straight.{straight_meets, straight_named, straight_runs}
use Rattle.x64_meaning.proofs.laws.straight_code.Goals as goal

pub returns-clause-same_runs : goal.returns-clause-same_runs
returns-clause-same_runs c = straight_runs

pub returns-clause-meets : goal.returns-clause-meets
returns-clause-meets c = straight_meets

pub returns-clause-named : goal.returns-clause-named
returns-clause-named c = straight_named
