use Rattle.code_lower.proofs.Keeps.{keeps_ends, keeps_conversely, keeps_meets}
use Rattle.code_lower.proofs.laws.lowering_keeps.Goals as goal

pub returns-clause-ends : goal.returns-clause-ends
returns-clause-ends c stack n k pos p name items s v differ stands ok = keeps_ends items differ stack k pos p name s stands ok n v

pub returns-clause-conversely : goal.returns-clause-conversely
returns-clause-conversely c stack k pos m p name items s w differ stands ok = keeps_conversely items differ stack k pos p name s stands ok m w

pub returns-clause-meets : goal.returns-clause-meets
returns-clause-meets h m k pos p name items c differ = keeps_meets items differ m k pos p name c
