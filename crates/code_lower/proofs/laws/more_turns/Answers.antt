use Rattle.code_lower.proofs.Bounds.{more_turns_end}
use Rattle.code_lower.proofs.laws.more_turns.Goals as goal

pub returns : goal.returns
returns c stack m n p w v le = more_turns_end stack m n p le w v
