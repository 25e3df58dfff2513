use Rattle.code_lower.proofs.First.{named_block}
use Rattle.code_lower.proofs.laws.named_blocks.Goals as goal

pub returns : goal.returns
returns c = named_block
