use Rattle.x64_syntax.proofs.ReadBack.{reg_back, low_back, xmm_back, flag_back, operation_back}
use Rattle.x64_syntax.proofs.laws.names_are_told_apart.Goals as goal

pub returns : goal.returns
returns c = record { regs = reg_back; low = low_back; xmms = xmm_back; flags = flag_back; operations = operation_back }
