use Rattle.x64_syntax.specs.Operations.{operations, operation_name}
use Rattle.x64_syntax.specs.Places.{reg_name, xmm_name, flag_name, all_regs, all_xmms, all_flags}
use Rattle.x64_syntax.proofs.ReadBack.{reg_back, xmm_back, flag_back, operation_back, listed}
use Rattle.x64_syntax.proofs.laws.lists_are_whole.Goals as goal

pub returns-clause-regs : goal.returns-clause-regs
returns-clause-regs c r = listed reg_name all_regs r (reg_back r)

pub returns-clause-xmms : goal.returns-clause-xmms
returns-clause-xmms c x = listed xmm_name all_xmms x (xmm_back x)

pub returns-clause-flags : goal.returns-clause-flags
returns-clause-flags c f = listed flag_name all_flags f (flag_back f)

pub returns-clause-operations : goal.returns-clause-operations
returns-clause-operations c o = listed operation_name operations o (operation_back o)
