-- What lines are put together from: conditions, and the mnemonics of instructions.
use Rattle.std.specs.Prelude.{ℕ, List, codes}
use Rattle.x64_syntax.specs.declared.conditions.Cond.{Cond}
use Rattle.x64_syntax.specs.declared.conditions.Cond.TheVariants as condition
use Rattle.x64_syntax.specs.declared.operands.Opr.TheVariants.{Imm}
use Rattle.x64_syntax.specs.declared.instructions.Ins.{Ins}
use Rattle.x64_syntax.specs.declared.instructions.Ins.TheVariants.{Mov}
use Rattle.x64_syntax.specs.Operations.{gas_mnemonic, masm_mnemonic}
use Rattle.asm_lines.specs.declared.lines.Syntax.{Syntax}
use Rattle.asm_lines.specs.declared.lines.Syntax.TheVariants.{Gas, Masm}
use Rattle.asm_lines.specs.Operands.{operation}

abbrev pub cond_name : Cond → List ℕ
cond_name condition.E = codes "e"
cond_name condition.Ne = codes "ne"
cond_name condition.B = codes "b"
cond_name condition.Be = codes "be"
cond_name condition.A = codes "a"
cond_name condition.Ae = codes "ae"

-- in GAS syntax the move of a constant has a mnemonic of its own
abbrev pub mnemonic : Syntax → Ins → List ℕ
mnemonic Gas (Mov d (Imm z)) = codes "movabsq"
mnemonic Gas i = gas_mnemonic (operation i)
mnemonic Masm i = masm_mnemonic (operation i)
