-- What holds of every procedure of the form: its operands stand in the list of its registers, rsp isn't among them, and
-- its constants are those that the fields of its instructions hold.
use Rattle.std.specs.Prelude.{◌≡◌, ℕ, ◌^◌, ◌-◌, pos, negsuc, false, true, ◌≤ℤ◌, ◌<ℤ◌, ◌≤◌, List, length}
use Rattle.std.specs.List.{AllByRecursion}
use Rattle.x64_syntax.specs.declared.places.Reg.{Reg as GeneralReg}
use Rattle.x64_syntax.specs.declared.places.Reg.TheVariants.{Rsp}
use Rattle.x64_syntax.specs.declared.operands.Opr.{Opr}
use Rattle.x64_syntax.specs.declared.operands.Opr.TheVariants.{R, Imm, M}
use Rattle.x64_syntax.specs.declared.instructions.AluOp.TheVariants as alu
use Rattle.x64_syntax.specs.declared.instructions.Ins.{Ins}
use Rattle.x64_syntax.specs.declared.instructions.Ins.TheVariants.{Mov, Alu}
use Rattle.x64_syntax.specs.Words.{is_export_text}
use Rattle.straight_line.specs.declared.form.StraightLine.{StraightLine}
use Rattle.straight_line.specs.Form.{statement_limit, has}

abbrev pub IsSource : List GeneralReg → ℕ → Opr → Type 0
IsSource rs n (R s) = has rs s ≡ true
IsSource rs n (Imm z) = (negsuc (n - 1) ≤ℤ z) × (z <ℤ pos n)
IsSource rs n (M m) = ⊥

abbrev pub IsInstruction : List GeneralReg → Ins → Type 0
IsInstruction rs (Mov d s) = (has rs d ≡ true) × IsSource rs (2 ^ 63) s
IsInstruction rs (Alu alu.Add d s) = (has rs d ≡ true) × IsSource rs (2 ^ 31) s
IsInstruction rs _ = ⊥

pub record IsStraight (p : StraightLine) : Type 0 where
  pub export : is_export_text p.export ≡ true
  pub few : length p.instructions ≤ statement_limit
  pub rsp : has p.registers Rsp ≡ false
  pub each : AllByRecursion (IsInstruction p.registers) p.instructions
