-- The instruction of a name and operands, by cases: what the code does the other way than `operands`.
use Rattle.std.specs.Prelude.{ℕ, ◌-◌, ◌^◌, ℤ, pos, negsuc, nat_le, Option, Some, None, option_map, if◌then◌else◌}
use Rattle.std.specs.Int.{w64, cast_signed}
use Rattle.x64_syntax.specs.declared.places.Reg.{Reg as GeneralReg}
use Rattle.x64_syntax.specs.declared.places.Xmm.{Xmm as XmmReg}
use Rattle.x64_syntax.specs.declared.operands.Mem.{Mem}
use Rattle.x64_syntax.specs.declared.operands.Opr.{Opr}
use Rattle.x64_syntax.specs.declared.operands.Opr.TheVariants.{R, Imm, M}
use Rattle.x64_syntax.specs.declared.instructions.Ins.{Ins}
use Rattle.x64_syntax.specs.declared.instructions.Ins.TheVariants.{Mov, Store, Load1, Load4, Store4, Lea, Cmov, Push, Pop, Alu, One as OneIns, Shift, Imul, Mul, Mulx, Carry, XMov, XLoad, XStore, XBin, XShuf, XShift, XIns, XExt, XMovq, XClmul}
use Rattle.x64_syntax.specs.declared.operations.Operation.{Operation}
use Rattle.x64_syntax.specs.declared.operations.Operation.TheVariants as op
use Rattle.x64_syntax.specs.Ranges.{is_i64}
use Rattle.asm_lines.specs.declared.forms.Part.{Part}
use Rattle.asm_lines.specs.declared.forms.Part.TheVariants.{General, Low, Wide, Number, Memory}
use Rattle.asm_lines.specs.declared.forms.Parts.{Parts}
use Rattle.asm_lines.specs.declared.forms.Parts.TheVariants.{One, Two, Three}

-- the number where it is not below zero and at most the limit
abbrev pub at_most : ℕ → ℤ → Option ℕ
at_most limit (pos n) = if nat_le n limit then Some n else None
at_most limit (negsuc n) = None

-- the number where it has 64 bits with sign
abbrev pub within : ℤ → Option ℤ
within z = if is_i64 z then Some z else None

abbrev pub of_source : Part → Option Opr
of_source (General r) = Some (R r)
of_source (Number z) = option_map Imm (within z)
of_source (Memory m) = Some (M m)
of_source (Low r) = None
of_source (Wide x) = None

abbrev pub of_move_source : Part → Option Opr
of_move_source (Number z) = option_map (λ n. Imm (cast_signed w64 n)) (at_most (2 ^ 64 - 1) z)
of_move_source p = of_source p

abbrev pub of_one : Operation → Part → Option Ins
of_one op.Push (General s) = Some (Push s)
of_one op.Pop (General d) = Some (Pop d)
of_one (op.One o) (General d) = Some (OneIns o d)
of_one op.Mul s = option_map Mul (of_source s)
of_one _ _ = None

abbrev pub of_general : Operation → GeneralReg → Part → Option Ins
of_general op.Mov d s = option_map (Mov d) (of_move_source s)
of_general op.Load1 d (Memory m) = Some (Load1 d m)
of_general op.Lea d (Memory m) = Some (Lea d m)
of_general (op.Cmov c) d (General s) = Some (Cmov c d s)
of_general (op.Alu o) d s = option_map (Alu o d) (of_source s)
of_general (op.Shift o) d (Number z) = option_map (Shift o d) (at_most 255 z)
of_general op.Imul d s = option_map (Imul d) (of_source s)
of_general (op.Carry o) d s = option_map (Carry o d) (of_source s)
of_general _ _ _ = None

abbrev pub of_low : Operation → GeneralReg → Part → Option Ins
of_low op.Load4 d (Memory m) = Some (Load4 d m)
of_low _ _ _ = None

abbrev pub of_wide : Operation → XmmReg → Part → Option Ins
of_wide op.Movdqu d (Wide s) = Some (XMov d s)
of_wide op.Movdqu d (Memory m) = Some (XLoad d m)
of_wide (op.XBin o) d (Wide s) = Some (XBin o d s)
of_wide (op.XShift o) d (Number z) = option_map (XShift o d) (at_most 255 z)
of_wide op.XMovq d (General s) = Some (XMovq d s)
of_wide _ _ _ = None

abbrev pub of_memory : Operation → Mem → Part → Option Ins
of_memory op.Store m (General s) = Some (Store m s)
of_memory op.Store4 m (Low s) = Some (Store4 m s)
of_memory op.Movdqu m (Wide s) = Some (XStore m s)
of_memory _ _ _ = None

abbrev pub of_two : Operation → Part → Part → Option Ins
of_two o (General d) s = of_general o d s
of_two o (Low d) s = of_low o d s
of_two o (Wide d) s = of_wide o d s
of_two o (Memory m) s = of_memory o m s
of_two o (Number z) s = None

abbrev pub of_three : Operation → Part → Part → Part → Option Ins
of_three op.Mulx (General high) (General low) s = option_map (Mulx high low) (of_source s)
of_three op.XShuf (Wide d) (Wide s) (Number z) = option_map (XShuf d s) (at_most 255 z)
of_three op.XClmul (Wide d) (Wide s) (Number z) = option_map (XClmul d s) (at_most 255 z)
of_three op.XIns (Wide d) (General s) (Number z) = option_map (XIns d s) (at_most 255 z)
of_three op.XExt (General d) (Wide s) (Number z) = option_map (XExt d s) (at_most 255 z)
of_three _ _ _ _ = None

abbrev pub instruction : Operation → Parts → Option Ins
instruction o (One a) = of_one o a
instruction o (Two d s) = of_two o d s
instruction o (Three d a b) = of_three o d a b
