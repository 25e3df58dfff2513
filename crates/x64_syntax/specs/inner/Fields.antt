-- Instructions whose numbers are those of the code's types.
use Rattle.std.specs.Prelude.{ℕ, Bool, true, ◌&&◌, ◌≡◌, Option, Some, None}
use Rattle.x64_syntax.specs.declared.places.Reg.{Reg as GeneralReg}
use Rattle.x64_syntax.specs.declared.operands.Mem.{Mem}
use Rattle.x64_syntax.specs.declared.operands.Opr.{Opr}
use Rattle.x64_syntax.specs.declared.operands.Opr.TheVariants.{R, Imm, M}
use Rattle.x64_syntax.specs.declared.instructions.Ins.{Ins}
use Rattle.x64_syntax.specs.declared.instructions.Ins.TheVariants.{Mov, Store, Load1, Load4, Store4, Lea, Cmov, Push, Pop, Alu, One, Shift, Imul, Mul, Mulx, Carry, XMov, XLoad, XStore, XBin, XShuf, XShift, XIns, XExt, XMovq, XClmul}
use Rattle.x64_syntax.specs.Ranges.{is_i32, is_i64, is_u8}

abbrev pub scale_fits : Option (GeneralReg × ℕ) → Bool
scale_fits None = true
scale_fits (Some i) = is_u8 i.1

abbrev pub memory_fits : Mem → Bool
memory_fits m = is_i32 m.disp && scale_fits m.index

abbrev pub source_fits : Opr → Bool
source_fits (R r) = true
source_fits (Imm z) = is_i64 z
source_fits (M m) = memory_fits m

abbrev pub fields_fit : Ins → Bool
fields_fit (Mov d s) = source_fits s
fields_fit (Store m s) = memory_fits m
fields_fit (Load1 d m) = memory_fits m
fields_fit (Load4 d m) = memory_fits m
fields_fit (Store4 m s) = memory_fits m
fields_fit (Lea d m) = memory_fits m
fields_fit (Cmov c d s) = true
fields_fit (Push s) = true
fields_fit (Pop d) = true
fields_fit (Alu op d s) = source_fits s
fields_fit (One op d) = true
fields_fit (Shift op d n) = is_u8 n
fields_fit (Imul d s) = source_fits s
fields_fit (Mul s) = source_fits s
fields_fit (Mulx high low s) = source_fits s
fields_fit (Carry op d s) = source_fits s
fields_fit (XMov d s) = true
fields_fit (XLoad d m) = memory_fits m
fields_fit (XStore m s) = memory_fits m
fields_fit (XBin op d s) = true
fields_fit (XShuf d s n) = is_u8 n
fields_fit (XShift op d n) = is_u8 n
fields_fit (XIns d s n) = is_u8 n
fields_fit (XExt d s n) = is_u8 n
fields_fit (XMovq d s) = true
fields_fit (XClmul d s n) = is_u8 n

-- The constant has 64 bits with sign, the displacement 32, and the scale and the count are bytes.
abbrev pub FieldsFit : Ins → Type 0
FieldsFit i = fields_fit i ≡ true
