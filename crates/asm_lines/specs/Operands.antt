-- Instructions as a name and operands, in the order in which a source has them.
use Rattle.std.specs.Prelude.{pos}
use Rattle.x64_syntax.specs.declared.operands.Opr.{Opr}
use Rattle.x64_syntax.specs.declared.operands.Opr.TheVariants.{R, Imm, M}
use Rattle.x64_syntax.specs.declared.instructions.Ins.{Ins}
use Rattle.x64_syntax.specs.declared.instructions.Ins.TheVariants.{Mov, Store, Load1, Load4, Store4, Lea, Cmov, Push, Pop, Alu, One as OneIns, Shift, Imul, Mul, Mulx, Carry, XMov, XLoad, XStore, XBin, XShuf, XShift, XIns, XExt, XMovq, XClmul}
use Rattle.x64_syntax.specs.declared.operations.Operation.{Operation}
use Rattle.x64_syntax.specs.declared.operations.Operation.TheVariants as op
use Rattle.x64_syntax.specs.Numbers.{word_of}
use Rattle.asm_lines.specs.declared.forms.Part.{Part}
use Rattle.asm_lines.specs.declared.forms.Part.TheVariants.{General, Low, Wide, Number, Memory}
use Rattle.asm_lines.specs.declared.forms.Parts.{Parts}
use Rattle.asm_lines.specs.declared.forms.Parts.TheVariants.{One, Two, Three}

abbrev pub source : Opr → Part
source (R r) = General r
source (Imm z) = Number z
source (M m) = Memory m

-- the constant of a move has no sign
abbrev pub move_source : Opr → Part
move_source (Imm z) = Number (pos (word_of z))
move_source s = source s

abbrev pub operands : Ins → Parts
operands (Mov d s) = Two (General d) (move_source s)
operands (Store m s) = Two (Memory m) (General s)
operands (Load1 d m) = Two (General d) (Memory m)
operands (Load4 d m) = Two (Low d) (Memory m)
operands (Store4 m s) = Two (Memory m) (Low s)
operands (Lea d m) = Two (General d) (Memory m)
operands (Cmov c d s) = Two (General d) (General s)
operands (Push s) = One (General s)
operands (Pop d) = One (General d)
operands (Alu o d s) = Two (General d) (source s)
operands (OneIns o d) = One (General d)
operands (Shift o d n) = Two (General d) (Number (pos n))
operands (Imul d s) = Two (General d) (source s)
operands (Mul s) = One (source s)
operands (Mulx high low s) = Three (General high) (General low) (source s)
operands (Carry o d s) = Two (General d) (source s)
operands (XMov d s) = Two (Wide d) (Wide s)
operands (XLoad d m) = Two (Wide d) (Memory m)
operands (XStore m s) = Two (Memory m) (Wide s)
operands (XBin o d s) = Two (Wide d) (Wide s)
operands (XShuf d s n) = Three (Wide d) (Wide s) (Number (pos n))
operands (XShift o d n) = Two (Wide d) (Number (pos n))
operands (XIns d s n) = Three (Wide d) (General s) (Number (pos n))
operands (XExt d s n) = Three (General d) (Wide s) (Number (pos n))
operands (XMovq d s) = Two (Wide d) (General s)
operands (XClmul d s n) = Three (Wide d) (Wide s) (Number (pos n))

-- what an instruction is by its name
abbrev pub operation : Ins → Operation
operation (Mov d s) = op.Mov
operation (Store m s) = op.Store
operation (Load1 d m) = op.Load1
operation (Load4 d m) = op.Load4
operation (Store4 m s) = op.Store4
operation (Lea d m) = op.Lea
operation (Cmov c d s) = op.Cmov c
operation (Push s) = op.Push
operation (Pop d) = op.Pop
operation (Alu o d s) = op.Alu o
operation (OneIns o d) = op.One o
operation (Shift o d n) = op.Shift o
operation (Imul d s) = op.Imul
operation (Mul s) = op.Mul
operation (Mulx high low s) = op.Mulx
operation (Carry o d s) = op.Carry o
operation (XMov d s) = op.Movdqu
operation (XLoad d m) = op.Movdqu
operation (XStore m s) = op.Movdqu
operation (XBin o d s) = op.XBin o
operation (XShuf d s n) = op.XShuf
operation (XShift o d n) = op.XShift o
operation (XIns d s n) = op.XIns
operation (XExt d s n) = op.XExt
operation (XMovq d s) = op.XMovq
operation (XClmul d s n) = op.XClmul
