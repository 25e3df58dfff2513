-- How instructions are written. A further instruction is a further line of the table, and of the list.
use Rattle.std.specs.Prelude.{ℕ, List, [], ◌∷◌, codes}
use Prim.Native.String.{String}
use Rattle.x64_syntax.specs.declared.conditions.Cond.TheVariants as cond
use Rattle.x64_syntax.specs.declared.instructions.AluOp.TheVariants as alu
use Rattle.x64_syntax.specs.declared.instructions.OneOp.TheVariants as one
use Rattle.x64_syntax.specs.declared.instructions.ShiftOp.TheVariants as shift
use Rattle.x64_syntax.specs.declared.instructions.CarryOp.TheVariants as carry
use Rattle.x64_syntax.specs.declared.instructions.XBinOp.TheVariants as xbin
use Rattle.x64_syntax.specs.declared.instructions.XShiftOp.TheVariants as xshift
use Rattle.x64_syntax.specs.declared.operations.Operation.{Operation}
use Rattle.x64_syntax.specs.declared.operations.Operation.TheVariants as op

-- an instruction's name in a source, and its mnemonics in GAS and in MASM syntax
pub record Spelling : Type 0 where
  pub name : List ℕ
  pub gas : List ℕ
  pub masm : List ℕ

abbrev pub spelling_of : String → String → String → Spelling
spelling_of name gas masm = record { name = codes name; gas = codes gas; masm = codes masm }

-- GAS has a further mnemonic for a move of a constant
unfoldable pub spelling : Operation → Spelling
spelling op.Mov = spelling_of "Mov64" "movq" "mov"
spelling op.Store = spelling_of "Store64" "movq" "mov"
spelling op.Load1 = spelling_of "Movzx8" "movzbq" "movzx"
spelling op.Load4 = spelling_of "Mov32" "movl" "mov"
spelling op.Store4 = spelling_of "Store32" "movl" "mov"
spelling op.Lea = spelling_of "Lea64" "leaq" "lea"
spelling (op.Cmov cond.E) = spelling_of "Cmove" "cmove" "cmove"
spelling (op.Cmov cond.Ne) = spelling_of "Cmovne" "cmovne" "cmovne"
spelling (op.Cmov cond.B) = spelling_of "Cmovb" "cmovb" "cmovb"
spelling (op.Cmov cond.Be) = spelling_of "Cmovbe" "cmovbe" "cmovbe"
spelling (op.Cmov cond.A) = spelling_of "Cmova" "cmova" "cmova"
spelling (op.Cmov cond.Ae) = spelling_of "Cmovae" "cmovae" "cmovae"
spelling op.Push = spelling_of "Push64" "pushq" "push"
spelling op.Pop = spelling_of "Pop64" "popq" "pop"
spelling (op.Alu alu.Add) = spelling_of "Add64" "addq" "add"
spelling (op.Alu alu.Adc) = spelling_of "Adc64" "adcq" "adc"
spelling (op.Alu alu.Sub) = spelling_of "Sub64" "subq" "sub"
spelling (op.Alu alu.Sbb) = spelling_of "Sbb64" "sbbq" "sbb"
spelling (op.Alu alu.Cmp) = spelling_of "Cmp64" "cmpq" "cmp"
spelling (op.Alu alu.And) = spelling_of "And64" "andq" "and"
spelling (op.Alu alu.Or) = spelling_of "Or64" "orq" "or"
spelling (op.Alu alu.Xor) = spelling_of "Xor64" "xorq" "xor"
spelling (op.One one.Neg) = spelling_of "Neg64" "negq" "neg"
spelling (op.One one.Not) = spelling_of "Not64" "notq" "not"
spelling (op.Shift shift.Shl) = spelling_of "Shl64" "shlq" "shl"
spelling (op.Shift shift.Shr) = spelling_of "Shr64" "shrq" "shr"
spelling (op.Shift shift.Rol) = spelling_of "Rol64" "rolq" "rol"
spelling (op.Shift shift.Ror) = spelling_of "Ror64" "rorq" "ror"
spelling op.Imul = spelling_of "Imul64" "imulq" "imul"
spelling op.Mul = spelling_of "Mul64" "mulq" "mul"
spelling op.Mulx = spelling_of "Mulx64" "mulxq" "mulx"
spelling (op.Carry carry.Adcx) = spelling_of "Adcx64" "adcxq" "adcx"
spelling (op.Carry carry.Adox) = spelling_of "Adox64" "adoxq" "adox"
spelling op.Movdqu = spelling_of "Movdqu" "movdqu" "movdqu"
spelling (op.XBin xbin.Pxor) = spelling_of "Pxor" "pxor" "pxor"
spelling (op.XBin xbin.Pand) = spelling_of "Pand" "pand" "pand"
spelling (op.XBin xbin.Por) = spelling_of "Por" "por" "por"
spelling (op.XBin xbin.Paddd) = spelling_of "Paddd" "paddd" "paddd"
spelling (op.XBin xbin.Pshufb) = spelling_of "Pshufb" "pshufb" "pshufb"
spelling (op.XBin xbin.Paddq) = spelling_of "Paddq" "paddq" "paddq"
spelling (op.XBin xbin.Punpcklqdq) = spelling_of "Punpcklqdq" "punpcklqdq" "punpcklqdq"
spelling (op.XBin xbin.Punpckhqdq) = spelling_of "Punpckhqdq" "punpckhqdq" "punpckhqdq"
spelling (op.XBin xbin.Aesenc) = spelling_of "Aesenc" "aesenc" "aesenc"
spelling (op.XBin xbin.Aesenclast) = spelling_of "Aesenclast" "aesenclast" "aesenclast"
spelling op.XShuf = spelling_of "Pshufd" "pshufd" "pshufd"
spelling (op.XShift xshift.Pslld) = spelling_of "Pslld" "pslld" "pslld"
spelling (op.XShift xshift.Psrld) = spelling_of "Psrld" "psrld" "psrld"
spelling (op.XShift xshift.Pslldq) = spelling_of "Pslldq" "pslldq" "pslldq"
spelling (op.XShift xshift.Psrldq) = spelling_of "Psrldq" "psrldq" "psrldq"
spelling op.XIns = spelling_of "Pinsrq" "pinsrq" "pinsrq"
spelling op.XExt = spelling_of "Pextrq" "pextrq" "pextrq"
spelling op.XMovq = spelling_of "Movq" "movq" "movq"
spelling op.XClmul = spelling_of "Pclmulqdq" "pclmulqdq" "pclmulqdq"

-- every instruction
unfoldable pub operations : List Operation
operations =
    op.Mov
    ∷ op.Store
    ∷ op.Load1
    ∷ op.Load4
    ∷ op.Store4
    ∷ op.Lea
    ∷ op.Cmov cond.E
    ∷ op.Cmov cond.Ne
    ∷ op.Cmov cond.B
    ∷ op.Cmov cond.Be
    ∷ op.Cmov cond.A
    ∷ op.Cmov cond.Ae
    ∷ op.Push
    ∷ op.Pop
    ∷ op.Alu alu.Add
    ∷ op.Alu alu.Adc
    ∷ op.Alu alu.Sub
    ∷ op.Alu alu.Sbb
    ∷ op.Alu alu.Cmp
    ∷ op.Alu alu.And
    ∷ op.Alu alu.Or
    ∷ op.Alu alu.Xor
    ∷ op.One one.Neg
    ∷ op.One one.Not
    ∷ op.Shift shift.Shl
    ∷ op.Shift shift.Shr
    ∷ op.Shift shift.Rol
    ∷ op.Shift shift.Ror
    ∷ op.Imul
    ∷ op.Mul
    ∷ op.Mulx
    ∷ op.Carry carry.Adcx
    ∷ op.Carry carry.Adox
    ∷ op.Movdqu
    ∷ op.XBin xbin.Pxor
    ∷ op.XBin xbin.Pand
    ∷ op.XBin xbin.Por
    ∷ op.XBin xbin.Paddd
    ∷ op.XBin xbin.Pshufb
    ∷ op.XBin xbin.Paddq
    ∷ op.XBin xbin.Punpcklqdq
    ∷ op.XBin xbin.Punpckhqdq
    ∷ op.XBin xbin.Aesenc
    ∷ op.XBin xbin.Aesenclast
    ∷ op.XShuf
    ∷ op.XShift xshift.Pslld
    ∷ op.XShift xshift.Psrld
    ∷ op.XShift xshift.Pslldq
    ∷ op.XShift xshift.Psrldq
    ∷ op.XIns
    ∷ op.XExt
    ∷ op.XMovq
    ∷ op.XClmul
    ∷ []

abbrev pub operation_name : Operation → List ℕ
operation_name o = (spelling o).name

abbrev pub gas_mnemonic : Operation → List ℕ
gas_mnemonic o = (spelling o).gas

abbrev pub masm_mnemonic : Operation → List ℕ
masm_mnemonic o = (spelling o).masm
