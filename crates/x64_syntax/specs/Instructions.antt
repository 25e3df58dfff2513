-- The instructions: what each takes, what it reads and what it writes, by volume 2 of Intel's manual. A further
-- instruction is a further row of each table.
use Rattle.std.specs.Prelude.{ℕ, ℤ, Bool, true, false, not, ◌&&◌, ◌||◌, ◌==◌, nat_le, List, [], ◌∷◌, ◌++◌, map, Option, Some, None, Result, Ok, Err, if◌then◌else◌}
use Rattle.std.specs.List.{list_any}
use Rattle.x64_syntax.specs.declared.places.Reg.{Reg as GeneralReg}
use Rattle.x64_syntax.specs.declared.places.Reg.TheVariants.{Rax, Rdx, Rsp}
use Rattle.x64_syntax.specs.declared.places.FlagName.{FlagName}
use Rattle.x64_syntax.specs.declared.places.FlagName.TheVariants.{Cf, Zf, Of}
use Rattle.x64_syntax.specs.declared.places.MachinePlace.{MachinePlace}
use Rattle.x64_syntax.specs.declared.places.MachinePlace.TheVariants.{Reg, Xmm, Flag}
use Rattle.x64_syntax.specs.declared.operands.Mem.{Mem}
use Rattle.x64_syntax.specs.declared.operands.Opr.{Opr}
use Rattle.x64_syntax.specs.declared.operands.Opr.TheVariants.{R, Imm, M}
use Rattle.x64_syntax.specs.declared.conditions.Cond.{Cond}
use Rattle.x64_syntax.specs.declared.conditions.Cond.TheVariants.{E, Ne, B, Be, A, Ae}
use Rattle.x64_syntax.specs.declared.instructions.AluOp.{AluOp}
use Rattle.x64_syntax.specs.declared.instructions.AluOp.TheVariants as alu
use Rattle.x64_syntax.specs.declared.instructions.OneOp.{OneOp}
use Rattle.x64_syntax.specs.declared.instructions.OneOp.TheVariants as one
use Rattle.x64_syntax.specs.declared.instructions.ShiftOp.{ShiftOp}
use Rattle.x64_syntax.specs.declared.instructions.ShiftOp.TheVariants as shift
use Rattle.x64_syntax.specs.declared.instructions.CarryOp.{CarryOp}
use Rattle.x64_syntax.specs.declared.instructions.CarryOp.TheVariants as carry
use Rattle.x64_syntax.specs.declared.instructions.Ins.{Ins}
use Rattle.x64_syntax.specs.declared.instructions.Ins.TheVariants.{Mov, Store, Load1, Load4, Store4, Lea, Cmov, Push, Pop, Alu, One, Shift, Imul, Mul, Mulx, Carry, XMov, XLoad, XStore, XBin, XShuf, XShift, XIns, XExt, XMovq, XClmul}
use Rattle.x64_syntax.specs.declared.forms.FormFault.{FormFault}
use Rattle.x64_syntax.specs.declared.forms.FormFault.TheVariants.{Immediate, Count, Scale, Register, SameHighLow}
use Rattle.x64_syntax.specs.Ranges.{is_i32, is_i64, is_u8}
use Rattle.x64_syntax.specs.Places.{all_flags, reg_eq, place_eq}

-- the source is a register, memory, or a constant that passes a test
abbrev pub constant_passes : (ℤ → Bool) → Opr → Bool
constant_passes test (Imm z) = test z
constant_passes test _ = true

-- the source is a register or memory
abbrev pub no_constant : Opr → Bool
no_constant (Imm z) = false
no_constant _ = true

-- what instructions with flags take as constants, and tests too
abbrev pub is_short : Opr → Bool
is_short s = constant_passes is_i32 s

-- the constant is one that the form takes
abbrev pub constant_fits : Ins → Bool
constant_fits (Mov d s) = constant_passes is_i64 s
constant_fits (Alu op d s) = is_short s
constant_fits (Imul d s) = no_constant s
constant_fits (Mul s) = no_constant s
constant_fits (Mulx high low s) = no_constant s
constant_fits (Carry op d s) = no_constant s
constant_fits _ = true

-- bit 0 chooses a word of the one register, and bit 4 a word of the other
abbrev pub chooses_words : ℕ → Bool
chooses_words n = ((n == 0) || (n == 1)) || ((n == 16) || (n == 17))

-- shifts go by 1 to 63 bits, an xmm register has the words 0 and 1, and its shifts and picks go by a byte
abbrev pub count_fits : Ins → Bool
count_fits (Shift op d n) = nat_le 1 n && nat_le n 63
count_fits (XIns d s n) = nat_le n 1
count_fits (XExt d s n) = nat_le n 1
count_fits (XShuf d s n) = is_u8 n
count_fits (XShift op d n) = is_u8 n
count_fits (XClmul d s n) = chooses_words n
count_fits _ = true

abbrev pub source_memory : Opr → Option Mem
source_memory (M m) = Some m
source_memory _ = None

-- the memory operand that is loaded from
abbrev pub loads_from : Ins → Option Mem
loads_from (Mov d s) = source_memory s
loads_from (Alu op d s) = source_memory s
loads_from (Imul d s) = source_memory s
loads_from (Mul s) = source_memory s
loads_from (Mulx high low s) = source_memory s
loads_from (Carry op d s) = source_memory s
loads_from (Load1 d m) = Some m
loads_from (Load4 d m) = Some m
loads_from (XLoad d m) = Some m
loads_from _ = None

-- the memory operand that is stored to
abbrev pub stores_to : Ins → Option Mem
stores_to (Store m s) = Some m
stores_to (Store4 m s) = Some m
stores_to (XStore m s) = Some m
stores_to _ = None

abbrev pub or_else : Option Mem → Option Mem → Option Mem
or_else None n = n
or_else (Some m) n = Some m

-- the memory operand of an access
abbrev pub accesses : Ins → Option Mem
accesses i = or_else (loads_from i) (stores_to i)

-- the operand that has an address: that of an access, or that of Lea
abbrev pub addresses : Ins → Option Mem
addresses (Lea d m) = Some m
addresses i = accesses i

abbrev pub index_registers : Option (GeneralReg × ℕ) → List GeneralReg
index_registers None = []
index_registers (Some i) = i.0 ∷ []

abbrev pub is_scale : Option (GeneralReg × ℕ) → Bool
is_scale None = true
is_scale (Some i) = ((i.1 == 1) || (i.1 == 2)) || ((i.1 == 4) || (i.1 == 8))

-- the displacement is a number of 32 bits with sign
abbrev pub displacement_fits : Option Mem → Bool
displacement_fits None = true
displacement_fits (Some m) = is_i32 m.disp

abbrev pub has_scale : Option Mem → Bool
has_scale None = true
has_scale (Some m) = is_scale m.index

-- the registers of an address
abbrev pub address_places : Mem → List MachinePlace
address_places m = Reg m.base ∷ map Reg (index_registers m.index)

-- the registers of a source
abbrev pub source_places : Opr → List MachinePlace
source_places (R r) = Reg r ∷ []
source_places (Imm z) = []
source_places (M m) = address_places m

-- the flags that a condition asks for
abbrev pub cond_flags : Cond → List FlagName
cond_flags E = Zf ∷ []
cond_flags Ne = Zf ∷ []
cond_flags B = Cf ∷ []
cond_flags Ae = Cf ∷ []
cond_flags Be = Cf ∷ Zf ∷ []
cond_flags A = Cf ∷ Zf ∷ []

-- the flag that a sum or difference takes in
abbrev pub alu_reads : AluOp → List MachinePlace
alu_reads alu.Adc = Flag Cf ∷ []
alu_reads alu.Sbb = Flag Cf ∷ []
alu_reads _ = []

abbrev pub carry_flag : CarryOp → FlagName
carry_flag carry.Adcx = Cf
carry_flag carry.Adox = Of

-- the places that an instruction reads: its sources with base and index, its destination where it is combined, and flags
abbrev pub read_places : Ins → List MachinePlace
read_places (Mov d s) = source_places s
read_places (Store m s) = Reg s ∷ address_places m
read_places (Load1 d m) = address_places m
read_places (Load4 d m) = address_places m
read_places (Store4 m s) = Reg s ∷ address_places m
read_places (Lea d m) = address_places m
read_places (Cmov c d s) = Reg s ∷ Reg d ∷ map Flag (cond_flags c)
read_places (Push s) = Reg s ∷ []
read_places (Pop d) = []
read_places (Alu op d s) = Reg d ∷ (alu_reads op ++ source_places s)
read_places (One op d) = Reg d ∷ []
read_places (Shift op d n) = Reg d ∷ []
read_places (Imul d s) = Reg d ∷ source_places s
read_places (Mul s) = Reg Rax ∷ source_places s
read_places (Mulx high low s) = Reg Rdx ∷ source_places s
read_places (Carry op d s) = Reg d ∷ Flag (carry_flag op) ∷ source_places s
read_places (XMov d s) = Xmm s ∷ []
read_places (XLoad d m) = address_places m
read_places (XStore m s) = Xmm s ∷ address_places m
read_places (XBin op d s) = Xmm d ∷ Xmm s ∷ []
read_places (XShuf d s n) = Xmm s ∷ []
read_places (XShift op d n) = Xmm d ∷ []
read_places (XIns d s n) = Xmm d ∷ Reg s ∷ []
read_places (XExt d s n) = Xmm s ∷ []
read_places (XMovq d s) = Reg s ∷ []
read_places (XClmul d s n) = Xmm d ∷ Xmm s ∷ []

abbrev pub flag_places : List MachinePlace
flag_places = map Flag all_flags

abbrev pub alu_writes : AluOp → GeneralReg → List MachinePlace
alu_writes alu.Cmp d = flag_places
alu_writes _ d = Reg d ∷ flag_places

abbrev pub one_writes : OneOp → GeneralReg → List MachinePlace
one_writes one.Neg d = Reg d ∷ flag_places
one_writes one.Not d = Reg d ∷ []

abbrev pub shift_writes : ShiftOp → GeneralReg → List MachinePlace
shift_writes shift.Shl d = Reg d ∷ flag_places
shift_writes shift.Shr d = Reg d ∷ flag_places
shift_writes shift.Rol d = Reg d ∷ Flag Cf ∷ Flag Of ∷ []
shift_writes shift.Ror d = Reg d ∷ Flag Cf ∷ Flag Of ∷ []

-- the places that an instruction writes
abbrev pub written_places : Ins → List MachinePlace
written_places (Mov d s) = Reg d ∷ []
written_places (Store m s) = []
written_places (Load1 d m) = Reg d ∷ []
written_places (Load4 d m) = Reg d ∷ []
written_places (Store4 m s) = []
written_places (Lea d m) = Reg d ∷ []
written_places (Cmov c d s) = Reg d ∷ []
written_places (Push s) = []
written_places (Pop d) = Reg d ∷ []
written_places (Alu op d s) = alu_writes op d
written_places (One op d) = one_writes op d
written_places (Shift op d n) = shift_writes op d
written_places (Imul d s) = Reg d ∷ flag_places
written_places (Mul s) = Reg Rax ∷ Reg Rdx ∷ flag_places
written_places (Mulx high low s) = Reg high ∷ Reg low ∷ []
written_places (Carry op d s) = Reg d ∷ Flag (carry_flag op) ∷ []
written_places (XMov d s) = Xmm d ∷ []
written_places (XLoad d m) = Xmm d ∷ []
written_places (XStore m s) = []
written_places (XBin op d s) = Xmm d ∷ []
written_places (XShuf d s n) = Xmm d ∷ []
written_places (XShift op d n) = Xmm d ∷ []
written_places (XIns d s n) = Xmm d ∷ []
written_places (XExt d s n) = Reg d ∷ []
written_places (XMovq d s) = Xmm d ∷ []
written_places (XClmul d s n) = Xmm d ∷ []

abbrev pub is_among : List MachinePlace → MachinePlace → Bool
is_among places p = list_any (place_eq p) places

-- rsp is no operand, base or index: PUSH and POP alone use it, without naming it
abbrev pub names_rsp : Ins → Bool
names_rsp i = is_among (read_places i) (Reg Rsp) || is_among (written_places i) (Reg Rsp)

-- the halves of a product go to two registers
abbrev pub halves_differ : Ins → Bool
halves_differ (Mulx high low s) = not (reg_eq high low)
halves_differ _ = true

-- why an instruction isn't one of the machine's: constants and displacements first, then counts, scales, registers, and
-- the halves
abbrev pub form_of : Ins → Result (Unit {0}) FormFault
form_of i =
    if not (constant_fits i && displacement_fits (addresses i)) then Err Immediate
    else if not (count_fits i) then Err Count
    else if not (has_scale (addresses i)) then Err Scale
    else if names_rsp i then Err Register
    else if not (halves_differ i) then Err SameHighLow
    else Ok tt
