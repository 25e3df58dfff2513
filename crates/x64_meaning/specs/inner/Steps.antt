-- What one step of the machine that runs leaves: in plain numbers, and against what the instruction does.
use Rattle.std.specs.Prelude.{◌≡◌, ℕ, zero, ◌<◌, length, if◌then◌else◌, ◌+◌, ◌-◌, ◌*◌, ◌/◌, ◌%◌, ◌^◌, Bool, true, false, not, ◌&&◌, ◌||◌, nat_le, ◌==◌, List, [], ◌∷◌, Option, Some, None, Result, Ok, Err, bit_and, bit_or, bit_xor, slice_index, slice_set}
use Rattle.x64_syntax.specs.declared.places.Reg.{Reg as GeneralReg}
use Rattle.x64_syntax.specs.declared.places.Reg.TheVariants.{Rax, Rdx, Rsp}
use Rattle.x64_syntax.specs.declared.places.FlagName.{FlagName}
use Rattle.x64_syntax.specs.declared.places.FlagName.TheVariants.{Cf, Zf, Sf, Of}
use Rattle.x64_syntax.specs.declared.conditions.Cond.{Cond}
use Rattle.x64_syntax.specs.declared.conditions.Cond.TheVariants.{E, Ne, B, Be, A, Ae}
use Rattle.x64_syntax.specs.declared.operands.Mem.{Mem}
use Rattle.x64_syntax.specs.declared.operands.Opr.{Opr}
use Rattle.x64_syntax.specs.declared.operands.Opr.TheVariants.{R, Imm, M}
use Rattle.x64_syntax.specs.declared.instructions.AluOp.{AluOp}
use Rattle.x64_syntax.specs.declared.instructions.AluOp.TheVariants as alu
use Rattle.x64_syntax.specs.declared.instructions.OneOp.{OneOp}
use Rattle.x64_syntax.specs.declared.instructions.OneOp.TheVariants as one
use Rattle.x64_syntax.specs.declared.instructions.ShiftOp.{ShiftOp}
use Rattle.x64_syntax.specs.declared.instructions.ShiftOp.TheVariants as shift
use Rattle.x64_syntax.specs.declared.instructions.Ins.{Ins}
use Rattle.x64_syntax.specs.declared.instructions.XBinOp.{XBinOp}
use Rattle.x64_syntax.specs.declared.instructions.XBinOp.TheVariants as xbin
use Rattle.x64_syntax.specs.declared.instructions.XShiftOp.{XShiftOp}
use Rattle.x64_syntax.specs.declared.instructions.XShiftOp.TheVariants as xshift
use Rattle.x64_syntax.specs.declared.instructions.Ins.TheVariants.{Mov, Load1, Load4, Lea, Cmov, Pop, Alu, One as OneIns, Shift, Imul, Mul, Mulx, Carry, XMov, XBin, XShuf, XShift, XIns, XExt, XMovq, XClmul}
use Rattle.x64_syntax.specs.Instructions.{carry_flag}
use Rattle.x64_blocks.specs.declared.blocks.Outside.{Outside as NotHeld}
use Rattle.x64_blocks.specs.Memory.{Range}
use Rattle.x64_syntax.specs.declared.places.Xmm.{Xmm as XmmReg}
use Rattle.x64_syntax.specs.Places.{reg_number, xmm_number, flag_number}
use Rattle.aes_words.specs.Rounds as aes
use Rattle.word_ops.specs.Words as words
use Rattle.word_ops.specs.Words128 as wide
use Rattle.term_core.specs.Value.{T, T128, word_of}
use Rattle.x64_meaning.specs.declared.machine.Flag.{Flag}
use Rattle.x64_meaning.specs.declared.machine.Flag.TheVariants.{Zero, One, Undefined}
use Rattle.x64_meaning.specs.declared.machine.Obs.{Obs}
use Rattle.x64_meaning.specs.declared.machine.Fault.{Fault}
use Rattle.x64_meaning.specs.declared.machine.Fault.TheVariants.{Outside, UndefinedFlag}
use Rattle.x64_meaning.specs.declared.machine.Obs.TheVariants.{Access}
use Rattle.x64_meaning.specs.State.{State, reg, flag, load}
use Rattle.x64_meaning.specs.Run.{Outcome, Done, Faulted, address, cond_holds, is_undefined}

-- the one observation of a step, or none
abbrev pub last_of : List Obs → Option Obs
last_of [] = None
last_of (o ∷ os) = Some o

-- The state after and the observation, or the fault: then the machine is as before and nothing was observed.
abbrev pub Steps : Outcome → State → State → Option Obs → Result (Unit {0}) Fault → Type 0
Steps (Done s seen) old new last result = (result ≡ Ok tt) × (new ≡ s) × (last ≡ last_of seen)
Steps (Faulted f) old new last result = (result ≡ Err f) × (new ≡ old) × (last ≡ None)

-- the same where the observation is returned
abbrev pub Acts : Outcome → State → State → Result (Option Obs) Fault → Type 0
Acts (Done s seen) old new result = (result ≡ Ok (last_of seen)) × (new ≡ s)
Acts (Faulted f) old new result = (result ≡ Err f) × (new ≡ old)

-- the first of the flags that is undefined, as a fault
abbrev pub flag_fault : Option FlagName → Result (Unit {0}) Fault
flag_fault None = Ok tt
flag_fault (Some f) = Err (UndefinedFlag f)

-- the flag is defined where it is read
abbrev pub read_flag_fault : (FlagName → Bool) → State → FlagName → Result (Unit {0}) Fault
read_flag_fault is_read s f = if is_read f then (if is_undefined (flag s f) then Err (UndefinedFlag f) else Ok tt) else Ok tt

-- whether a flag is 1
abbrev pub is_one : Flag → Bool
is_one Zero = false
is_one One = true
is_one Undefined = false

-- whether the flags meet a condition
abbrev pub flags_meet : Cond → State → Bool
flags_meet E s = is_one (flag s Zf)
flags_meet Ne s = not (is_one (flag s Zf))
flags_meet B s = is_one (flag s Cf)
flags_meet Ae s = not (is_one (flag s Cf))
flags_meet Be s = is_one (flag s Cf) || is_one (flag s Zf)
flags_meet A s = not (is_one (flag s Cf)) && not (is_one (flag s Zf))

-- scale * index, or 0 where there is no index
abbrev pub index_part : State → Option (GeneralReg × ℕ) → ℕ
index_part s None = 0
index_part s (Some i) = i.1 * reg s i.0

-- base, index and displacement, added
abbrev pub address_sum : State → Mem → ℕ
address_sum s m = (reg s m.base + index_part s m.index + word_of m.disp) % T

-- a flag that says whether something holds
abbrev pub flag_if : Bool → Flag
flag_if true = One
flag_if false = Zero

-- whether a word is negative
abbrev pub negative : ℕ → Bool
negative n = nat_le (2 ^ 63) n

abbrev pub set_flag : FlagName → Flag → State → State
set_flag f v s = record s { flags = slice_set s.flags (flag_number f) v }

abbrev pub set_reg : GeneralReg → ℕ → State → State
set_reg d n s = record s { regs = slice_set s.regs (reg_number d) n }

-- the flags of a result, in order
abbrev pub with_result : ℕ → Flag → Flag → State → State
with_result r carry overflow s =
    set_flag Of overflow (set_flag Sf (flag_if (negative r)) (set_flag Zf (flag_if (r == 0)) (set_flag Cf carry s)))

-- a result in a register, with its flags
abbrev pub result_state : GeneralReg → ℕ → Flag → Flag → State → State
result_state d r carry overflow s = with_result r carry overflow (set_reg d r s)

-- a + b + c
abbrev pub sum_state : State → GeneralReg → ℕ → Bool → State
sum_state s d b c =
    let a = reg s d in
    let r = words.sum a b c in
    result_state d r (flag_if (words.carries a b c)) (flag_if (negative (bit_and (bit_xor a r) (bit_xor b r)))) s

abbrev pub difference_overflows : ℕ → ℕ → ℕ → Flag
difference_overflows a b r = flag_if (negative (bit_and (bit_xor a b) (bit_xor a r)))

-- a - b - c
abbrev pub difference_state : State → GeneralReg → ℕ → Bool → State
difference_state s d b c =
    let a = reg s d in
    let r = words.difference a b c in
    result_state d r (flag_if (words.borrows a b c)) (difference_overflows a b r) s

abbrev pub comparison_state : State → GeneralReg → ℕ → State
comparison_state s d b =
    let a = reg s d in
    let r = words.difference a b false in
    with_result r (flag_if (words.borrows a b false)) (difference_overflows a b r) s

abbrev pub alu_effect : AluOp → State → GeneralReg → ℕ → State
alu_effect alu.Add s d b = sum_state s d b false
alu_effect alu.Adc s d b = sum_state s d b (is_one (flag s Cf))
alu_effect alu.Sub s d b = difference_state s d b false
alu_effect alu.Sbb s d b = difference_state s d b (is_one (flag s Cf))
alu_effect alu.Cmp s d b = comparison_state s d b
alu_effect alu.And s d b = result_state d (bit_and (reg s d) b) Zero Zero s
alu_effect alu.Or s d b = result_state d (bit_or (reg s d) b) Zero Zero s
alu_effect alu.Xor s d b = result_state d (bit_xor (reg s d) b) Zero Zero s

abbrev pub one_effect : OneOp → State → GeneralReg → State
one_effect one.Neg s d =
    let a = reg s d in
    result_state d (words.difference 0 a false) (flag_if (not (a == 0))) (flag_if (a == 2 ^ 63)) s
one_effect one.Not s d = set_reg d (T - 1 - reg s d) s

abbrev pub bit_at : ℕ → ℕ → Bool
bit_at m a = bit_and (a / 2 ^ m) 1 == 1

-- a rotation leaves carry and overflow open
abbrev pub rotation_state : State → GeneralReg → ℕ → State
rotation_state s d r = set_flag Of Undefined (set_flag Cf Undefined (set_reg d r s))

abbrev pub shift_effect : ShiftOp → State → GeneralReg → ℕ → State
shift_effect shift.Shl s d n =
    let a = reg s d in
    result_state d ((a * 2 ^ n) % T) (flag_if (bit_at (64 - n) a)) Undefined s
shift_effect shift.Shr s d n =
    let a = reg s d in
    result_state d (a / 2 ^ n) (flag_if (bit_at (n - 1) a)) Undefined s
shift_effect shift.Rol s d n = rotation_state s d (words.rol (reg s d) n % T)
shift_effect shift.Ror s d n = rotation_state s d (words.ror (reg s d) n % T)

abbrev pub product_state : State → GeneralReg → ℕ → State
product_state s d b =
    set_flag Of Undefined (set_flag Sf Undefined (set_flag Zf Undefined (set_flag Cf Undefined (set_reg d (words.lower (reg s d) b) s))))

abbrev pub wide_product : State → ℕ → State
wide_product s b =
    let high = words.upper (reg s Rax) b in
    let over = flag_if (not (high == 0)) in
    set_flag Of over (set_flag Sf Undefined (set_flag Zf Undefined (set_flag Cf over (set_reg Rdx high (set_reg Rax (words.lower (reg s Rax) b) s)))))

abbrev pub halves : State → GeneralReg → GeneralReg → ℕ → State
halves s high low b = set_reg low (words.lower (reg s Rdx) b) (set_reg high (words.upper (reg s Rdx) b) s)

abbrev pub carry_state : FlagName → State → GeneralReg → ℕ → State
carry_state f s d b =
    let a = reg s d in
    let c = is_one (flag s f) in
    set_flag f (flag_if (words.carries a b c)) (set_reg d (words.sum a b c) s)

-- an xmm register
abbrev pub xmm : State → XmmReg → ℕ
xmm s x = slice_index s.xmms (xmm_number x)

abbrev pub set_xmm : XmmReg → ℕ → State → State
set_xmm d n s = record s { xmms = slice_set s.xmms (xmm_number d) n }

-- the sums of the words
abbrev pub sums : ℕ → ℕ → ℕ
sums a s = wide.pair ((wide.high a + wide.high s) % T) ((wide.low a + wide.low s) % T)

-- what instructions compute of words of 128 bits
abbrev pub combined : XBinOp → ℕ → ℕ → ℕ
combined xbin.Pxor a s = bit_xor a s
combined xbin.Pand a s = bit_and a s
combined xbin.Por a s = bit_or a s
combined xbin.Paddd a s = wide.paddd a s % T128
combined xbin.Pshufb a s = wide.pshufb a s % T128
combined xbin.Paddq a s = sums a s
combined xbin.Punpcklqdq a s = wide.pair (wide.low s) (wide.low a)
combined xbin.Punpckhqdq a s = wide.pair (wide.high s) (wide.high a)
combined xbin.Aesenc a s = aes.aesenc a s % T128
combined xbin.Aesenclast a s = aes.aesenclast a s % T128

abbrev pub shifted : XShiftOp → ℕ → ℕ → ℕ
shifted xshift.Pslld a n = wide.pslld a n % T128
shifted xshift.Psrld a n = wide.psrld a n % T128
shifted xshift.Pslldq a n = wide.pslldq a n % T128
shifted xshift.Psrldq a n = wide.psrldq a n % T128

-- a word put into one of the halves, and one of them taken
abbrev pub inserted : ℕ → ℕ → ℕ → ℕ
inserted zero a s = wide.pair (wide.high a) s
inserted _ a s = wide.pair s (wide.low a)

abbrev pub extracted : ℕ → ℕ → ℕ
extracted zero s = wide.low s
extracted _ s = wide.high s

-- a number that is loaded and its access, or why there is none
abbrev pub load_result : ℕ → ℕ → Option ℕ → Result (ℕ × Option Obs) Fault
load_result a size None = Err (Outside a)
load_result a size (Some n) = Ok (n, Some (Access a size false))

abbrev pub found_result : ℕ → ℕ → Result ℕ NotHeld → Result (ℕ × Option Obs) Fault
found_result a size (Ok n) = Ok (n, Some (Access a size false))
found_result a size (Err e) = Err (Outside a)

abbrev pub stored_result : ℕ → ℕ → Result (Unit {0}) NotHeld → Result (Option Obs) Fault
stored_result a size (Ok u) = Ok (Some (Access a size true))
stored_result a size (Err e) = Err (Outside a)

-- what an access would show, by whether a block holds its bytes
abbrev pub would_result : Bool → ℕ → ℕ → Bool → Result (Option Obs) Fault
would_result true a size write = Ok (Some (Access a size write))
would_result false a size write = Err (Outside a)

abbrev pub source_word : State → Opr → Result (ℕ × Option Obs) Fault
source_word s (R r) = Ok (reg s r, None)
source_word s (Imm z) = Ok (word_of z, None)
source_word s (M m) = load_result (address s m) 8 (load s (address s m) 8)

-- the source of an instruction that has one
abbrev pub operand_of : Ins → Option Opr
operand_of (Mov d o) = Some o
operand_of (Alu op d o) = Some o
operand_of (Imul d o) = Some o
operand_of (Mul o) = Some o
operand_of (Mulx high low o) = Some o
operand_of (Carry op d o) = Some o
operand_of i = None

abbrev pub input_from : State → Option Opr → Result (ℕ × Option Obs) Fault
input_from s None = Ok (0, None)
input_from s (Some o) = source_word s o

-- the word that an instruction takes in, and the access that this needs
abbrev pub input_word : State → Ins → Result (ℕ × Option Obs) Fault
input_word s (Pop d) = load_result (reg s Rsp) 8 (load s (reg s Rsp) 8)
input_word s (Load1 d m) = load_result (address s m) 1 (load s (address s m) 1)
input_word s (Load4 d m) = load_result (address s m) 4 (load s (address s m) 4)
input_word s i = input_from s (operand_of i)

-- what an instruction on xmm registers leaves, memory aside
abbrev pub wide_effect : Ins → State → State
wide_effect (XMov d x) s = set_xmm d (xmm s x) s
wide_effect (XBin op d x) s = set_xmm d (combined op (xmm s d) (xmm s x)) s
wide_effect (XShuf d x n) s = set_xmm d (wide.pshufd (xmm s x) n % T128) s
wide_effect (XShift op d n) s = set_xmm d (shifted op (xmm s d) n) s
wide_effect (XIns d r n) s = set_xmm d (inserted n (xmm s d) (reg s r)) s
wide_effect (XExt d x n) s = set_reg d (extracted n (xmm s x)) s
wide_effect (XMovq d r) s = set_xmm d (wide.pair 0 (reg s r)) s
wide_effect (XClmul d x n) s = set_xmm d (aes.clmul (xmm s d) (xmm s x) n % T128) s
wide_effect i s = s

-- what an instruction leaves in registers and flags, by what it took in
abbrev pub effect : Ins → State → ℕ → State
effect (Mov d o) s b = set_reg d b s
effect (Load1 d m) s b = set_reg d b s
effect (Load4 d m) s b = set_reg d b s
effect (Lea d m) s b = set_reg d (address s m) s
effect (Cmov c d r) s b = set_reg d (reg s (if cond_holds c s then r else d)) s
effect (Pop d) s b = let t = set_reg d b s in set_reg Rsp ((reg t Rsp + 8) % T) t
effect (Alu op d o) s b = alu_effect op s d b
effect (OneIns op d) s b = one_effect op s d
effect (Shift op d n) s b = shift_effect op s d n
effect (Imul d o) s b = product_state s d b
effect (Mul o) s b = wide_product s b
effect (Mulx high low o) s b = halves s high low b
effect (Carry op d o) s b = carry_state (carry_flag op) s d b
effect i s b = wide_effect i s

-- the registers of a machine are 16 words, and the xmm registers 16 words of 128 bits
pub record Fits (s : State) : Type 0 where
  pub regs : length s.regs ≡ 16
  pub each : (r : GeneralReg) → reg s r < T
  pub wide : (x : XmmReg) → xmm s x < T128

-- what a store of so many bytes leaves
abbrev pub Puts : Option (List Range) → ℕ → ℕ → State → State → Result (Option Obs) Fault → Type 0
Puts None a size old new result = (result ≡ Err (Outside a)) × (new ≡ old)
Puts (Some bs) a size old new result = (result ≡ Ok (Some (Access a size true))) × (new ≡ record old { blocks = bs })

-- what a step would show, or its fault
abbrev pub Foresees : Outcome → Result (Option Obs) Fault → Type 0
Foresees (Done s seen) result = result ≡ Ok (last_of seen)
Foresees (Faulted f) result = result ≡ Err f

-- what a load of so many bytes would show, by what it would give
abbrev pub WouldGet : Option ℕ → ℕ → ℕ → Result (Option Obs) Fault → Type 0
WouldGet None a size result = result ≡ Err (Outside a)
WouldGet (Some n) a size result = result ≡ Ok (Some (Access a size false))

-- what a store of so many bytes would show, by what it would leave
abbrev pub WouldPut : Option (List Range) → ℕ → ℕ → Result (Option Obs) Fault → Type 0
WouldPut None a size result = result ≡ Err (Outside a)
WouldPut (Some bs) a size result = result ≡ Ok (Some (Access a size true))
