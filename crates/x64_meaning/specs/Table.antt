-- The instruction table, after volume 2 of Intel's manual: each instruction's equations, in order. The place on the left
-- gets the value on the right. This table alone decides what an instruction does, reads and writes.
use Rattle.std.specs.Prelude.{ℕ, zero, ◌-◌, ◌^◌, pos, Bool, ◌&&◌, ◌||◌, true, false, not, nat_le, List, [], ◌∷◌, map, Option, Some, None}
use Rattle.std.specs.List.{list_any}
use Rattle.x64_syntax.specs.declared.places.Reg.TheVariants.{Rax, Rdx}
use Rattle.x64_syntax.specs.declared.places.FlagName.{FlagName}
use Rattle.x64_syntax.specs.declared.places.FlagName.TheVariants.{Cf, Zf, Sf, Of}
use Rattle.x64_syntax.specs.declared.places.MachinePlace.{MachinePlace}
use Rattle.x64_syntax.specs.declared.places.MachinePlace.TheVariants.{Reg, Xmm, Flag}
use Rattle.x64_syntax.specs.declared.places.Reg.{Reg as GeneralReg}
use Rattle.x64_syntax.specs.declared.operands.Mem.{Mem}
use Rattle.x64_syntax.specs.declared.operands.Opr.{Opr}
use Rattle.x64_syntax.specs.declared.operands.Opr.TheVariants.{R, Imm, M}
use Rattle.x64_syntax.specs.declared.conditions.Cond.{Cond}
use Rattle.x64_syntax.specs.declared.conditions.Cond.TheVariants as cond
use Rattle.x64_syntax.specs.declared.instructions.AluOp.{AluOp}
use Rattle.x64_syntax.specs.declared.instructions.AluOp.TheVariants as alu
use Rattle.x64_syntax.specs.declared.instructions.OneOp.{OneOp}
use Rattle.x64_syntax.specs.declared.instructions.OneOp.TheVariants as one
use Rattle.x64_syntax.specs.declared.instructions.ShiftOp.{ShiftOp}
use Rattle.x64_syntax.specs.declared.instructions.ShiftOp.TheVariants as shift
use Rattle.x64_syntax.specs.declared.instructions.XBinOp.{XBinOp}
use Rattle.x64_syntax.specs.declared.instructions.XBinOp.TheVariants as xbin
use Rattle.x64_syntax.specs.declared.instructions.XShiftOp.{XShiftOp}
use Rattle.x64_syntax.specs.declared.instructions.XShiftOp.TheVariants as xshift
use Rattle.x64_syntax.specs.declared.instructions.Ins.{Ins}
use Rattle.x64_syntax.specs.declared.instructions.Ins.TheVariants.{Mov, Store, Load1, Load4, Store4, Lea, Cmov, Push, Pop, Alu, One, Shift, Imul, Mul, Mulx, Carry, XMov, XLoad, XStore, XBin, XShuf, XShift, XIns, XExt, XMovq, XClmul}
use Rattle.x64_syntax.specs.Instructions.{carry_flag, address_places}
use Rattle.x64_syntax.specs.declared.type_words.Sort.TheVariants as sort
use Rattle.term_core.specs.declared.operator.UnOp.TheVariants as un
use Rattle.term_core.specs.declared.operator.BinOp.{BinOp}
use Rattle.term_core.specs.declared.operator.BinOp.TheVariants as bin
use Rattle.term_core.specs.declared.operator.CountedOp.{CountedOp}
use Rattle.term_core.specs.declared.operator.CountedOp.TheVariants as counted
use Rattle.term_core.specs.Operators.{sort_eq}
use Rattle.term_core.specs.Value.{T, Val, word_of}
use Rattle.x64_meaning.specs.State.{State, read, write}
use Rattle.x64_meaning.specs.Exp.{Exp, Before, After, Loaded, Int, W64, Un, Bin, Ite, exp_value, exp_sort, among, takes, knows}
use Rattle.x64_meaning.specs.Exp as exp

pub record Equation : Type 0 where
  pub place : MachinePlace
  pub right : Exp

-- the equations of a place and of a flag
abbrev pub gets : MachinePlace → Exp → Equation
gets p e = record { place = p; right = e }

abbrev pub sets : FlagName → Exp → Equation
sets f e = gets (Flag f) e

-- a source operand's value
abbrev pub source : Opr → Exp
source (R r) = Before (Reg r)
source (Imm z) = W64 (word_of z)
source (M m) = Loaded 0

abbrev pub int_of : Exp → Exp
int_of e = Un un.Int e

abbrev pub sum : Exp → Exp → Exp
sum e f = Bin bin.Add e f

abbrev pub difference : Exp → Exp → Exp
difference e f = Bin bin.Sub e f

abbrev pub xor_of : Exp → Exp → Exp
xor_of e f = Bin bin.Xor e f

-- 1 where the condition holds, else 0
abbrev pub one_if : Exp → Exp
one_if c = Ite c (Int (pos 1)) (Int (pos 0))

-- 0 where the condition holds, else 1
abbrev pub one_unless : Exp → Exp
one_unless c = Ite c (Int (pos 0)) (Int (pos 1))

-- 1 where the whole number is at least so much
abbrev pub reaches : ℕ → Exp → Exp
reaches n e = one_if (Bin bin.Le (Int (pos n)) e)

-- a flag that is undefined
abbrev pub undefined_flag : Exp
undefined_flag = Int (pos 2)

-- the flag is 1
abbrev pub is_set : FlagName → Exp
is_set f = Bin bin.Eq (Before (Flag f)) (Int (pos 1))

abbrev pub is_clear : FlagName → Exp
is_clear f = Un un.LogicNot (is_set f)

abbrev pub holds : Cond → Exp
holds cond.E = is_set Zf
holds cond.Ne = is_clear Zf
holds cond.B = is_set Cf
holds cond.Ae = is_clear Cf
holds cond.Be = Bin bin.LogicOr (is_set Cf) (is_set Zf)
holds cond.A = Bin bin.LogicAnd (is_clear Cf) (is_clear Zf)

-- the zero flag and the sign flag of a result
abbrev pub zero_of : Exp → Exp
zero_of e = one_if (Bin bin.Eq e (W64 0))

abbrev pub sign_of : Exp → Exp
sign_of e = reaches (2 ^ 63) (int_of e)

-- a result whose flags are carry, zero, sign and overflow
abbrev pub flags_of : Exp → Exp → Exp → List Equation
flags_of r carry overflow = sets Cf carry ∷ sets Zf (zero_of r) ∷ sets Sf (sign_of r) ∷ sets Of overflow ∷ []

-- a sum overflows where its sign differs from both signs
abbrev pub sum_overflow : Exp → Exp → Exp → Exp
sum_overflow a s r = reaches (2 ^ 63) (int_of (Bin bin.And (xor_of a r) (xor_of s r)))

-- a difference overflows where the signs differ and its sign is the second one
abbrev pub difference_overflow : Exp → Exp → Exp → Exp
difference_overflow a s r = reaches (2 ^ 63) (int_of (Bin bin.And (xor_of a s) (xor_of a r)))

-- the flag as a number, and as a word
abbrev pub flag_in : FlagName → Exp
flag_in f = one_if (is_set f)

abbrev pub sum_with : FlagName → Exp → Exp → Exp
sum_with f a s = sum (sum a s) (Un un.Word (flag_in f))

abbrev pub sum_with_reaches : FlagName → Exp → Exp → Exp
sum_with_reaches f a s = reaches T (sum (sum (int_of a) (int_of s)) (flag_in f))

-- bit by bit: carry and overflow are 0
abbrev pub logic_equations : BinOp → MachinePlace → Exp → Exp → Exp → List Equation
logic_equations op d a s r = gets d (Bin op a s) ∷ flags_of r (Int (pos 0)) (Int (pos 0))

-- a is the destination before, s the source, and r the destination after
abbrev pub alu_equations : AluOp → MachinePlace → Exp → Exp → Exp → List Equation
alu_equations alu.Add d a s r = gets d (sum a s) ∷ flags_of r (reaches T (sum (int_of a) (int_of s))) (sum_overflow a s r)
alu_equations alu.Adc d a s r = gets d (sum_with Cf a s) ∷ flags_of r (sum_with_reaches Cf a s) (sum_overflow a s r)
alu_equations alu.Sub d a s r =
    gets d (difference a s) ∷ flags_of r (one_if (Bin bin.Lt (int_of a) (int_of s))) (difference_overflow a s r)
alu_equations alu.Sbb d a s r =
    gets d (difference (difference a s) (Un un.Word (flag_in Cf)))
    ∷ flags_of r (one_if (Bin bin.Lt (int_of a) (sum (int_of s) (flag_in Cf)))) (difference_overflow a s r)
alu_equations alu.Cmp d a s r =
    flags_of (difference a s) (one_if (Bin bin.Lt (int_of a) (int_of s))) (difference_overflow a s (difference a s))
alu_equations alu.And d a s r = logic_equations bin.And d a s r
alu_equations alu.Or d a s r = logic_equations bin.Or d a s r
alu_equations alu.Xor d a s r = logic_equations bin.Xor d a s r

abbrev pub one_equations : OneOp → MachinePlace → Exp → Exp → List Equation
one_equations one.Neg d a r =
    gets d (difference (W64 0) a) ∷ flags_of r (one_unless (Bin bin.Eq a (W64 0))) (one_if (Bin bin.Eq a (W64 (2 ^ 63))))
one_equations one.Not d a r = gets d (Un un.Not a) ∷ []

-- the bit of a number: the last one that is shifted out
abbrev pub bit_of : ℕ → Exp → Exp
bit_of m a = one_if (Bin bin.Eq (Bin bin.And (exp.Shift counted.Shr m a) (W64 1)) (W64 1))

abbrev pub rotates : CountedOp → MachinePlace → ℕ → Exp → List Equation
rotates op d n a = gets d (exp.Shift op n a) ∷ sets Cf undefined_flag ∷ sets Of undefined_flag ∷ []

abbrev pub shift_equations : ShiftOp → MachinePlace → ℕ → Exp → Exp → List Equation
shift_equations shift.Shl d n a r = gets d (exp.Shift counted.Shl n a) ∷ flags_of r (bit_of (64 - n) a) undefined_flag
shift_equations shift.Shr d n a r = gets d (exp.Shift counted.Shr n a) ∷ flags_of r (bit_of (n - 1) a) undefined_flag
shift_equations shift.Rol d n a r = rotates counted.Rol d n a
shift_equations shift.Ror d n a r = rotates counted.Ror d n a

-- the halves of a product
abbrev pub lower : Exp → Exp → Exp
lower a s = Bin bin.Mul a s

abbrev pub upper : Exp → Exp → Exp
upper a s = Bin bin.Mulhi a s

-- carry and overflow tell whether the upper half is 0
abbrev pub product_equations : Exp → Exp → List Equation
product_equations a s =
    gets (Reg Rax) (lower a s) ∷ gets (Reg Rdx) (upper a s)
    ∷ sets Cf (one_unless (Bin bin.Eq (After (Reg Rdx)) (W64 0))) ∷ sets Zf undefined_flag ∷ sets Sf undefined_flag
    ∷ sets Of (one_unless (Bin bin.Eq (After (Reg Rdx)) (W64 0))) ∷ []

abbrev pub carry_equations : FlagName → MachinePlace → Exp → Exp → List Equation
carry_equations f d a s = gets d (sum_with f a s) ∷ sets f (sum_with_reaches f a s) ∷ []

-- the words of an xmm register
abbrev pub pair : Exp → Exp → Exp
pair h l = Bin bin.Pair h l

abbrev pub high : Exp → Exp
high e = Un un.Hi e

abbrev pub low : Exp → Exp
low e = Un un.Lo e

abbrev pub x_bin : XBinOp → Exp → Exp → Exp
x_bin xbin.Pxor a s = Bin bin.Xor a s
x_bin xbin.Pand a s = Bin bin.And a s
x_bin xbin.Por a s = Bin bin.Or a s
x_bin xbin.Paddd a s = Bin bin.Paddd a s
x_bin xbin.Pshufb a s = Bin bin.Pshufb a s
x_bin xbin.Paddq a s = pair (sum (high a) (high s)) (sum (low a) (low s))
x_bin xbin.Punpcklqdq a s = pair (low s) (low a)
x_bin xbin.Punpckhqdq a s = pair (high s) (high a)
x_bin xbin.Aesenc a s = Bin bin.Aesenc a s
x_bin xbin.Aesenclast a s = Bin bin.Aesenclast a s

abbrev pub x_shift : XShiftOp → CountedOp
x_shift xshift.Pslld = counted.Pslld
x_shift xshift.Psrld = counted.Psrld
x_shift xshift.Pslldq = counted.Pslldq
x_shift xshift.Psrldq = counted.Psrldq

-- a register put into one of the words, and one of them taken
abbrev pub insertion : ℕ → Exp → Exp → Exp
insertion zero a s = pair (high a) s
insertion _ a s = pair s (low a)

abbrev pub extraction : ℕ → Exp → Exp
extraction zero s = low s
extraction _ s = high s

-- the address of a memory operand, modulo 2^64
abbrev pub scaled_of : Exp → Option (GeneralReg × ℕ) → Exp
scaled_of base None = base
scaled_of base (Some i) = sum base (Bin bin.Mul (W64 i.1) (Before (Reg i.0)))

abbrev pub address_of : Mem → Exp
address_of m = sum (scaled_of (Before (Reg m.base)) m.index) (W64 (word_of m.disp))

abbrev pub equations : Ins → List Equation
equations (Mov d s) = gets (Reg d) (source s) ∷ []
equations (Store m s) = []
equations (Load1 d m) = gets (Reg d) (Loaded 0) ∷ []
equations (Load4 d m) = gets (Reg d) (Loaded 0) ∷ []
equations (Store4 m s) = []
equations (Lea d m) = gets (Reg d) (address_of m) ∷ []
equations (Cmov c d s) = gets (Reg d) (Ite (holds c) (Before (Reg s)) (Before (Reg d))) ∷ []
equations (Push s) = []
equations (Pop d) = gets (Reg d) (Loaded 0) ∷ []
equations (Alu op d s) = alu_equations op (Reg d) (Before (Reg d)) (source s) (After (Reg d))
equations (One op d) = one_equations op (Reg d) (Before (Reg d)) (After (Reg d))
equations (Shift op d n) = shift_equations op (Reg d) n (Before (Reg d)) (After (Reg d))
equations (Imul d s) =
    gets (Reg d) (lower (Before (Reg d)) (source s))
    ∷ sets Cf undefined_flag ∷ sets Zf undefined_flag ∷ sets Sf undefined_flag ∷ sets Of undefined_flag ∷ []
equations (Mul s) = product_equations (Before (Reg Rax)) (source s)
equations (Mulx h l s) =
    gets (Reg h) (upper (Before (Reg Rdx)) (source s)) ∷ gets (Reg l) (lower (Before (Reg Rdx)) (source s)) ∷ []
equations (Carry op d s) = carry_equations (carry_flag op) (Reg d) (Before (Reg d)) (source s)
equations (XMov d s) = gets (Xmm d) (Before (Xmm s)) ∷ []
equations (XLoad d m) = gets (Xmm d) (pair (Loaded 1) (Loaded 0)) ∷ []
equations (XStore m s) = []
equations (XBin op d s) = gets (Xmm d) (x_bin op (Before (Xmm d)) (Before (Xmm s))) ∷ []
equations (XShuf d s n) = gets (Xmm d) (exp.Shift counted.Pshufd n (Before (Xmm s))) ∷ []
equations (XShift op d n) = gets (Xmm d) (exp.Shift (x_shift op) n (Before (Xmm d))) ∷ []
equations (XIns d s n) = gets (Xmm d) (insertion n (Before (Xmm d)) (Before (Reg s))) ∷ []
equations (XExt d s n) = gets (Reg d) (extraction n (Before (Xmm s))) ∷ []
equations (XMovq d s) = gets (Xmm d) (pair (W64 0) (Before (Reg s))) ∷ []
equations (XClmul d s n) = gets (Xmm d) (exp.Clmul (Before (Xmm d)) (Before (Xmm s)) n) ∷ []

-- the words that are stored, at the memory operand or on the stack, the lowest first
abbrev pub stored_words : Ins → List Exp
stored_words (Store m s) = Before (Reg s) ∷ []
stored_words (Store4 m s) = Before (Reg s) ∷ []
stored_words (Push s) = Before (Reg s) ∷ []
stored_words (XStore m s) = low (Before (Xmm s)) ∷ high (Before (Xmm s)) ∷ []
stored_words _ = []

-- how many bytes are loaded, as the lowest of the words
abbrev pub load_size : Ins → ℕ
load_size (Load1 d m) = 1
load_size (Load4 d m) = 4
load_size (XLoad d m) = 16
load_size _ = 8

-- how many bytes are stored, the lowest of the words
abbrev pub store_size : Ins → ℕ
store_size (Store4 m s) = 4
store_size (XStore m s) = 16
store_size _ = 8

-- what an instruction writes
abbrev pub writes : Ins → List MachinePlace
writes i = map (λ e. e.place) (equations i)

-- an instruction reads the value before of the place
abbrev pub reads : Ins → MachinePlace → Bool
reads i p = list_any (λ e. takes p e.right) (equations i) || list_any (takes p) (stored_words i)

-- the base and index registers of the memory operand of an access
abbrev pub memory_places : Option Mem → List MachinePlace
memory_places None = []
memory_places (Some m) = address_places m

-- The state after some of the equations: each is read over the state before all of them and the state so far.
abbrev pub apply : State → (ℕ → Val) → List Equation → State → State
apply before loaded [] now = now
apply before loaded (e ∷ es) now =
    apply before loaded es (write now e.place (exp_value (read before) (read now) loaded e.right))

-- the right side gives what the place can hold: a word, or one of 0, 1 and 2
abbrev pub suits : MachinePlace → Exp → Bool
suits (Reg r) e = sort_eq (exp_sort e) sort.W64
suits (Xmm x) e = sort_eq (exp_sort e) sort.W128
suits (Flag f) (Ite c (Int (pos m)) (Int (pos n))) = nat_le m 2 && nat_le n 2
suits (Flag f) (Int (pos n)) = nat_le n 2
suits _ _ = false

-- Each place is written once, and its value after is taken only once it is written.
abbrev pub in_order : List MachinePlace → List Equation → Bool
in_order done [] = true
in_order done (e ∷ es) =
    suits e.place e.right && (knows done e.right && (not (among done e.place) && in_order (e.place ∷ done) es))
