-- Names are read back: things are told apart by them.
use Rattle.std.proofs.Common.{◌≡◌, ℕ, suc, Bool, true, false, refl, arith, List, [], ◌∷◌, Some}
use Rattle.std.specs.Prelude.{Contains, if◌then◌else◌}
use Rattle.std.specs.List.{find}
use Rattle.std.specs.Str.{bytes_eq}
use Rattle.x64_syntax.specs.declared.places.Reg.{Reg}
use Rattle.x64_syntax.specs.declared.places.Reg.TheVariants.{Rax, Rbx, Rcx, Rdx, Rsi, Rdi, Rbp, Rsp, R8, R9, R10, R11, R12, R13, R14, R15}
use Rattle.x64_syntax.specs.declared.places.Xmm.{Xmm}
use Rattle.x64_syntax.specs.declared.places.Xmm.TheVariants.{Xmm0, Xmm1, Xmm2, Xmm3, Xmm4, Xmm5, Xmm6, Xmm7, Xmm8, Xmm9, Xmm10, Xmm11, Xmm12, Xmm13, Xmm14, Xmm15}
use Rattle.x64_syntax.specs.declared.places.FlagName.{FlagName}
use Rattle.x64_syntax.specs.declared.places.FlagName.TheVariants.{Cf, Zf, Sf, Of}
use Rattle.x64_syntax.specs.declared.conditions.Cond.TheVariants as cond
use Rattle.x64_syntax.specs.declared.instructions.AluOp.TheVariants as alu
use Rattle.x64_syntax.specs.declared.instructions.OneOp.TheVariants as one
use Rattle.x64_syntax.specs.declared.instructions.ShiftOp.TheVariants as shift
use Rattle.x64_syntax.specs.declared.instructions.CarryOp.TheVariants as carry
use Rattle.x64_syntax.specs.declared.instructions.XBinOp.TheVariants as xbin
use Rattle.x64_syntax.specs.declared.instructions.XShiftOp.TheVariants as xshift
use Rattle.x64_syntax.specs.declared.operations.Operation.{Operation}
use Rattle.x64_syntax.specs.declared.operations.Operation.TheVariants as op
use Rattle.x64_syntax.specs.Names.{first_of_name}
use Rattle.x64_syntax.specs.Places.{reg_name, low_name, xmm_name, flag_name, reg_of, low_of, xmm_of, flag_of}
use Rattle.x64_syntax.specs.Operations.{spelling, operations, operation_name}
use Rattle.x64_syntax.specs.Words.{operation_of}

pub reg_back : (r : Reg) → reg_of (reg_name r) ≡ Some r
reg_back Rax = refl
reg_back Rbx = refl
reg_back Rcx = refl
reg_back Rdx = refl
reg_back Rsi = refl
reg_back Rdi = refl
reg_back Rbp = refl
reg_back Rsp = refl
reg_back R8 = refl
reg_back R9 = refl
reg_back R10 = refl
reg_back R11 = refl
reg_back R12 = refl
reg_back R13 = refl
reg_back R14 = refl
reg_back R15 = refl

pub low_back : (r : Reg) → low_of (low_name r) ≡ Some r
low_back Rax = refl
low_back Rbx = refl
low_back Rcx = refl
low_back Rdx = refl
low_back Rsi = refl
low_back Rdi = refl
low_back Rbp = refl
low_back Rsp = refl
low_back R8 = refl
low_back R9 = refl
low_back R10 = refl
low_back R11 = refl
low_back R12 = refl
low_back R13 = refl
low_back R14 = refl
low_back R15 = refl

pub xmm_back : (x : Xmm) → xmm_of (xmm_name x) ≡ Some x
xmm_back Xmm0 = refl
xmm_back Xmm1 = refl
xmm_back Xmm2 = refl
xmm_back Xmm3 = refl
xmm_back Xmm4 = refl
xmm_back Xmm5 = refl
xmm_back Xmm6 = refl
xmm_back Xmm7 = refl
xmm_back Xmm8 = refl
xmm_back Xmm9 = refl
xmm_back Xmm10 = refl
xmm_back Xmm11 = refl
xmm_back Xmm12 = refl
xmm_back Xmm13 = refl
xmm_back Xmm14 = refl
xmm_back Xmm15 = refl

pub flag_back : (f : FlagName) → flag_of (flag_name f) ≡ Some f
flag_back Cf = refl
flag_back Zf = refl
flag_back Sf = refl
flag_back Of = refl

pub operation_back : (o : Operation) → operation_of (operation_name o) ≡ Some o
unfolding spelling operations
operation_back op.Mov = refl
operation_back op.Store = refl
operation_back op.Load1 = refl
operation_back op.Load4 = refl
operation_back op.Store4 = refl
operation_back op.Lea = refl
operation_back (op.Cmov cond.E) = refl
operation_back (op.Cmov cond.Ne) = refl
operation_back (op.Cmov cond.B) = refl
operation_back (op.Cmov cond.Be) = refl
operation_back (op.Cmov cond.A) = refl
operation_back (op.Cmov cond.Ae) = refl
operation_back op.Push = refl
operation_back op.Pop = refl
operation_back (op.Alu alu.Add) = refl
operation_back (op.Alu alu.Adc) = refl
operation_back (op.Alu alu.Sub) = refl
operation_back (op.Alu alu.Sbb) = refl
operation_back (op.Alu alu.Cmp) = refl
operation_back (op.Alu alu.And) = refl
operation_back (op.Alu alu.Or) = refl
operation_back (op.Alu alu.Xor) = refl
operation_back (op.One one.Neg) = refl
operation_back (op.One one.Not) = refl
operation_back (op.Shift shift.Shl) = refl
operation_back (op.Shift shift.Shr) = refl
operation_back (op.Shift shift.Rol) = refl
operation_back (op.Shift shift.Ror) = refl
operation_back op.Imul = refl
operation_back op.Mul = refl
operation_back op.Mulx = refl
operation_back (op.Carry carry.Adcx) = refl
operation_back (op.Carry carry.Adox) = refl
operation_back op.Movdqu = refl
operation_back (op.XBin xbin.Pxor) = refl
operation_back (op.XBin xbin.Pand) = refl
operation_back (op.XBin xbin.Por) = refl
operation_back (op.XBin xbin.Paddd) = refl
operation_back (op.XBin xbin.Pshufb) = refl
operation_back (op.XBin xbin.Paddq) = refl
operation_back (op.XBin xbin.Punpcklqdq) = refl
operation_back (op.XBin xbin.Punpckhqdq) = refl
operation_back (op.XBin xbin.Aesenc) = refl
operation_back (op.XBin xbin.Aesenclast) = refl
operation_back op.XShuf = refl
operation_back (op.XShift xshift.Pslld) = refl
operation_back (op.XShift xshift.Psrld) = refl
operation_back (op.XShift xshift.Pslldq) = refl
operation_back (op.XShift xshift.Psrldq) = refl
operation_back op.XIns = refl
operation_back op.XExt = refl
operation_back op.XMovq = refl
operation_back op.XClmul = refl

-- what is found in a list is in it
found_is_in : {A : Type 0} (p : A → Bool) (xs : List A) (x : A) → find p xs ≡ Some x → Contains xs x
found_is_in p [] x e = absurd cc
found_is_in p (y ∷ ys) x e = by_test (p y) (λ h. found_is_in p ys x h) e where
  by_test : (b : Bool) → (find p ys ≡ Some x → Contains ys x) → (if b then Some y else find p ys) ≡ Some x → Contains (y ∷ ys) x
  by_test true go e = let same : y ≡ x = cc in (0, omega arith, same)
  by_test false go e = let r = go e in (suc r.0, (let lt = r.1 in omega (arith, lt)), r.2)

-- what its name gives back is in the list
pub listed : {A : Type 0} (name_of : A → List ℕ) (all : List A) (x : A) → first_of_name name_of all (name_of x) ≡ Some x → Contains all x
listed name_of all x e = found_is_in (λ y. bytes_eq (name_of y) (name_of x)) all x e
