-- Places are told apart by their numbers.
use Rattle.std.proofs.Common.{◌≡◌, ◌<◌, true, refl, sym, ap, ◌∙◌, lit<}
use Rattle.std.specs.Prelude.{slice_index_or}
use Rattle.std.proofs.lemmas.Bool.{eqb-true, eq-eqb}
use Rattle.x64_syntax.specs.declared.places.Reg.{Reg as GeneralReg}
use Rattle.x64_syntax.specs.declared.places.Reg.TheVariants.{Rax, Rbx, Rcx, Rdx, Rsi, Rdi, Rbp, Rsp, R8, R9, R10, R11, R12, R13, R14, R15}
use Rattle.x64_syntax.specs.declared.places.Xmm.{Xmm as XmmReg}
use Rattle.x64_syntax.specs.declared.places.Xmm.TheVariants.{Xmm0, Xmm1, Xmm2, Xmm3, Xmm4, Xmm5, Xmm6, Xmm7, Xmm8, Xmm9, Xmm10, Xmm11, Xmm12, Xmm13, Xmm14, Xmm15}
use Rattle.x64_syntax.specs.declared.places.FlagName.{FlagName}
use Rattle.x64_syntax.specs.declared.places.FlagName.TheVariants.{Cf, Zf, Sf, Of}
use Rattle.x64_syntax.specs.declared.places.MachinePlace.{MachinePlace}
use Rattle.x64_syntax.specs.declared.places.MachinePlace.TheVariants.{Reg, Xmm, Flag}
use Rattle.x64_syntax.specs.Places.{reg_number, xmm_number, flag_number, reg_eq, xmm_eq, flag_eq, place_eq, all_regs, all_xmms, all_flags}

reg_back : (p : GeneralReg) → slice_index_or all_regs (reg_number p) Rax ≡ p
reg_back Rax = refl
reg_back Rbx = refl
reg_back Rcx = refl
reg_back Rdx = refl
reg_back Rsi = refl
reg_back Rdi = refl
reg_back Rbp = refl
reg_back Rsp = refl
reg_back R8 = refl
reg_back R9 = refl
reg_back R10 = refl
reg_back R11 = refl
reg_back R12 = refl
reg_back R13 = refl
reg_back R14 = refl
reg_back R15 = refl

pub reg_number_lt : (p : GeneralReg) → reg_number p < 16
reg_number_lt Rax = lit< tt
reg_number_lt Rbx = lit< tt
reg_number_lt Rcx = lit< tt
reg_number_lt Rdx = lit< tt
reg_number_lt Rsi = lit< tt
reg_number_lt Rdi = lit< tt
reg_number_lt Rbp = lit< tt
reg_number_lt Rsp = lit< tt
reg_number_lt R8 = lit< tt
reg_number_lt R9 = lit< tt
reg_number_lt R10 = lit< tt
reg_number_lt R11 = lit< tt
reg_number_lt R12 = lit< tt
reg_number_lt R13 = lit< tt
reg_number_lt R14 = lit< tt
reg_number_lt R15 = lit< tt

pub reg_eq_is : (a b : GeneralReg) → reg_eq a b ≡ true → a ≡ b
reg_eq_is a b h = sym (reg_back a) ∙ ap (λ n. slice_index_or all_regs n Rax) (eqb-true _ _ h) ∙ reg_back b

pub reg_eq_same : (a : GeneralReg) → reg_eq a a ≡ true
reg_eq_same a = eq-eqb (reg_number a) (reg_number a) refl

xmm_back : (p : XmmReg) → slice_index_or all_xmms (xmm_number p) Xmm0 ≡ p
xmm_back Xmm0 = refl
xmm_back Xmm1 = refl
xmm_back Xmm2 = refl
xmm_back Xmm3 = refl
xmm_back Xmm4 = refl
xmm_back Xmm5 = refl
xmm_back Xmm6 = refl
xmm_back Xmm7 = refl
xmm_back Xmm8 = refl
xmm_back Xmm9 = refl
xmm_back Xmm10 = refl
xmm_back Xmm11 = refl
xmm_back Xmm12 = refl
xmm_back Xmm13 = refl
xmm_back Xmm14 = refl
xmm_back Xmm15 = refl

pub xmm_number_lt : (p : XmmReg) → xmm_number p < 16
xmm_number_lt Xmm0 = lit< tt
xmm_number_lt Xmm1 = lit< tt
xmm_number_lt Xmm2 = lit< tt
xmm_number_lt Xmm3 = lit< tt
xmm_number_lt Xmm4 = lit< tt
xmm_number_lt Xmm5 = lit< tt
xmm_number_lt Xmm6 = lit< tt
xmm_number_lt Xmm7 = lit< tt
xmm_number_lt Xmm8 = lit< tt
xmm_number_lt Xmm9 = lit< tt
xmm_number_lt Xmm10 = lit< tt
xmm_number_lt Xmm11 = lit< tt
xmm_number_lt Xmm12 = lit< tt
xmm_number_lt Xmm13 = lit< tt
xmm_number_lt Xmm14 = lit< tt
xmm_number_lt Xmm15 = lit< tt

pub xmm_eq_is : (a b : XmmReg) → xmm_eq a b ≡ true → a ≡ b
xmm_eq_is a b h = sym (xmm_back a) ∙ ap (λ n. slice_index_or all_xmms n Xmm0) (eqb-true _ _ h) ∙ xmm_back b

pub xmm_eq_same : (a : XmmReg) → xmm_eq a a ≡ true
xmm_eq_same a = eq-eqb (xmm_number a) (xmm_number a) refl

flag_back : (p : FlagName) → slice_index_or all_flags (flag_number p) Cf ≡ p
flag_back Cf = refl
flag_back Zf = refl
flag_back Sf = refl
flag_back Of = refl

pub flag_number_lt : (p : FlagName) → flag_number p < 4
flag_number_lt Cf = lit< tt
flag_number_lt Zf = lit< tt
flag_number_lt Sf = lit< tt
flag_number_lt Of = lit< tt

pub flag_eq_is : (a b : FlagName) → flag_eq a b ≡ true → a ≡ b
flag_eq_is a b h = sym (flag_back a) ∙ ap (λ n. slice_index_or all_flags n Cf) (eqb-true _ _ h) ∙ flag_back b

pub flag_eq_same : (a : FlagName) → flag_eq a a ≡ true
flag_eq_same a = eq-eqb (flag_number a) (flag_number a) refl

pub place_eq_is : (a b : MachinePlace) → place_eq a b ≡ true → a ≡ b
place_eq_is (Reg a) (Reg b) h = ap Reg (reg_eq_is a b h)
place_eq_is (Xmm a) (Xmm b) h = ap Xmm (xmm_eq_is a b h)
place_eq_is (Flag a) (Flag b) h = ap Flag (flag_eq_is a b h)
place_eq_is (Reg a) (Xmm b) h = cc
place_eq_is (Reg a) (Flag b) h = cc
place_eq_is (Xmm a) (Reg b) h = cc
place_eq_is (Xmm a) (Flag b) h = cc
place_eq_is (Flag a) (Reg b) h = cc
place_eq_is (Flag a) (Xmm b) h = cc

pub place_eq_same : (a : MachinePlace) → place_eq a a ≡ true
place_eq_same (Reg a) = reg_eq_same a
place_eq_same (Xmm a) = xmm_eq_same a
place_eq_same (Flag a) = flag_eq_same a
