-- The bytes of names are plain, and conditions are read back.
use Rattle.std.proofs.Common.{◌≡◌, true, refl, None, Some}
use Rattle.std.specs.List.{list_all}
use Rattle.x64_syntax.specs.declared.places.Reg.{Reg as GeneralReg}
use Rattle.x64_syntax.specs.declared.places.Reg.TheVariants.{Rax, Rbx, Rcx, Rdx, Rsi, Rdi, Rbp, Rsp, R8, R9, R10, R11, R12, R13, R14, R15}
use Rattle.x64_syntax.specs.declared.places.Xmm.{Xmm as XmmReg}
use Rattle.x64_syntax.specs.declared.places.Xmm.TheVariants.{Xmm0, Xmm1, Xmm2, Xmm3, Xmm4, Xmm5, Xmm6, Xmm7, Xmm8, Xmm9, Xmm10, Xmm11, Xmm12, Xmm13, Xmm14, Xmm15}
use Rattle.x64_syntax.specs.declared.conditions.Cond.{Cond}
use Rattle.x64_syntax.specs.declared.conditions.Cond.TheVariants as condition
use Rattle.x64_syntax.specs.Places.{reg_name, low_name, xmm_name, reg_of, low_of}
use Rattle.asm_lines.specs.Lines.{cond_name}
use Rattle.asm_lines.specs.inner.Conditions.{cond_of}
use Rattle.gas_text.proofs.Cuts.{is_plain}

pub reg_plain : (r : GeneralReg) → list_all is_plain (reg_name r) ≡ true
reg_plain Rax = refl
reg_plain Rbx = refl
reg_plain Rcx = refl
reg_plain Rdx = refl
reg_plain Rsi = refl
reg_plain Rdi = refl
reg_plain Rbp = refl
reg_plain Rsp = refl
reg_plain R8 = refl
reg_plain R9 = refl
reg_plain R10 = refl
reg_plain R11 = refl
reg_plain R12 = refl
reg_plain R13 = refl
reg_plain R14 = refl
reg_plain R15 = refl

pub low_plain : (r : GeneralReg) → list_all is_plain (low_name r) ≡ true
low_plain Rax = refl
low_plain Rbx = refl
low_plain Rcx = refl
low_plain Rdx = refl
low_plain Rsi = refl
low_plain Rdi = refl
low_plain Rbp = refl
low_plain Rsp = refl
low_plain R8 = refl
low_plain R9 = refl
low_plain R10 = refl
low_plain R11 = refl
low_plain R12 = refl
low_plain R13 = refl
low_plain R14 = refl
low_plain R15 = refl

pub low_no_reg : (r : GeneralReg) → reg_of (low_name r) ≡ None
low_no_reg Rax = refl
low_no_reg Rbx = refl
low_no_reg Rcx = refl
low_no_reg Rdx = refl
low_no_reg Rsi = refl
low_no_reg Rdi = refl
low_no_reg Rbp = refl
low_no_reg Rsp = refl
low_no_reg R8 = refl
low_no_reg R9 = refl
low_no_reg R10 = refl
low_no_reg R11 = refl
low_no_reg R12 = refl
low_no_reg R13 = refl
low_no_reg R14 = refl
low_no_reg R15 = refl

pub xmm_no_low : (x : XmmReg) → low_of (xmm_name x) ≡ None
xmm_no_low Xmm0 = refl
xmm_no_low Xmm1 = refl
xmm_no_low Xmm2 = refl
xmm_no_low Xmm3 = refl
xmm_no_low Xmm4 = refl
xmm_no_low Xmm5 = refl
xmm_no_low Xmm6 = refl
xmm_no_low Xmm7 = refl
xmm_no_low Xmm8 = refl
xmm_no_low Xmm9 = refl
xmm_no_low Xmm10 = refl
xmm_no_low Xmm11 = refl
xmm_no_low Xmm12 = refl
xmm_no_low Xmm13 = refl
xmm_no_low Xmm14 = refl
xmm_no_low Xmm15 = refl

pub xmm_no_reg : (x : XmmReg) → reg_of (xmm_name x) ≡ None
xmm_no_reg Xmm0 = refl
xmm_no_reg Xmm1 = refl
xmm_no_reg Xmm2 = refl
xmm_no_reg Xmm3 = refl
xmm_no_reg Xmm4 = refl
xmm_no_reg Xmm5 = refl
xmm_no_reg Xmm6 = refl
xmm_no_reg Xmm7 = refl
xmm_no_reg Xmm8 = refl
xmm_no_reg Xmm9 = refl
xmm_no_reg Xmm10 = refl
xmm_no_reg Xmm11 = refl
xmm_no_reg Xmm12 = refl
xmm_no_reg Xmm13 = refl
xmm_no_reg Xmm14 = refl
xmm_no_reg Xmm15 = refl

pub xmm_plain : (x : XmmReg) → list_all is_plain (xmm_name x) ≡ true
xmm_plain Xmm0 = refl
xmm_plain Xmm1 = refl
xmm_plain Xmm2 = refl
xmm_plain Xmm3 = refl
xmm_plain Xmm4 = refl
xmm_plain Xmm5 = refl
xmm_plain Xmm6 = refl
xmm_plain Xmm7 = refl
xmm_plain Xmm8 = refl
xmm_plain Xmm9 = refl
xmm_plain Xmm10 = refl
xmm_plain Xmm11 = refl
xmm_plain Xmm12 = refl
xmm_plain Xmm13 = refl
xmm_plain Xmm14 = refl
xmm_plain Xmm15 = refl

pub cond_back : (c : Cond) → cond_of (cond_name c) ≡ Some c
cond_back condition.E = refl
cond_back condition.Ne = refl
cond_back condition.B = refl
cond_back condition.Be = refl
cond_back condition.A = refl
cond_back condition.Ae = refl
