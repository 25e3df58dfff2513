-- Names of places: what they name, and what bytes they have.
use Rattle.std.proofs.Common.{◌≡◌, true, refl, sym, ◌∙◌, codes, bytes_eq}
use Rattle.std.proofs.lemmas.Bool.{and_parts, not-true, false≢true}
use Rattle.std.proofs.lemmas.Slice.Eq.{bytes_eq-Decides}
use Rattle.x64_syntax.specs.declared.places.Reg.{Reg as GeneralReg}
use Rattle.x64_syntax.specs.declared.places.Reg.TheVariants.{Rax, Rbx, Rcx, Rdx, Rsi, Rdi, Rbp, Rsp, R8, R9, R10, R11, R12, R13, R14, R15}
use Rattle.x64_syntax.specs.declared.places.Xmm.{Xmm as XmmReg}
use Rattle.x64_syntax.specs.declared.places.Xmm.TheVariants.{Xmm0, Xmm1, Xmm2, Xmm3, Xmm4, Xmm5, Xmm6, Xmm7, Xmm8, Xmm9, Xmm10, Xmm11, Xmm12, Xmm13, Xmm14, Xmm15}
use Rattle.x64_syntax.specs.declared.places.FlagName.{FlagName}
use Rattle.x64_syntax.specs.declared.places.FlagName.TheVariants.{Cf, Zf, Sf, Of}
use Rattle.x64_syntax.specs.declared.places.MachinePlace.{MachinePlace}
use Rattle.x64_syntax.specs.declared.places.MachinePlace.TheVariants.{Reg, Xmm, Flag}
use Rattle.x64_syntax.specs.Places.{reg_name, xmm_name, flag_name, place_name}
use Rattle.x64_evaluator.specs.inner.Setting.{is_word, graphic}

pub reg_word : (r : GeneralReg) → is_word (reg_name r) ≡ true
reg_word Rax = refl
reg_word Rbx = refl
reg_word Rcx = refl
reg_word Rdx = refl
reg_word Rsi = refl
reg_word Rdi = refl
reg_word Rbp = refl
reg_word Rsp = refl
reg_word R8 = refl
reg_word R9 = refl
reg_word R10 = refl
reg_word R11 = refl
reg_word R12 = refl
reg_word R13 = refl
reg_word R14 = refl
reg_word R15 = refl

pub xmm_word : (x : XmmReg) → is_word (xmm_name x) ≡ true
xmm_word Xmm0 = refl
xmm_word Xmm1 = refl
xmm_word Xmm2 = refl
xmm_word Xmm3 = refl
xmm_word Xmm4 = refl
xmm_word Xmm5 = refl
xmm_word Xmm6 = refl
xmm_word Xmm7 = refl
xmm_word Xmm8 = refl
xmm_word Xmm9 = refl
xmm_word Xmm10 = refl
xmm_word Xmm11 = refl
xmm_word Xmm12 = refl
xmm_word Xmm13 = refl
xmm_word Xmm14 = refl
xmm_word Xmm15 = refl

pub flag_word : (f : FlagName) → is_word (flag_name f) ≡ true
flag_word Cf = refl
flag_word Zf = refl
flag_word Sf = refl
flag_word Of = refl

pub name_word : (p : MachinePlace) → is_word (place_name p) ≡ true
name_word (Reg r) = reg_word r
name_word (Xmm x) = xmm_word x
name_word (Flag f) = flag_word f

pub name_graphic : (p : MachinePlace) → graphic (place_name p) ≡ true
name_graphic p = (and_parts (graphic (place_name p)) _ (name_word p)).0

pub no_block : (p : MachinePlace) → codes "block" ≡ place_name p → ⊥
no_block p e =
    let differs = not-true (bytes_eq (place_name p) (codes "block")) (and_parts (graphic (place_name p)) _ (name_word p)).1 in
    false≢true (sym differs ∙ (bytes_eq-Decides (place_name p) (codes "block")).1 (sym e))
