-- The name of a version says which place it is, and which version.
use Rattle.std.proofs.Common.{◌≡◌, ℕ, ◌<◌, ◌^◌, Bool, List, [], ◌∷◌, ◌++◌, refl, ap, ◌∙◌, eqb, decimal}
use Rattle.std.specs.Prelude.{Option, Some, None}
use Rattle.std.specs.List.{before_first, after_first, find}
use Rattle.std.specs.Str.{bytes_eq}
use Rattle.std.specs.Str.Parse.{digits_value}
use Rattle.std.proofs.lemmas.Fmt.{decimal_is_IsNumeral}
use Rattle.x64_syntax.specs.declared.places.Reg.TheVariants.{Rax, Rbx, Rcx, Rdx, Rsi, Rdi, Rbp, Rsp, R8, R9, R10, R11, R12, R13, R14, R15}
use Rattle.x64_syntax.specs.declared.places.Xmm.TheVariants.{Xmm0, Xmm1, Xmm2, Xmm3, Xmm4, Xmm5, Xmm6, Xmm7, Xmm8, Xmm9, Xmm10, Xmm11, Xmm12, Xmm13, Xmm14, Xmm15}
use Rattle.x64_syntax.specs.declared.places.FlagName.TheVariants.{Cf, Zf, Sf, Of}
use Rattle.x64_syntax.specs.declared.places.MachinePlace.{MachinePlace}
use Rattle.x64_syntax.specs.declared.places.MachinePlace.TheVariants.{Reg, Xmm, Flag}
use Rattle.x64_syntax.specs.Places.{place_name}
use Rattle.x64_meaning.specs.Condition.{version_name}

all_places : List MachinePlace
all_places = Reg Rax ∷ Reg Rbx ∷ Reg Rcx ∷ Reg Rdx ∷ Reg Rsi ∷ Reg Rdi ∷ Reg Rbp ∷ Reg Rsp ∷ Reg R8 ∷ Reg R9 ∷ Reg R10 ∷ Reg R11 ∷ Reg R12 ∷ Reg R13 ∷ Reg R14 ∷ Reg R15 ∷ Xmm Xmm0 ∷ Xmm Xmm1 ∷ Xmm Xmm2 ∷ Xmm Xmm3 ∷ Xmm Xmm4 ∷ Xmm Xmm5 ∷ Xmm Xmm6 ∷ Xmm Xmm7 ∷ Xmm Xmm8 ∷ Xmm Xmm9 ∷ Xmm Xmm10 ∷ Xmm Xmm11 ∷ Xmm Xmm12 ∷ Xmm Xmm13 ∷ Xmm Xmm14 ∷ Xmm Xmm15 ∷ Flag Cf ∷ Flag Zf ∷ Flag Sf ∷ Flag Of ∷ []

place_at : Option MachinePlace → MachinePlace
place_at (Some p) = p
place_at None = Reg Rax

is_dot : ℕ → Bool
is_dot b = eqb b 46

-- the place and the version that a name says
pub place_in : List ℕ → MachinePlace
unfolding all_places place_at is_dot
place_in name = place_at (find (λ p. bytes_eq (place_name p) (before_first is_dot name)) all_places)

pub version_in : List ℕ → ℕ
unfolding is_dot
version_in name = digits_value 10 (after_first is_dot name)

pub place_in-version_name : (p : MachinePlace) (k : ℕ) → place_in (version_name p k) ≡ p
unfolding place_in all_places place_at is_dot
place_in-version_name (Reg Rax) k = refl
place_in-version_name (Reg Rbx) k = refl
place_in-version_name (Reg Rcx) k = refl
place_in-version_name (Reg Rdx) k = refl
place_in-version_name (Reg Rsi) k = refl
place_in-version_name (Reg Rdi) k = refl
place_in-version_name (Reg Rbp) k = refl
place_in-version_name (Reg Rsp) k = refl
place_in-version_name (Reg R8) k = refl
place_in-version_name (Reg R9) k = refl
place_in-version_name (Reg R10) k = refl
place_in-version_name (Reg R11) k = refl
place_in-version_name (Reg R12) k = refl
place_in-version_name (Reg R13) k = refl
place_in-version_name (Reg R14) k = refl
place_in-version_name (Reg R15) k = refl
place_in-version_name (Xmm Xmm0) k = refl
place_in-version_name (Xmm Xmm1) k = refl
place_in-version_name (Xmm Xmm2) k = refl
place_in-version_name (Xmm Xmm3) k = refl
place_in-version_name (Xmm Xmm4) k = refl
place_in-version_name (Xmm Xmm5) k = refl
place_in-version_name (Xmm Xmm6) k = refl
place_in-version_name (Xmm Xmm7) k = refl
place_in-version_name (Xmm Xmm8) k = refl
place_in-version_name (Xmm Xmm9) k = refl
place_in-version_name (Xmm Xmm10) k = refl
place_in-version_name (Xmm Xmm11) k = refl
place_in-version_name (Xmm Xmm12) k = refl
place_in-version_name (Xmm Xmm13) k = refl
place_in-version_name (Xmm Xmm14) k = refl
place_in-version_name (Xmm Xmm15) k = refl
place_in-version_name (Flag Cf) k = refl
place_in-version_name (Flag Zf) k = refl
place_in-version_name (Flag Sf) k = refl
place_in-version_name (Flag Of) k = refl

after_name : (p : MachinePlace) (ds : List ℕ) → after_first is_dot (place_name p ++ (46 ∷ ds)) ≡ ds
unfolding is_dot
after_name (Reg Rax) ds = refl
after_name (Reg Rbx) ds = refl
after_name (Reg Rcx) ds = refl
after_name (Reg Rdx) ds = refl
after_name (Reg Rsi) ds = refl
after_name (Reg Rdi) ds = refl
after_name (Reg Rbp) ds = refl
after_name (Reg Rsp) ds = refl
after_name (Reg R8) ds = refl
after_name (Reg R9) ds = refl
after_name (Reg R10) ds = refl
after_name (Reg R11) ds = refl
after_name (Reg R12) ds = refl
after_name (Reg R13) ds = refl
after_name (Reg R14) ds = refl
after_name (Reg R15) ds = refl
after_name (Xmm Xmm0) ds = refl
after_name (Xmm Xmm1) ds = refl
after_name (Xmm Xmm2) ds = refl
after_name (Xmm Xmm3) ds = refl
after_name (Xmm Xmm4) ds = refl
after_name (Xmm Xmm5) ds = refl
after_name (Xmm Xmm6) ds = refl
after_name (Xmm Xmm7) ds = refl
after_name (Xmm Xmm8) ds = refl
after_name (Xmm Xmm9) ds = refl
after_name (Xmm Xmm10) ds = refl
after_name (Xmm Xmm11) ds = refl
after_name (Xmm Xmm12) ds = refl
after_name (Xmm Xmm13) ds = refl
after_name (Xmm Xmm14) ds = refl
after_name (Xmm Xmm15) ds = refl
after_name (Flag Cf) ds = refl
after_name (Flag Zf) ds = refl
after_name (Flag Sf) ds = refl
after_name (Flag Of) ds = refl

pub version_in-version_name : (p : MachinePlace) (k : ℕ) → k < 2 ^ 64 → version_in (version_name p k) ≡ k
unfolding version_in is_dot
version_in-version_name p k fits = ap (digits_value 10) (after_name p (decimal k)) ∙ (decimal_is_IsNumeral k fits).1
