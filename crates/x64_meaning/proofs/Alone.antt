-- What the equations leave of instructions that take nothing in beside their registers and flags.
use Rattle.std.proofs.Common.{◌≡◌, ℕ, ◌+◌, ◌-◌, ◌*◌, ◌/◌, ◌%◌, ◌<◌, ◌^◌, Bool, true, false, not, cond, [], ◌∷◌, refl, ap, ◌∙◌, arith, mod-eq_of_lt}
use Rattle.std.specs.Prelude.{◌==◌, bit_and, if◌then◌else◌}
use Rattle.std.proofs.Math.Nat.{div-le_self}
use Rattle.std.proofs.lemmas.Nat.{mod_below}
use Rattle.x64_syntax.specs.declared.places.Reg.{Reg as GeneralReg}
use Rattle.x64_syntax.specs.declared.places.FlagName.TheVariants.{Cf, Of}
use Rattle.x64_syntax.specs.declared.places.MachinePlace.TheVariants.{Reg}
use Rattle.x64_syntax.specs.declared.conditions.Cond.{Cond}
use Rattle.x64_syntax.specs.declared.instructions.OneOp.{OneOp}
use Rattle.x64_syntax.specs.declared.instructions.OneOp.TheVariants as one
use Rattle.x64_syntax.specs.declared.instructions.ShiftOp.{ShiftOp}
use Rattle.x64_syntax.specs.declared.instructions.ShiftOp.TheVariants as shift
use Rattle.x64_syntax.specs.declared.operands.Mem.{Mem}
use Rattle.word_ops.specs.Words as words
use Rattle.x64_syntax.specs.declared.type_words.Sort.TheVariants as sort
use Rattle.term_core.specs.declared.operator.UnOp.TheVariants as un
use Rattle.term_core.specs.declared.operator.BinOp.TheVariants as bin
use Rattle.term_core.specs.declared.operator.CountedOp.{CountedOp}
use Rattle.term_core.specs.declared.operator.CountedOp.TheVariants as counted
use Rattle.term_core.specs.Value.{T, Val, Word, word, cast, truth}
use Rattle.x64_meaning.specs.declared.machine.Flag.{Flag as FlagValue}
use Rattle.x64_meaning.specs.declared.machine.Flag.TheVariants.{Undefined}
use Rattle.x64_meaning.specs.State.{State, reg, read}
use Rattle.x64_meaning.specs.Exp.{Exp, Before, After, W64, Un, Bin, Ite, exp_value}
use Rattle.x64_meaning.specs.Exp as exp
use Rattle.x64_meaning.specs.Table.{gets, sets, difference, one_unless, one_if, one_equations, shift_equations, bit_of, undefined_flag, holds, address_of, apply}
use Rattle.x64_meaning.specs.Run.{address, cond_holds}
use Rattle.x64_meaning.specs.inner.Steps.{flag_if, set_reg, one_effect, bit_at, rotation_state, shift_effect, Fits}
use Rattle.x64_meaning.proofs.Numbers.{plain_difference}
use Rattle.x64_meaning.proofs.Parts.{IsWord, IsFlag, constant, difference_word, and_word, not_word, equal, flag_where, flag_unless}
use Rattle.x64_meaning.proofs.Computes.{one_reg, finishes}
use Rattle.x64_meaning.proofs.Plain.{condition_is, address_is}

module _ (s : State) (m : ℕ → Val) (d : GeneralReg) (fits : Fits s) where
  abbrev a : ℕ
  a = reg s d

  abbrev A : Exp
  A = Before (Reg d)

  module _ (now : State) where
    abbrev IsW : Exp → ℕ → Type 0
    IsW e n = IsWord (read s) (read now) m e n

    abbrev IsF : Exp → FlagValue → Type 0
    IsF e f = IsFlag (read s) (read now) m e f

    held : (r : GeneralReg) → IsW (Before (Reg r)) (reg s r)
    held r = record { value = refl; small = fits.each r; sort = refl }

    shr_word : (n : ℕ) → IsW (exp.Shift counted.Shr n A) (a / 2 ^ n)
    shr_word n =
        let lt : a / 2 ^ n < T = omega (arith, div-le_self a (2 ^ n), fits.each d) in
        let word_a : word (Word a) ≡ a = mod-eq_of_lt (fits.each d) in
        record { value = ap (λ x. Word ((x / 2 ^ n) % T)) word_a ∙ ap Word (mod-eq_of_lt lt); small = lt; sort = refl }

    shl_word : (n : ℕ) → IsW (exp.Shift counted.Shl n A) ((a * 2 ^ n) % T)
    shl_word n =
        let word_a : word (Word a) ≡ a = mod-eq_of_lt (fits.each d) in
        record { value = ap (λ x. Word ((x * 2 ^ n) % T)) word_a; small = mod_below (a * 2 ^ n) T (omega arith); sort = refl }

    rol_word : (n : ℕ) → IsW (exp.Shift counted.Rol n A) (words.rol a n % T)
    rol_word n =
        let word_a : word (Word a) ≡ a = mod-eq_of_lt (fits.each d) in
        record { value = ap (λ x. Word (words.rol x n % T)) word_a; small = mod_below (words.rol a n) T (omega arith); sort = refl }

    ror_word : (n : ℕ) → IsW (exp.Shift counted.Ror n A) (words.ror a n % T)
    ror_word n =
        let word_a : word (Word a) ≡ a = mod-eq_of_lt (fits.each d) in
        record { value = ap (λ x. Word (words.ror x n % T)) word_a; small = mod_below (words.ror a n) T (omega arith); sort = refl }

    bit_flag : (n : ℕ) → IsF (bit_of n A) (flag_if (bit_at n a))
    bit_flag n =
        let one = constant (read s) (read now) m 1 (omega arith) in
        let both = and_word (read s) (read now) m (exp.Shift counted.Shr n A) (W64 1) (a / 2 ^ n) 1 (shr_word n) one in
        flag_where (read s) (read now) m _ _ (equal (read s) (read now) m (Bin bin.And (exp.Shift counted.Shr n A) (W64 1)) (W64 1) (bit_and (a / 2 ^ n) 1) 1 both one)

    open_flag : IsF undefined_flag Undefined
    open_flag = record { value = refl }

  pub one_leaves : (op : OneOp) → apply s m (one_equations op (Reg d) A (After (Reg d))) s ≡ one_effect op s d
  one_leaves one.Neg =
      let zero : (now : State) → IsW now (W64 0) 0 = λ now. constant (read s) (read now) m 0 (omega arith) in
      let half : (now : State) → IsW now (W64 (2 ^ 63)) (2 ^ 63) = λ now. constant (read s) (read now) m (2 ^ 63) (omega arith) in
      let two = difference_word (read s) (read s) m (W64 0) A 0 a (zero s) (held s d) in
      let is_r : IsW s (difference (W64 0) A) (words.difference 0 a false) = record { value = two.value ∙ ap Word (plain_difference 0 a (fits.each d)); small = mod_below (0 + 2 * T - (a + 0)) T (omega arith); sort = refl } in
      finishes s m d (difference (W64 0) A) (one_unless (Bin bin.Eq A (W64 0))) (one_if (Bin bin.Eq A (W64 (2 ^ 63)))) (words.difference 0 a false) (flag_if (not (a == 0))) (flag_if (a == 2 ^ 63)) fits is_r
      (λ now h. flag_unless (read s) (read now) m _ _ (equal (read s) (read now) m A (W64 0) a 0 (held now d) (zero now)))
      (λ now h. flag_where (read s) (read now) m _ _ (equal (read s) (read now) m A (W64 (2 ^ 63)) a (2 ^ 63) (held now d) (half now)))
  one_leaves one.Not = one_reg s s m d (Un un.Not A) (T - 1 - a) [] (not_word (read s) (read s) m A a (held s d))

  rotates_leaves : (op : CountedOp) (n r : ℕ) → IsW s (exp.Shift op n A) r → apply s m (gets (Reg d) (exp.Shift op n A) ∷ sets Cf undefined_flag ∷ sets Of undefined_flag ∷ []) s ≡ rotation_state s d r
  rotates_leaves op n r h = one_reg s s m d (exp.Shift op n A) r (sets Cf undefined_flag ∷ sets Of undefined_flag ∷ []) h

  pub shift_leaves : (op : ShiftOp) (n : ℕ) → apply s m (shift_equations op (Reg d) n A (After (Reg d))) s ≡ shift_effect op s d n
  shift_leaves shift.Shl n = finishes s m d (exp.Shift counted.Shl n A) (bit_of (64 - n) A) undefined_flag ((a * 2 ^ n) % T) (flag_if (bit_at (64 - n) a)) Undefined fits (shl_word s n) (λ now h. bit_flag now (64 - n)) (λ now h. open_flag now)
  shift_leaves shift.Shr n = finishes s m d (exp.Shift counted.Shr n A) (bit_of (n - 1) A) undefined_flag (a / 2 ^ n) (flag_if (bit_at (n - 1) a)) Undefined fits (shr_word s n) (λ now h. bit_flag now (n - 1)) (λ now h. open_flag now)
  shift_leaves shift.Rol n = rotates_leaves counted.Rol n _ (rol_word s n)
  shift_leaves shift.Ror n = rotates_leaves counted.Ror n _ (ror_word s n)

  pub lea_leaves : (x : Mem) → apply s m (gets (Reg d) (address_of x) ∷ []) s ≡ set_reg d (address s x) s
  lea_leaves x = one_reg s s m d (address_of x) (address s x) [] (address_is s m fits x)

  chosen : (b : Bool) (r : GeneralReg) → cond b (Word (reg s r)) (cast sort.W64 (Word a)) ≡ Word (reg s (if b then r else d))
  chosen true r = refl
  chosen false r = ap Word (mod-eq_of_lt (fits.each d))

  chosen-lt : (b : Bool) (r : GeneralReg) → reg s (if b then r else d) < T
  chosen-lt true r = fits.each r
  chosen-lt false r = fits.each d

  pub cmov_leaves : (c : Cond) (r : GeneralReg) → apply s m (gets (Reg d) (Ite (holds c) (Before (Reg r)) A) ∷ []) s ≡ set_reg d (reg s (if cond_holds c s then r else d)) s
  cmov_leaves c r = one_reg s s m d (Ite (holds c) (Before (Reg r)) A) (reg s (if cond_holds c s then r else d)) [] record {
    value = ap (λ v. cond (truth v) (Word (reg s r)) (cast sort.W64 (Word a))) (condition_is s m c).value ∙ chosen (cond_holds c s) r;
    small = chosen-lt (cond_holds c s) r;
    sort = refl;
  }
