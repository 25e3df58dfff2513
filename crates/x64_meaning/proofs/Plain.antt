-- Conditions and addresses of the table in flags and plain numbers.
use Rattle.std.proofs.Common.{◌≡◌, ℕ, ◌+◌, ◌*◌, ◌%◌, not, ◌&&◌, ◌||◌, Option, Some, None, refl, sym, ap, ◌∙◌, subst, arith, mod-eq_of_lt}
use Rattle.std.proofs.Math.Nat.{mul_comm}
use Rattle.std.proofs.lemmas.Nat.{mod_below, mul-mod_second}
use Rattle.x64_syntax.specs.declared.places.Reg.{Reg as GeneralReg}
use Rattle.x64_syntax.specs.declared.places.FlagName.{FlagName}
use Rattle.x64_syntax.specs.declared.places.FlagName.TheVariants.{Cf, Zf}
use Rattle.x64_syntax.specs.declared.places.MachinePlace.TheVariants.{Reg}
use Rattle.x64_syntax.specs.declared.conditions.Cond.{Cond}
use Rattle.x64_syntax.specs.declared.conditions.Cond.TheVariants as condition
use Rattle.x64_syntax.specs.declared.operands.Mem.{Mem}
use Rattle.term_core.specs.declared.operator.BinOp.TheVariants as bin
use Rattle.term_core.specs.Value.{T, Val, Truth, Word, word, word_of, truth}
use Rattle.x64_meaning.specs.State.{State, reg, flag, read}
use Rattle.x64_meaning.specs.Exp.{Exp, Before, W64, Bin, exp_value, no_words}
use Rattle.x64_meaning.specs.Table.{sum, is_set, holds, scaled_of, address_of}
use Rattle.x64_meaning.specs.Run.{address, cond_holds}
use Rattle.x64_meaning.specs.inner.Steps.{is_one, flags_meet, index_part, address_sum, Fits}
use Rattle.x64_meaning.proofs.Numbers.{addressed, word_of-lt}
use Rattle.x64_meaning.proofs.Parts.{IsWord, IsTruth, constant, sum_word, product_word, set_is}

scaled_mod : (n r : ℕ) → (n % T * r) % T ≡ (n * r) % T
scaled_mod n r = ap (λ k. k % T) (mul_comm (n % T) r) ∙ mul-mod_second r n T ∙ ap (λ k. k % T) (mul_comm r n)

module _ (s : State) (m : ℕ → Val) where
  abbrev IsW : Exp → ℕ → Type 0
  IsW e n = IsWord (read s) (read s) m e n

  set_flag_is : (f : FlagName) → IsTruth (read s) (read s) m (is_set f) (is_one (flag s f))
  set_flag_is f = set_is (read s) (read s) m f (flag s f) refl

  flags_are : (c : Cond) → IsTruth (read s) (read s) m (holds c) (flags_meet c s)
  flags_are condition.E = set_flag_is Zf
  flags_are condition.Ne = record { value = ap (λ v. Truth (not (truth v))) (set_flag_is Zf).value }
  flags_are condition.B = set_flag_is Cf
  flags_are condition.Ae = record { value = ap (λ v. Truth (not (truth v))) (set_flag_is Cf).value }
  flags_are condition.Be = record { value = ap (λ v. Truth (truth v || truth (exp_value (read s) (read s) m (is_set Zf)))) (set_flag_is Cf).value ∙ ap (λ v. Truth (is_one (flag s Cf) || truth v)) (set_flag_is Zf).value }
  flags_are condition.A = record { value = ap (λ v. Truth (not (truth v) && not (truth (exp_value (read s) (read s) m (is_set Zf))))) (set_flag_is Cf).value ∙ ap (λ v. Truth (not (is_one (flag s Cf)) && not (truth v))) (set_flag_is Zf).value }

  module _ (fits : Fits s) where
    held : (r : GeneralReg) → IsW (Before (Reg r)) (reg s r)
    held r = record { value = refl; small = fits.each r; sort = refl }

    sum_is : (x : Mem) → IsW (address_of x) (address_sum s x)
    sum_is x = by_index x.index where
      base : ℕ
      base = reg s x.base

      last : ℕ
      last = word_of x.disp

      disp : IsW (W64 last) last
      disp = constant (read s) (read s) m last (word_of-lt x.disp)

      by_index : (o : Option (GeneralReg × ℕ)) → IsW (sum (scaled_of (Before (Reg x.base)) o) (W64 last)) ((base + index_part s o + last) % T)
      by_index None = record { value = (sum_word (read s) (read s) m (Before (Reg x.base)) (W64 last) base last (held x.base) disp).value ∙ ap (λ n. Word ((n + last) % T)) (let e : base ≡ base + 0 = omega arith in e); small = mod_below (base + 0 + last) T (omega arith); sort = refl }
      by_index (Some i) =
          let scale : IsW (W64 i.1) (i.1 % T) = record { value = refl; small = mod_below i.1 T (omega arith); sort = refl } in
          let index = product_word (read s) (read s) m (W64 i.1) (Before (Reg i.0)) (i.1 % T) (reg s i.0) scale (held i.0) in
          let front = sum_word (read s) (read s) m (Before (Reg x.base)) (Bin bin.Mul (W64 i.1) (Before (Reg i.0))) base _ (held x.base) index in
          let all = sum_word (read s) (read s) m _ (W64 last) _ last front disp in
          record { value = all.value ∙ ap Word (addressed base _ (i.1 * reg s i.0) last last (scaled_mod i.1 (reg s i.0)) refl); small = mod_below (base + i.1 * reg s i.0 + last) T (omega arith); sort = refl }

pub cond_by_flags : (s : State) (c : Cond) → cond_holds c s ≡ flags_meet c s
cond_by_flags s c = ap truth (flags_are s no_words c).value

pub condition_is : (s : State) (m : ℕ → Val) (c : Cond) → IsTruth (read s) (read s) m (holds c) (cond_holds c s)
condition_is s m c = record { value = (flags_are s m c).value ∙ ap Truth (sym (cond_by_flags s c)) }

pub address_by_sum : (s : State) → Fits s → (x : Mem) → address s x ≡ address_sum s x
address_by_sum s fits x = let a = sum_is s no_words fits x in ap word a.value ∙ mod-eq_of_lt a.small

pub address_is : (s : State) (m : ℕ → Val) → Fits s → (x : Mem) → IsWord (read s) (read s) m (address_of x) (address s x)
address_is s m fits x = subst (IsWord (read s) (read s) m (address_of x)) (sym (address_by_sum s fits x)) (sum_is s m fits x)
