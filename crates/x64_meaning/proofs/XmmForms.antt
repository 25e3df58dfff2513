-- What the equations leave of instructions on xmm registers.
use Rattle.std.proofs.Common.{◌≡◌, ℕ, zero, suc, ◌/◌, ◌%◌, ◌<◌, ◌^◌, [], ◌∷◌, refl, ap, ◌∙◌, arith, mod-eq_of_lt}
use Rattle.std.specs.Prelude.{bit_and, bit_or, bit_xor}
use Rattle.std.specs.Int.Bits.{and_lt}
use Rattle.std.proofs.lemmas.Nat.{xor_lt, or_lt, mod_below, div_below}
use Rattle.x64_syntax.specs.declared.places.Reg.{Reg as GeneralReg}
use Rattle.x64_syntax.specs.declared.places.Xmm.{Xmm as XmmReg}
use Rattle.x64_syntax.specs.declared.places.MachinePlace.TheVariants.{Reg, Xmm}
use Rattle.x64_syntax.specs.declared.instructions.XBinOp.{XBinOp}
use Rattle.x64_syntax.specs.declared.instructions.XBinOp.TheVariants as xbin
use Rattle.x64_syntax.specs.declared.instructions.XShiftOp.{XShiftOp}
use Rattle.x64_syntax.specs.declared.instructions.XShiftOp.TheVariants as xshift
use Rattle.aes_words.specs.Rounds.{half, aesenc, aesenclast, clmul}
use Rattle.word_ops.specs.Words128.{pair, paddd, pshufb, pshufd, pslld, psrld, pslldq, psrldq}
use Rattle.word_ops.specs.Words128 as words
use Rattle.term_core.specs.declared.operator.CountedOp.TheVariants as counted
use Rattle.term_core.specs.Value.{T, T128, Val, Word, word}
use Rattle.x64_meaning.specs.State.{State, reg, read}
use Rattle.x64_meaning.specs.Exp.{Exp, Before, Loaded, W64, exp_value}
use Rattle.x64_meaning.specs.Exp as exp
use Rattle.x64_meaning.specs.Table.{gets, sum, high, low, insertion, extraction, x_bin, x_shift, apply}
use Rattle.x64_meaning.specs.Table as table
use Rattle.x64_meaning.specs.Run.{word_in}
use Rattle.x64_meaning.specs.inner.Steps.{xmm, set_xmm, set_reg, sums, combined, shifted, inserted, extracted, Fits}
use Rattle.x64_meaning.proofs.Parts.{IsWord, constant, sum_word}
use Rattle.x64_meaning.proofs.Computes.{one_reg}

-- a number that fits, put into an xmm register
put : (s : State) (d : XmmReg) (n k : ℕ) → n ≡ k → k < T128 → set_xmm d (n % T128) s ≡ set_xmm d k s
put s d n k same lt = ap (λ j. set_xmm d (j % T128) s) same ∙ ap (λ j. set_xmm d j s) (mod-eq_of_lt lt)

module _ (s : State) (m : ℕ → Val) (fits : Fits s) where
  abbrev IsW : Exp → ℕ → Type 0
  IsW e n = IsWord (read s) (read s) m e n

  held : (x : XmmReg) → xmm s x % T128 ≡ xmm s x
  held x = mod-eq_of_lt (fits.wide x)

  both : (f : ℕ → ℕ → ℕ) (x y : XmmReg) → f (xmm s x % T128) (xmm s y % T128) ≡ f (xmm s x) (xmm s y)
  both f x y = ap (λ n. f n (xmm s y % T128)) (held x) ∙ ap (f (xmm s x)) (held y)

  -- the words of an xmm register
  high_is : (x : XmmReg) → IsW (high (Before (Xmm x))) (words.high (xmm s x))
  high_is x = record { value = ap (λ n. Word (words.high n)) (held x); small = div_below (xmm s x) T T (omega arith) (let lt = fits.wide x in omega (arith, lt)); sort = refl }

  low_is : (x : XmmReg) → IsW (low (Before (Xmm x))) (words.low (xmm s x))
  low_is x = record { value = ap (λ n. Word (words.low n)) (held x); small = mod_below (xmm s x) T (omega arith); sort = refl }

  word_is : (e : Exp) (n : ℕ) → IsW e n → word (exp_value (read s) (read s) m e) ≡ n
  word_is e n h = ap word h.value ∙ mod-eq_of_lt h.small

  pair-lt : (h l : ℕ) → h < T → l < T → pair h l < T128
  pair-lt h l p q = omega (arith, p, q)

  -- a pair of words, put into an xmm register
  pair_leaves : (d : XmmReg) (e f : Exp) (h l : ℕ) → IsW e h → IsW f l → apply s m (gets (Xmm d) (table.pair e f) ∷ []) s ≡ set_xmm d (pair h l) s
  pair_leaves d e f h l p q =
      put s d (pair (word (exp_value (read s) (read s) m e)) (word (exp_value (read s) (read s) m f))) (pair h l)
      (ap (λ k. pair k (word (exp_value (read s) (read s) m f))) (word_is e h p) ∙ ap (pair h) (word_is f l q))
      (pair-lt h l p.small q.small)

  pub copy_leaves : (d x : XmmReg) → apply s m (gets (Xmm d) (Before (Xmm x)) ∷ []) s ≡ set_xmm d (xmm s x) s
  copy_leaves d x = put s d (xmm s x) (xmm s x) refl (fits.wide x)

  -- a number modulo 2^128
  cut_leaves : (d : XmmReg) (n k : ℕ) → n ≡ k → set_xmm d ((n % T128) % T128) s ≡ set_xmm d (k % T128) s
  cut_leaves d n k same = put s d (n % T128) (k % T128) (ap (λ j. j % T128) same) (mod_below k T128 (omega arith))

  sums_leaves : (d x : XmmReg) → apply s m (gets (Xmm d) (x_bin xbin.Paddq (Before (Xmm d)) (Before (Xmm x))) ∷ []) s ≡ set_xmm d (sums (xmm s d) (xmm s x)) s
  sums_leaves d x =
      pair_leaves d (sum (high (Before (Xmm d))) (high (Before (Xmm x)))) (sum (low (Before (Xmm d))) (low (Before (Xmm x)))) _ _
      (sum_word (read s) (read s) m (high (Before (Xmm d))) (high (Before (Xmm x))) _ _ (high_is d) (high_is x))
      (sum_word (read s) (read s) m (low (Before (Xmm d))) (low (Before (Xmm x))) _ _ (low_is d) (low_is x))

  pub combined_leaves : (d x : XmmReg) (op : XBinOp) → apply s m (gets (Xmm d) (x_bin op (Before (Xmm d)) (Before (Xmm x))) ∷ []) s ≡ set_xmm d (combined op (xmm s d) (xmm s x)) s
  combined_leaves d x xbin.Pxor = put s d _ (bit_xor (xmm s d) (xmm s x)) (both bit_xor d x) (xor_lt 128 (xmm s d) (xmm s x) (fits.wide d) (fits.wide x))
  combined_leaves d x xbin.Pand = put s d _ (bit_and (xmm s d) (xmm s x)) (both bit_and d x) (and_lt 128 (xmm s d) (xmm s x) (fits.wide d) (fits.wide x))
  combined_leaves d x xbin.Por = put s d _ (bit_or (xmm s d) (xmm s x)) (both bit_or d x) (or_lt 128 (xmm s d) (xmm s x) (fits.wide d) (fits.wide x))
  combined_leaves d x xbin.Paddd = cut_leaves d _ _ (both paddd d x)
  combined_leaves d x xbin.Pshufb = cut_leaves d _ _ (both pshufb d x)
  combined_leaves d x xbin.Paddq = sums_leaves d x
  combined_leaves d x xbin.Punpcklqdq = pair_leaves d (low (Before (Xmm x))) (low (Before (Xmm d))) _ _ (low_is x) (low_is d)
  combined_leaves d x xbin.Punpckhqdq = pair_leaves d (high (Before (Xmm x))) (high (Before (Xmm d))) _ _ (high_is x) (high_is d)
  combined_leaves d x xbin.Aesenc = cut_leaves d _ _ (both aesenc d x)
  combined_leaves d x xbin.Aesenclast = cut_leaves d _ _ (both aesenclast d x)

  pub picked_leaves : (d x : XmmReg) (n : ℕ) → apply s m (gets (Xmm d) (exp.Shift counted.Pshufd n (Before (Xmm x))) ∷ []) s ≡ set_xmm d (pshufd (xmm s x) n % T128) s
  picked_leaves d x n = cut_leaves d _ _ (ap (λ k. pshufd k n) (held x))

  pub shifted_leaves : (d : XmmReg) (op : XShiftOp) (n : ℕ) → apply s m (gets (Xmm d) (exp.Shift (x_shift op) n (Before (Xmm d))) ∷ []) s ≡ set_xmm d (shifted op (xmm s d) n) s
  shifted_leaves d xshift.Pslld n = cut_leaves d _ _ (ap (λ k. pslld k n) (held d))
  shifted_leaves d xshift.Psrld n = cut_leaves d _ _ (ap (λ k. psrld k n) (held d))
  shifted_leaves d xshift.Pslldq n = cut_leaves d _ _ (ap (λ k. pslldq k n) (held d))
  shifted_leaves d xshift.Psrldq n = cut_leaves d _ _ (ap (λ k. psrldq k n) (held d))

  reg_is : (r : GeneralReg) → IsW (Before (Reg r)) (reg s r)
  reg_is r = record { value = refl; small = fits.each r; sort = refl }

  pub inserted_leaves : (d : XmmReg) (r : GeneralReg) (n : ℕ) → apply s m (gets (Xmm d) (insertion n (Before (Xmm d)) (Before (Reg r))) ∷ []) s ≡ set_xmm d (inserted n (xmm s d) (reg s r)) s
  inserted_leaves d r zero = pair_leaves d (high (Before (Xmm d))) (Before (Reg r)) _ _ (high_is d) (reg_is r)
  inserted_leaves d r (suc n) = pair_leaves d (Before (Reg r)) (low (Before (Xmm d))) _ _ (reg_is r) (low_is d)

  pub extracted_leaves : (d : GeneralReg) (x : XmmReg) (n : ℕ) → apply s m (gets (Reg d) (extraction n (Before (Xmm x))) ∷ []) s ≡ set_reg d (extracted n (xmm s x)) s
  extracted_leaves d x zero = one_reg s s m d (low (Before (Xmm x))) _ [] (low_is x)
  extracted_leaves d x (suc n) = one_reg s s m d (high (Before (Xmm x))) _ [] (high_is x)

  pub moved_leaves : (d : XmmReg) (r : GeneralReg) → apply s m (gets (Xmm d) (table.pair (W64 0) (Before (Reg r))) ∷ []) s ≡ set_xmm d (pair 0 (reg s r)) s
  moved_leaves d r = pair_leaves d (W64 0) (Before (Reg r)) 0 (reg s r) (constant (read s) (read s) m 0 (omega arith)) (reg_is r)

  pub clmul_leaves : (d x : XmmReg) (n : ℕ) → apply s m (gets (Xmm d) (exp.Clmul (Before (Xmm d)) (Before (Xmm x)) n) ∷ []) s ≡ set_xmm d (clmul (xmm s d) (xmm s x) n % T128) s
  clmul_leaves d x n = cut_leaves d _ _ (both (λ a b. clmul a b n) d x)

-- both words of a number that is loaded
pub loaded_leaves : (s : State) (n : ℕ) (d : XmmReg) → Fits s → n < T128 → apply s (word_in n) (gets (Xmm d) (table.pair (Loaded 1) (Loaded 0)) ∷ []) s ≡ set_xmm d n s
loaded_leaves s n d fits lt = put s d (pair ((n / T % T) % T) ((n % T) % T)) n (omega (arith, lt)) lt

-- the half that a bit chooses
pub half_is : (a r : ℕ) → a < T128 → r < 2 → extracted r a ≡ half a r
half_is a zero lt small = let e : a % T ≡ a / T ^ 0 % T = omega arith in e
half_is a (suc zero) lt small = let e : a / T ≡ a / T ^ 1 % T = omega (arith, lt) in e
half_is a (suc (suc r)) lt small = absurd (omega (arith, small))
