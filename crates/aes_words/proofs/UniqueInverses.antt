-- The table has the inverses, and no byte has another.
use Rattle.std.proofs.Common.{◌≡◌, ◌≢◌, ℕ, zero, suc, ◌+◌, ◌%◌, ◌^◌, ◌<◌, ◌≤◌, min, Bool, true, false, cond, eqb, map, Some, find, sym, refl, ap, ◌∙◌, subst, arith, mod-lt, eq-eqb, eqb-true}
use Rattle.std.proofs.lemmas.Bool.{false≢true}
use Rattle.std.specs.List.{range_with_len}
use Rattle.aes_words.specs.Polynomials.{product, remainder, times, numbers_from, or_zero, inverse}
use Rattle.aes_words.proofs.Field.{times_xor, times_of_zero, keeps_bytes}
use Rattle.aes_words.proofs.InverseTable.{inv}
use Rattle.aes_words.proofs.SameBelow.{same_below}

inv_inverts : (y : ℕ) → y < 256 → times y (inv y) ≡ min y 1
unfolding product remainder
inv_inverts = same_below 0 (λ y. times y (inv y)) (λ y. min y 1) 256 refl

inv_times_one : (y : ℕ) → y < 256 → times (inv y) 1 ≡ inv y
unfolding product remainder
inv_times_one = same_below 0 (λ y. times (inv y) 1) inv 256 refl

inv_mod : (y : ℕ) → y < 256 → inv y % 256 ≡ inv y
inv_mod = same_below 0 (λ y. inv y % 256) inv 256 refl

-- to multiply by y and then by its inverse, at bit i
there_and_back : ℕ → ℕ → ℕ
there_and_back y i = times (inv (suc y)) (times (suc y) (2 ^ i))

backs : (y : ℕ) → y < 255 → map (there_and_back y) (range_with_len 0 8) ≡ map (λ i. 2 ^ i) (range_with_len 0 8)
unfolding there_and_back product remainder
backs = same_below (map (λ i. 2 ^ i) (range_with_len 0 8)) (λ y. map (there_and_back y) (range_with_len 0 8)) (λ y. map (λ i. 2 ^ i) (range_with_len 0 8)) 255 refl

back : (y z : ℕ) → y < 255 → z < 256 → times (inv (suc y)) (times (suc y) z) ≡ z
unfolding there_and_back
back y z h k =
    keeps_bytes (λ z. times (inv (suc y)) (times (suc y) z))
    (λ a b. ap (times (inv (suc y))) (times_xor (suc y) a b) ∙ times_xor (inv (suc y)) (times (suc y) a) (times (suc y) b))
    (same_below 0 (there_and_back y) (λ i. 2 ^ i) 8 (backs y h))
    z k

alone : (y z : ℕ) → y < 256 → z < 256 → times y z ≡ 1 → z ≡ inv y
alone zero z h k e = absurd (omega (arith, times_of_zero z, e))
alone (suc y) z h k e =
    sym (back y z (omega arith) k) ∙ ap (times (inv (suc y))) e ∙ inv_times_one (suc y) h

found : (p : ℕ → Bool) (w first n : ℕ) → first ≤ w → w < first + n → p w ≡ true → ((z : ℕ) → z < first + n → p z ≡ true → z ≡ w) → find p (numbers_from first n) ≡ Some w
found p w first zero h k e one = absurd (omega arith)
found p w first (suc n) h k e one =
    by_test (p first) refl (λ t. let other : first ≢ w = differs t in found p w (suc first) n (omega arith) (omega arith) e (λ z j. one z (omega arith)))
  where
    differs : p first ≡ false → first ≡ w → ⊥
    differs t same = absurd (false≢true (sym t ∙ ap p same ∙ e))

    by_test : (b : Bool) → p first ≡ b → (p first ≡ false → find p (numbers_from (suc first) n) ≡ Some w) → cond b (Some first) (find p (numbers_from (suc first) n)) ≡ Some w
    by_test true t later = ap Some (one first (omega arith) t)
    by_test false t later = later t

pub inverse_is : (y : ℕ) → y < 256 → inverse y ≡ inv y
unfolding inverse product remainder
inverse_is zero h = refl
inverse_is (suc y) h =
    let small : inv (suc y) < 256 = subst (λ t. t < 256) (inv_mod (suc y) h) (mod-lt (inv (suc y)) (omega arith)) in
    let one : times (suc y) (inv (suc y)) ≡ 1 = inv_inverts (suc y) h ∙ omega arith in
    ap or_zero (found (λ z. eqb (times (suc y) z) 1) (inv (suc y)) 0 256 (omega arith) (omega arith) (eq-eqb _ 1 one) (λ z k t. alone (suc y) z h (omega arith) (eqb-true _ 1 t)))

pub are_inverse : (y : ℕ) → 0 < y → y < 256 → times y (inverse y) ≡ 1
are_inverse y pos h = ap (times y) (inverse_is y h) ∙ inv_inverts y h ∙ omega arith

pub no_other : (y z : ℕ) → y < 256 → z < 256 → times y z ≡ 1 → z ≡ inverse y
no_other y z h k e = alone y z h k e ∙ sym (inverse_is y h)
