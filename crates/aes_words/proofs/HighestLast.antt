-- A product of polynomials, by the highest coefficient last.
use Rattle.std.proofs.Common.{◌≡◌, ◌≢◌, ℕ, zero, suc, ◌+◌, ◌*◌, ◌/◌, ◌%◌, ◌^◌, ◌<◌, sym, ap, ap₂, ◌∙◌, arith, add-one, mul_assoc, mul-one, div-one, pow-suc, zero-mul, one-mul, mul_comm, bit_and}
use Rattle.std.specs.Int.Bits.{bit_xor, xor_assoc, xor_zero_r}
use Rattle.std.proofs.lemmas.Nat.{shl_whole}
use Rattle.std.proofs.lemmas.Nat.Bits.{bit_at-suc, bit_at-lt, shr_and_one}
use Rattle.aes_words.specs.Polynomials.{bit, product}

pub one_more : (n a b : ℕ) → product (suc n) a b ≡ bit_xor (product n a b) (bit a n * (b * 2 ^ n))
unfolding product
one_more zero a b =
    xor_zero_r (a % 2 * b) ∙ ap₂ (λ x y. x % 2 * y) (sym (div-one a)) (sym (mul-one b))
one_more (suc n) a b =
    ap (bit_xor (a % 2 * b)) (one_more n (a / 2) (2 * b) ∙ ap₂ (λ x y. bit_xor (product n (a / 2) (2 * b)) (x * y)) (sym (bit_at-suc a n)) shifted)
    ∙ sym (xor_assoc (a % 2 * b) (product n (a / 2) (2 * b)) (bit a (suc n) * (b * 2 ^ suc n)))
  where
    shifted : 2 * b * 2 ^ n ≡ b * 2 ^ suc n
    shifted = ap (λ x. x * 2 ^ n) (mul_comm 2 b) ∙ mul_assoc b 2 (2 ^ n) ∙ ap (λ x. b * x) (mul_comm 2 (2 ^ n) ∙ sym (pow-suc 2 n))

module _ (a b n : ℕ) (few : n < 64) (fits : b < 2 ^ 64) where
  pub with_term : bit_and (a / 2 ^ n) 1 ≡ 1 → bit_xor (product n a b) ((b * 2 ^ n) % 2 ^ 128) ≡ product (n + 1) a b
  with_term h =
      ap (bit_xor (product n a b)) (shl_whole b 64 n 128 fits (omega arith) ∙ sym (one-mul (b * 2 ^ n)) ∙ ap (λ x. x * (b * 2 ^ n)) (sym (sym (shr_and_one a n) ∙ h)))
      ∙ sym (one_more n a b)
      ∙ ap (λ m. product m a b) (sym (add-one n))

  pub without_term : bit_and (a / 2 ^ n) 1 ≢ 1 → product n a b ≡ product (n + 1) a b
  without_term h =
      let none : bit a n ≡ 0 = omega (arith, shr_and_one a n, bit_at-lt a n) in
      sym (xor_zero_r (product n a b))
      ∙ ap (bit_xor (product n a b)) (sym (zero-mul (b * 2 ^ n)) ∙ ap (λ x. x * (b * 2 ^ n)) (sym none))
      ∙ sym (one_more n a b)
      ∙ ap (λ m. product m a b) (sym (add-one n))
