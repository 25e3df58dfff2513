-- Products in the field are linear in the second factor; a linear function that keeps 1, 2, 4, .. and 128 keeps each byte.
use Rattle.std.proofs.Common.{◌≡◌, ℕ, zero, suc, ◌+◌, ◌*◌, ◌/◌, ◌%◌, ◌^◌, ◌<◌, ◌≤◌, cond, eqb, sym, refl, ap, ap₂, ◌∙◌, subst, arith, mod-lt, one-mul, zero-mul, mul_comm, pow-suc, div-lt_iff_lt-mul, pow_pos}
use Rattle.std.specs.Int.Bits.{bit_xor, xor_assoc, xor_comm, xor_self, xor_zero_r, xor_block, xor_shifted}
use Rattle.std.proofs.lemmas.Nat.{shr_split}
use Rattle.std.proofs.lemmas.Nat.Bits.{bit_at_xor}
use Rattle.aes_words.specs.Polynomials.{bit, product, remainder, modulus, times}

exchange : (x y z w : ℕ) → bit_xor (bit_xor x y) (bit_xor z w) ≡ bit_xor (bit_xor x z) (bit_xor y w)
exchange x y z w =
    xor_assoc x y (bit_xor z w)
    ∙ ap (bit_xor x) (sym (xor_assoc y z w) ∙ ap (λ t. bit_xor t w) (xor_comm y z) ∙ xor_assoc z y w)
    ∙ sym (xor_assoc x z (bit_xor y w))

once : (k b c : ℕ) → k < 2 → k * bit_xor b c ≡ bit_xor (k * b) (k * c)
once zero b c h = zero-mul (bit_xor b c) ∙ sym (ap₂ bit_xor (zero-mul b) (zero-mul c))
once (suc zero) b c h = one-mul (bit_xor b c) ∙ sym (ap₂ bit_xor (one-mul b) (one-mul c))
once (suc (suc k)) b c h = absurd (omega arith)

doubled : (b c : ℕ) → 2 * bit_xor b c ≡ bit_xor (2 * b) (2 * c)
doubled b c =
    two (bit_xor b c) ∙ sym (xor_block 1 b c 0 0 (pow_pos 1) (pow_pos 1)) ∙ sym (ap₂ bit_xor (two b) (two c))
  where
    two : (x : ℕ) → 2 * x ≡ x * 2 ^ 1 + 0
    two x = omega arith

product_xor : (n a b c : ℕ) → product n a (bit_xor b c) ≡ bit_xor (product n a b) (product n a c)
unfolding product
product_xor zero a b c = refl
product_xor (suc n) a b c =
    ap₂ bit_xor (once (a % 2) b c (mod-lt a (omega arith))) (ap (product n (a / 2)) (doubled b c) ∙ product_xor n (a / 2) (2 * b) (2 * c))
    ∙ exchange (a % 2 * b) (a % 2 * c) (product n (a / 2) (2 * b)) (product n (a / 2) (2 * c))

-- the modulus is added or not, by a bit
added : ℕ → ℕ → ℕ → ℕ
added x m p = cond (eqb x 1) (bit_xor p m) p

added_xor : (x y m p q : ℕ) → x < 2 → y < 2 → added ((x + y) % 2) m (bit_xor p q) ≡ bit_xor (added x m p) (added y m q)
unfolding added
added_xor zero zero m p q h k = refl
added_xor zero (suc zero) m p q h k = xor_assoc p q m
added_xor (suc zero) zero m p q h k = xor_assoc p q m ∙ ap (bit_xor p) (xor_comm q m) ∙ sym (xor_assoc p m q)
added_xor (suc zero) (suc zero) m p q h k =
    sym (xor_zero_r (bit_xor p q)) ∙ ap (bit_xor (bit_xor p q)) (sym (xor_self m)) ∙ exchange p q m m
added_xor (suc (suc x)) y m p q h k = absurd (omega arith)
added_xor zero (suc (suc y)) m p q h k = absurd (omega arith)
added_xor (suc zero) (suc (suc y)) m p q h k = absurd (omega arith)

remainder_xor : (n p q : ℕ) → remainder n (bit_xor p q) ≡ bit_xor (remainder n p) (remainder n q)
unfolding remainder added
remainder_xor zero p q = refl
remainder_xor (suc n) p q =
    ap (remainder n) (ap (λ x. added x (modulus * 2 ^ n) (bit_xor p q)) (bit_at_xor p q (n + 8)) ∙ added_xor (bit p (n + 8)) (bit q (n + 8)) (modulus * 2 ^ n) p q (mod-lt (p / 2 ^ (n + 8)) (omega arith)) (mod-lt (q / 2 ^ (n + 8)) (omega arith)))
    ∙ remainder_xor n (added (bit p (n + 8)) (modulus * 2 ^ n) p) (added (bit q (n + 8)) (modulus * 2 ^ n) q)

pub times_xor : (y a b : ℕ) → times y (bit_xor a b) ≡ bit_xor (times y a) (times y b)
times_xor y a b = ap (remainder 7) (product_xor 8 y a b) ∙ remainder_xor 7 (product 8 y a) (product 8 y b)

product_of_zero : (n b : ℕ) → product n 0 b ≡ 0
unfolding product
product_of_zero zero b = refl
product_of_zero (suc n) b = ap (λ t. bit_xor t (product n 0 (2 * b))) (zero-mul b) ∙ product_of_zero n (2 * b)

pub times_of_zero : (z : ℕ) → times 0 z ≡ 0
unfolding remainder
times_of_zero z = ap (remainder 7) (product_of_zero 8 z)

-- a linear function that keeps powers of two
module _ (f : ℕ → ℕ) (linear : (a b : ℕ) → f (bit_xor a b) ≡ bit_xor (f a) (f b)) (keeps : (i : ℕ) → i < 8 → f (2 ^ i) ≡ 2 ^ i) where
  at_zero : f 0 ≡ 0
  at_zero = linear 0 0 ∙ xor_self (f 0)

  at_multiple : (i q : ℕ) → i < 8 → q < 2 → f (q * 2 ^ i) ≡ q * 2 ^ i
  at_multiple i zero h k = ap f (zero-mul (2 ^ i)) ∙ at_zero ∙ sym (zero-mul (2 ^ i))
  at_multiple i (suc zero) h k = ap f (one-mul (2 ^ i)) ∙ keeps i h ∙ sym (one-mul (2 ^ i))
  at_multiple i (suc (suc q)) h k = absurd (omega arith)

  below : (n z : ℕ) → n ≤ 8 → z < 2 ^ n → f z ≡ z
  below zero z h k = let none : z ≡ 0 = omega arith in ap f none ∙ at_zero ∙ sym none
  below (suc n) z h k =
      let high = z / 2 ^ n in
      let low = z % 2 ^ n in
      let small : low < 2 ^ n = mod-lt z (pow_pos n) in
      let bit : high < 2 = (div-lt_iff_lt-mul (pow_pos n)).1 (subst (λ t. z < t) (pow-suc 2 n ∙ mul_comm (2 ^ n) 2) k) in
      let parts : z ≡ bit_xor (high * 2 ^ n) low = sym (shr_split z n) ∙ sym (xor_shifted high n low small) in
      ap f parts ∙ linear (high * 2 ^ n) low ∙ ap₂ bit_xor (at_multiple n high h bit) (below n low (omega arith) small) ∙ sym parts

  pub keeps_bytes : (z : ℕ) → z < 256 → f z ≡ z
  keeps_bytes z h = below 8 z (omega arith) h
