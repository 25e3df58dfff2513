-- Shifts of words of w bits by w or more, and by whole bytes.
use Rattle.std.proofs.Common.{◌≡◌, ℕ, zero, suc, ◌+◌, ◌-◌, ◌*◌, ◌/◌, ◌%◌, ◌^◌, ◌<◌, ◌≤◌, refl, sym, ap, ◌∙◌, subst, arith, lit<}
use Rattle.std.proofs.Math.Nat.{mul-mod_left, div-eq_of_lt, pow-le-pow_right, mul_assoc, pow-suc}
use Rattle.std.proofs.lemmas.Nat.{pow-add}

-- nothing is left
pub gone_left : (a w n : ℕ) → w ≤ n → (a * 2 ^ n) % 2 ^ w ≡ 0
gone_left a w n h =
    let total : n ≡ (n - w) + w = omega arith in
    subst (λ m. (a * 2 ^ m) % 2 ^ w ≡ 0) (sym total) (ap (λ x. (a * x) % 2 ^ w) (pow-add 2 (n - w) w) ∙ ap (λ x. x % 2 ^ w) (sym (mul_assoc a (2 ^ (n - w)) (2 ^ w))) ∙ mul-mod_left (a * 2 ^ (n - w)) (2 ^ w))

pub gone_right : (a w n : ℕ) → a < 2 ^ w → w ≤ n → a / 2 ^ n ≡ 0
gone_right a w n fits h = let most = pow-le-pow_right {n = 2} (lit< tt) h in div-eq_of_lt (omega (arith, fits, most))

-- a byte is eight bits
pub bits_of_bytes : (n : ℕ) → 2 ^ (8 * n) ≡ 256 ^ n
bits_of_bytes zero = refl
bits_of_bytes (suc n) =
    let e : 8 * suc n ≡ 8 * n + 8 = omega arith in
    ap (λ m. 2 ^ m) e ∙ pow-add 2 (8 * n) 8 ∙ ap (λ p. p * 256) (bits_of_bytes n) ∙ sym (pow-suc 256 n)
