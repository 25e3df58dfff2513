-- Twice and three times a byte in the field.
use Rattle.std.proofs.Common.{◌≡◌, ℕ, ◌*◌, ◌%◌, ◌<◌, ◌≤◌, cond, ltb, sym, refl, ap, ◌∙◌, lt-ltb, le-ltb}
use Rattle.std.specs.Int.Bits.{bit_xor}
use Rattle.aes_words.specs.Polynomials.{product, remainder, times}
use Rattle.aes_words.proofs.SameBelow.{same_below}

twice : ℕ → ℕ
twice y = cond (ltb y 128) (y * 2 % 256) (bit_xor (y * 2 % 256) 27)

twice_is : (y : ℕ) → y < 256 → twice y ≡ times 2 y
unfolding twice product remainder
twice_is = same_below 0 twice (times 2) 256 refl

pub twice_low : (y : ℕ) → y < 256 → y < 128 → y * 2 % 256 ≡ times 2 y
unfolding twice
twice_low y h low = sym (ap (λ b. cond b (y * 2 % 256) (bit_xor (y * 2 % 256) 27)) (lt-ltb y 128 low)) ∙ twice_is y h

pub twice_high : (y : ℕ) → y < 256 → 128 ≤ y → bit_xor (y * 2 % 256) 27 ≡ times 2 y
unfolding twice
twice_high y h high = sym (ap (λ b. cond b (y * 2 % 256) (bit_xor (y * 2 % 256) 27)) (le-ltb y 128 high)) ∙ twice_is y h

pub thrice : (y : ℕ) → y < 256 → bit_xor (times 2 y) y ≡ times 3 y
unfolding product remainder
thrice = same_below 0 (λ y. bit_xor (times 2 y) y) (times 3) 256 refl
