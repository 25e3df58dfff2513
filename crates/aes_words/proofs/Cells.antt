-- Words and their bytes, the lowest first; cells of a word by its bytes.
use Rattle.std.proofs.Common.{◌≡◌, ℕ, zero, suc, ◌+◌, ◌*◌, ◌/◌, ◌%◌, ◌^◌, ◌<◌, List, [], ◌∷◌, length, map, get_or, sym, refl, ap, ap₂, ◌∙◌, arith, div-one, pow-suc, mul_comm}
use Rattle.std.proofs.Math.Nat.{div-div-eq-div-mul, mod-one, mod-eq_of_lt, one-le-pow}
use Rattle.std.proofs.Math.Arith.{mod-mul}
use Rattle.std.specs.List.{range_with_len}
use Rattle.std.specs.Int.{byte_at, bytes_low_first, to_le_bytes, from_le_bytes, w128}
use Rattle.std.proofs.lemmas.List.FromFn.{fill_by_all}
use Rattle.aes_words.specs.Rounds.{of_digits, by_cells}

abbrev pub AreBytes : List ℕ → Type 0
AreBytes bs = (i : ℕ) → get_or bs i 0 < 256

-- x / 256 ^ suc k
one_less : (x k : ℕ) → x / 256 ^ suc k ≡ x / 256 / 256 ^ k
one_less x k = ap (λ m. x / m) (pow-suc 256 k ∙ mul_comm (256 ^ k) 256) ∙ sym (div-div-eq-div-mul x 256 (256 ^ k))

pub digit : (bs : List ℕ) → AreBytes bs → (k : ℕ) → of_digits 256 bs / 256 ^ k % 256 ≡ get_or bs k 0
digit [] h k = nothing k
  where
    nothing : (k : ℕ) → 0 / 256 ^ k % 256 ≡ 0
    nothing zero = refl
    nothing (suc k) = ap (λ x. x % 256) (one_less 0 k) ∙ nothing k
digit (b ∷ bs) h zero = let small = h 0 in ap (λ x. x % 256) (div-one (b + 256 * of_digits 256 bs)) ∙ lowest b (of_digits 256 bs) small
  where
    lowest : (b x : ℕ) → b < 256 → (b + 256 * x) % 256 ≡ b
    lowest b x small = omega arith
digit (b ∷ bs) h (suc k) =
    ap (λ x. x % 256) (one_less (b + 256 * of_digits 256 bs) k ∙ ap (λ x. x / 256 ^ k) (others b (of_digits 256 bs) (h 0)))
    ∙ digit bs (λ i. h (suc i)) k
  where
    others : (b x : ℕ) → b < 256 → (b + 256 * x) / 256 ≡ x
    others b x small = omega arith

pub by_bytes : (bs : List ℕ) (f : ℕ → ℕ → ℕ) → length bs ≡ 16 → ((k : ℕ) → k < 16 → get_or bs k 0 ≡ f (k % 4) (k / 4)) → of_digits 256 bs ≡ by_cells f
unfolding by_cells
by_bytes bs f e h = ap (of_digits 256) (fill_by_all (λ k. f (k % 4) (k / 4)) bs 16 0 e h)

-- ---- from a word to its bytes and back
byte_is : (i a : ℕ) → byte_at i a ≡ a / 256 ^ i % 256
byte_is zero a = ap (λ x. x % 256) (sym (div-one a))
byte_is (suc i) a = refl

low_bytes : (k i a : ℕ) → of_digits 256 (bytes_low_first i k a) ≡ a / 256 ^ i % 256 ^ k
low_bytes zero i a = sym (mod-one (a / 256 ^ i))
low_bytes (suc k) i a =
    ap₂ (λ x y. x + 256 * y) (byte_is i a) (low_bytes k (suc i) a ∙ ap (λ x. x % 256 ^ k) (ap (λ m. a / m) (pow-suc 256 i) ∙ sym (div-div-eq-div-mul a (256 ^ i) 256)))
    ∙ joined (a / 256 ^ i % 256) (a / 256 ^ i / 256 % 256 ^ k)
    ∙ sym (mod-mul (a / 256 ^ i) (one-le-pow k 256 (omega arith)) (omega arith))
    ∙ ap (λ m. a / 256 ^ i % m) (sym (pow-suc 256 k))
  where
    joined : (x y : ℕ) → x + 256 * y ≡ y * 256 + x
    joined x y = omega arith

pub to_bytes : (a : ℕ) → a < 2 ^ 128 → of_digits 256 (to_le_bytes w128 a) ≡ a
to_bytes a h = low_bytes 16 0 a ∙ ap (λ x. x % 256 ^ 16) (div-one a) ∙ mod-eq_of_lt h

pub from_bytes : (bs : List ℕ) → length bs ≡ 16 → from_le_bytes w128 bs ≡ of_digits 256 bs
from_bytes bs e = nested ∙ ap (of_digits 256) (sym (fill_by_all (λ k. get_or bs k 0) bs 16 0 e (λ k h. refl)))
  where
    nested : from_le_bytes w128 bs ≡ of_digits 256 (map (λ k. get_or bs k 0) (range_with_len 0 16))
    nested = omega arith
