-- Words of arrays, and shifts by 64 and more.
use Rattle.std.proofs.Common.{◌≡◌, ℕ, suc, ◌+◌, ◌*◌, ◌/◌, ◌%◌, ◌^◌, ◌-◌, ◌<◌, ◌≤◌, List, [], ◌∷◌, map, length, get_or, refl, sym, ap, ◌∙◌, subst, arith, lit<, mod-eq_of_lt}
use Rattle.std.proofs.Math.Nat.{mul-mod_left, div-eq_of_lt, pow-le-pow_right, mul_assoc}
use Rattle.std.proofs.lemmas.Nat.{pow-add}
use Rattle.term_core.specs.Value.{T}
use Rattle.word_ops.specs.Words.{rol, ror}

zero-add : (n : ℕ) → 0 + n ≡ n
zero-add n = omega arith

-- words that fit are the same modulo 2^64
pub words_fit : (ws : List ℕ) → ((k : ℕ) → k < length ws → get_or ws k 0 < T) → map (λ n. n % T) ws ≡ ws
words_fit [] h = refl
words_fit (w ∷ ws) h =
    ap (λ n. n ∷ map (λ m. m % T) ws) (mod-eq_of_lt (h 0 (omega arith))) ∙ ap (λ l. w ∷ l) (words_fit ws (λ k lt. h (suc k) (omega (arith, lt))))

-- nothing is left of a word of 64 bits
pub gone_left : (a n : ℕ) → 64 ≤ n → (a * 2 ^ n) % 2 ^ 64 ≡ 0
gone_left a n h =
    let total : n ≡ (n - 64) + 64 = omega arith in
    subst (λ m. (a * 2 ^ m) % 2 ^ 64 ≡ 0) (sym total) (ap (λ x. (a * x) % 2 ^ 64) (pow-add 2 (n - 64) 64) ∙ ap (λ x. x % 2 ^ 64) (sym (mul_assoc a (2 ^ (n - 64)) (2 ^ 64))) ∙ mul-mod_left (a * 2 ^ (n - 64)) (2 ^ 64))

pub gone_right : (a n : ℕ) → a < 2 ^ 64 → 64 ≤ n → a / 2 ^ n ≡ 0
gone_right a n fits h = let most = pow-le-pow_right {n = 2} (lit< tt) h in div-eq_of_lt (omega (arith, fits, most))

-- a rotation by so many leaves the word
pub rol_all : (a n : ℕ) → a < 2 ^ 64 → 64 ≤ n → rol a n ≡ a
rol_all a n fits h =
    let none : 64 - n ≡ 0 = omega arith in
    ap (λ x. x + a / 2 ^ (64 - n)) (gone_left a n h) ∙ zero-add (a / 2 ^ (64 - n)) ∙ ap (λ k. a / 2 ^ k) none ∙ (let one : a / 2 ^ 0 ≡ a = omega arith in one)

pub ror_all : (a n : ℕ) → a < 2 ^ 64 → 64 ≤ n → ror a n ≡ a
ror_all a n fits h =
    let none : 64 - n ≡ 0 = omega arith in
    let whole : (a * 2 ^ (64 - n)) % 2 ^ 64 ≡ a = ap (λ k. (a * 2 ^ k) % 2 ^ 64) none ∙ ap (λ x. x % 2 ^ 64) (let one : a * 2 ^ 0 ≡ a = omega arith in one) ∙ mod-eq_of_lt fits in
    ap (λ x. x + (a * 2 ^ (64 - n)) % 2 ^ 64) (gone_right a n fits h) ∙ zero-add ((a * 2 ^ (64 - n)) % 2 ^ 64) ∙ whole
