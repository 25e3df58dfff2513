-- Rotations: the bits that come in lie apart from those that stay.
use Rattle.std.proofs.Common.{◌≡◌, ℕ, zero, suc, ◌+◌, ◌-◌, ◌*◌, ◌/◌, ◌%◌, ◌^◌, ◌<◌, sym, ap, ◌∙◌, subst, arith, bit_or}
use Rattle.std.proofs.Math.Nat.{mul-mod_left, mul-div_left, div-lt_iff_lt-mul, mod-eq_of_lt, div-one, div-eq_of_lt, mul_comm}
use Rattle.std.specs.Int.Bits.{or_self}
use Rattle.std.proofs.lemmas.Nat.{mod-pow-add, or_comm, or_shifted, pow_pos, pow-add}
use Rattle.word_ops.specs.Words.{rol, ror}

-- what stays of a word that is moved up, as a multiple
stays : (a j n : ℕ) → (a * 2 ^ n) % 2 ^ (j + n) ≡ (a % 2 ^ j) * 2 ^ n
stays a j n =
    mod-pow-add (a * 2 ^ n) j n
    ∙ ap (λ r. (a * 2 ^ n / 2 ^ n % 2 ^ j) * 2 ^ n + r) (mul-mod_left a (2 ^ n))
    ∙ add_zero _
    ∙ ap (λ q. (q % 2 ^ j) * 2 ^ n) (mul-div_left a (pow_pos n))
  where
    add_zero : (x : ℕ) → x + 0 ≡ x
    add_zero x = omega arith

-- what comes in is below it
comes : (a j n : ℕ) → a < 2 ^ (j + n) → a / 2 ^ j < 2 ^ n
comes a j n h = (div-lt_iff_lt-mul (pow_pos j)).1 (subst (λ k. a < k) (pow-add 2 j n ∙ mul_comm (2 ^ j) (2 ^ n)) h)

joined_up : (a j n : ℕ) → a < 2 ^ (j + n) → bit_or ((a * 2 ^ n) % 2 ^ (j + n)) (a / 2 ^ j) ≡ (a * 2 ^ n) % 2 ^ (j + n) + a / 2 ^ j
joined_up a j n h =
    ap (λ x. bit_or x (a / 2 ^ j)) (stays a j n) ∙ or_shifted (a % 2 ^ j) n (a / 2 ^ j) (comes a j n h) ∙ ap (λ x. x + a / 2 ^ j) (sym (stays a j n))

add_swap : (x y : ℕ) → x + y ≡ y + x
add_swap x y = omega arith

joined_down : (a j n : ℕ) → a < 2 ^ (j + n) → bit_or (a / 2 ^ j) ((a * 2 ^ n) % 2 ^ (j + n)) ≡ a / 2 ^ j + (a * 2 ^ n) % 2 ^ (j + n)
joined_down a j n h = or_comm (a / 2 ^ j) ((a * 2 ^ n) % 2 ^ (j + n)) ∙ joined_up a j n h ∙ add_swap ((a * 2 ^ n) % 2 ^ (j + n)) (a / 2 ^ j)

-- a word that isn't moved
times_one : (a : ℕ) → a < 2 ^ 64 → (a * 1) % 2 ^ 64 ≡ a
times_one a h = ap (λ x. x % 2 ^ 64) (one a) ∙ mod-eq_of_lt h
  where
    one : (a : ℕ) → a * 1 ≡ a
    one a = omega arith

over_one : (a : ℕ) → a / 1 ≡ a
over_one a = div-one a

nothing_in : (a : ℕ) → a < 2 ^ 64 → a / 2 ^ 64 ≡ 0
nothing_in a h = div-eq_of_lt h

times_all : (a : ℕ) → (a * 2 ^ 64) % 2 ^ 64 ≡ 0
times_all a = mul-mod_left a (2 ^ 64)

unmoved : (a : ℕ) → a < 2 ^ 64 → bit_or ((a * 1) % 2 ^ 64) (a / 1) ≡ a
unmoved a h = ap (λ x. bit_or x (a / 1)) (times_one a h) ∙ ap (bit_or a) (over_one a) ∙ or_self a

add_none : (x : ℕ) → x ≡ x + 0
add_none x = omega arith

pub rotated_left : (a n : ℕ) → a < 2 ^ 64 → n < 64 → bit_or ((a * 2 ^ (n % 64)) % 2 ^ 64) (a / 2 ^ ((64 - n % 64) % 64)) ≡ rol a n
rotated_left a zero h k =
    unmoved a h ∙ sym (times_one a h) ∙ add_none ((a * 1) % 2 ^ 64) ∙ ap (λ x. (a * 1) % 2 ^ 64 + x) (sym (nothing_in a h))
rotated_left a (suc n) h k =
    let e : suc n % 64 ≡ suc n = omega arith in
    let f : (64 - suc n % 64) % 64 ≡ 64 - suc n = omega arith in
    let total : 64 - suc n + suc n ≡ 64 = omega arith in
    let up = joined_up a (64 - suc n) (suc n) (subst (λ t. a < 2 ^ t) (sym total) h) in
    ap (λ m. bit_or ((a * 2 ^ m) % 2 ^ 64) (a / 2 ^ ((64 - suc n % 64) % 64))) e
    ∙ ap (λ m. bit_or ((a * 2 ^ suc n) % 2 ^ 64) (a / 2 ^ m)) f
    ∙ subst (λ t. bit_or ((a * 2 ^ suc n) % 2 ^ t) (a / 2 ^ (64 - suc n)) ≡ (a * 2 ^ suc n) % 2 ^ t + a / 2 ^ (64 - suc n)) total up

pub rotated_right : (a n : ℕ) → a < 2 ^ 64 → n < 64 → bit_or (a / 2 ^ (n % 64)) ((a * 2 ^ ((64 - n % 64) % 64)) % 2 ^ 64) ≡ ror a n
rotated_right a zero h k =
    or_comm (a / 1) ((a * 1) % 2 ^ 64) ∙ unmoved a h ∙ sym (over_one a) ∙ add_none (a / 1) ∙ ap (λ x. a / 1 + x) (sym (times_all a))
rotated_right a (suc n) h k =
    let e : suc n % 64 ≡ suc n = omega arith in
    let f : (64 - suc n % 64) % 64 ≡ 64 - suc n = omega arith in
    let total : suc n + (64 - suc n) ≡ 64 = omega arith in
    let down = joined_down a (suc n) (64 - suc n) (subst (λ t. a < 2 ^ t) (sym total) h) in
    ap (λ m. bit_or (a / 2 ^ m) ((a * 2 ^ ((64 - suc n % 64) % 64)) % 2 ^ 64)) e
    ∙ ap (λ m. bit_or (a / 2 ^ suc n) ((a * 2 ^ m) % 2 ^ 64)) f
    ∙ subst (λ t. bit_or (a / 2 ^ suc n) ((a * 2 ^ (64 - suc n)) % 2 ^ t) ≡ a / 2 ^ suc n + (a * 2 ^ (64 - suc n)) % 2 ^ t) total down
