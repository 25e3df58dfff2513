-- Words against whole numbers.
use Rattle.std.proofs.Common.{◌≡◌, ℕ, suc, ◌+◌, ◌-◌, ◌*◌, ◌%◌, ◌<◌, ◌≤◌, ℤ, pos, negsuc, Bool, true, false, sym, ap, ◌∙◌, arith, mod-eq_of_lt, SFits, w64}
use Rattle.std.specs.Int.{cast_unsigned}
use Rattle.std.proofs.lemmas.Int.{ints}
use Rattle.std.proofs.Math.Nat.{mod-add-mod, add-mod-mod, add-mod_right}
use Rattle.std.proofs.lemmas.Nat.{mod_below}
use Rattle.word_ops.specs.Words.{bit, sum, difference}
use Rattle.term_core.specs.Value.{T, word_of}

-- a constant as a word
pub word_of_cast : (z : ℤ) → SFits w64 z → cast_unsigned w64 z ≡ word_of z
word_of_cast (pos n) fits = let lt : n < T = omega (arith, ints) in sym (mod-eq_of_lt lt)
word_of_cast (negsuc n) fits =
    let lt : n < T = omega (arith, ints) in
    let e : T - suc n ≡ T - 1 - n = omega arith in
    e ∙ ap (λ k. T - 1 - k) (sym (mod-eq_of_lt lt))

pub word_of-lt : (z : ℤ) → word_of z < T
word_of-lt (pos n) = mod_below n T (omega arith)
word_of-lt (negsuc n) = omega arith

-- an address in words is that in numbers
pub addressed : (b x y w v : ℕ) → x ≡ y % T → w ≡ v → ((b + x) % T + w) % T ≡ (b + y + v) % T
addressed b x y w v e f =
    mod-add-mod (b + x) T w
    ∙ ap (λ n. (b + n + w) % T) e
    ∙ ap (λ n. n % T) (let r : b + y % T + w ≡ (b + w) + y % T = omega arith in r)
    ∙ add-mod-mod (b + w) y T
    ∙ ap (λ n. n % T) (let r : (b + w) + y ≡ b + y + w = omega arith in r)
    ∙ ap (λ n. (b + y + n) % T) f

bit-le : (c : Bool) → bit c ≤ 1
bit-le true = omega arith
bit-le false = omega arith

pub bit-lt : (c : Bool) → bit c < T
bit-lt c = omega (arith, bit-le c)

-- a + b and then the flag is the sum of all three
pub sum_in_two : (a b : ℕ) (c : Bool) → ((a + b) % T + bit c % T) % T ≡ sum a b c
sum_in_two a b c = ap (λ n. ((a + b) % T + n) % T) (mod-eq_of_lt (bit-lt c)) ∙ mod-add-mod (a + b) T (bit c)

pub plain_sum : (a b : ℕ) → (a + b) % T ≡ sum a b false
plain_sum a b = ap (λ n. n % T) (let r : a + b ≡ a + b + 0 = omega arith in r)

pub plain_difference : (a b : ℕ) → b < T → (a + T - b) % T ≡ difference a b false
plain_difference a b lt =
    sym (add-mod_right (a + T - b) T) ∙ ap (λ n. n % T) (let r : a + T - b + T ≡ a + 2 * T - (b + 0) = omega (arith, lt) in r)

-- a - b and then the flag is the difference of all three
pub difference_in_two : (a b : ℕ) (c : Bool) → b < T → ((a + T - b) % T + T - bit c % T) % T ≡ difference a b c
difference_in_two a b c lt =
    let small = bit-le c in
    let one : bit c % T ≡ bit c = mod-eq_of_lt (bit-lt c) in
    let move : (a + T - b) % T + T - bit c ≡ (a + T - b) % T + (T - bit c) = omega (arith, small) in
    let all : a + T - b + (T - bit c) ≡ a + 2 * T - (b + bit c) = omega (arith, small, lt) in
    ap (λ n. ((a + T - b) % T + T - n) % T) one ∙ ap (λ n. n % T) move ∙ mod-add-mod (a + T - b) T (T - bit c) ∙ ap (λ n. n % T) all
