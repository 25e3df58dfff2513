-- Rounds of AES, by FIPS 197, sections 3.4 and 5.1, as volume 2 of Intel's manual has them under AESENC and AESENCLAST;
-- and the product of PCLMULQDQ.
use Rattle.std.specs.Prelude.{ℕ, ◌+◌, ◌*◌, ◌/◌, ◌%◌, ◌^◌, List, [], ◌∷◌, map, bit_xor}
use Rattle.aes_words.specs.Polynomials.{bit, product, times, numbers_from, inverse}

-- the number of these digits in a base, the lowest first
abbrev pub of_digits : ℕ → List ℕ → ℕ
of_digits base [] = 0
of_digits base (d ∷ ds) = d + base * of_digits base ds

-- bit i is the sum modulo 2 of bits i, i + 4, i + 5, i + 6 and i + 7, modulo 8, and of bit i of 99
abbrev pub affine_bit : ℕ → ℕ → ℕ
affine_bit z i =
    (bit z i + bit z ((i + 4) % 8) + bit z ((i + 5) % 8) + bit z ((i + 6) % 8) + bit z ((i + 7) % 8) + bit 99 i) % 2

unfoldable pub affine : ℕ → ℕ
affine z = of_digits 2 (map (affine_bit z) (numbers_from 0 8))

-- the S-box
abbrev pub sub : ℕ → ℕ
sub y = affine (inverse y)

-- Byte r + 4 * c of a word of 128 bits, counted from the low end, is row r of column c.
abbrev pub cell : ℕ → ℕ → ℕ → ℕ
cell a r c = (a / 256 ^ (r + 4 * c)) % 256

-- the word with such cells, by row and column
unfoldable pub by_cells : (ℕ → ℕ → ℕ) → ℕ
by_cells f = of_digits 256 (map (λ k. f (k % 4) (k / 4)) (numbers_from 0 16))

abbrev pub shift_rows : ℕ → ℕ
shift_rows a = by_cells (λ r c. cell a r ((c + r) % 4))

abbrev pub sub_bytes : ℕ → ℕ
sub_bytes a = by_cells (λ r c. sub (cell a r c))

-- 2 * s(r) + 3 * s(r + 1) + s(r + 2) + s(r + 3) in the field, rows modulo 4
abbrev pub mixed : ℕ → ℕ → ℕ → ℕ
mixed a r c =
    bit_xor (bit_xor (times 2 (cell a r c)) (times 3 (cell a ((r + 1) % 4) c)))
    (bit_xor (cell a ((r + 2) % 4) c) (cell a ((r + 3) % 4) c))

abbrev pub mix_columns : ℕ → ℕ
mix_columns a = by_cells (mixed a)

-- a round, and the last one, of a state with a round key
abbrev pub aesenc : ℕ → ℕ → ℕ
aesenc a k = bit_xor (mix_columns (sub_bytes (shift_rows a))) k

abbrev pub aesenclast : ℕ → ℕ → ℕ
aesenclast a k = bit_xor (sub_bytes (shift_rows a)) k

-- the product of two words of 64 bits as polynomials
abbrev pub carryless : ℕ → ℕ → ℕ
carryless a b = product 64 a b

-- the lower half of a word of 128 bits, or the upper one where the bit is 1
abbrev pub half : ℕ → ℕ → ℕ
half a upper = (a / (2 ^ 64) ^ upper) % 2 ^ 64

-- the product of the half of a that bit 0 of n chooses and the half of b that bit 4 chooses
abbrev pub clmul : ℕ → ℕ → ℕ → ℕ
clmul a b n = carryless (half a (bit n 0)) (half b (bit n 4))
