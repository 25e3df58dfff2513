-- Operations on words of 128 bits: four numbers of 32 bits or sixteen bytes, the lowest first.
use Rattle.std.specs.Prelude.{ℕ, ◌+◌, ◌*◌, ◌/◌, ◌%◌, ◌^◌, List, [], ◌∷◌, map, nat_le, if◌then◌else◌}

-- the word of 128 bits of two words, and its upper and lower word
abbrev pub pair : ℕ → ℕ → ℕ
pair h l = h * 2 ^ 64 + l

abbrev pub high : ℕ → ℕ
high a = a / 2 ^ 64

abbrev pub low : ℕ → ℕ
low a = a % 2 ^ 64

-- the digits of a number in a base, and the number of such digits
abbrev pub digit : ℕ → ℕ → ℕ → ℕ
digit base n k = (n / base ^ k) % base

abbrev pub of_digits : ℕ → List ℕ → ℕ
of_digits base [] = 0
of_digits base (d ∷ ds) = d + base * of_digits base ds

abbrev pub lane_numbers : List ℕ
lane_numbers = 0 ∷ 1 ∷ 2 ∷ 3 ∷ []

abbrev pub byte_numbers : List ℕ
byte_numbers = 0 ∷ 1 ∷ 2 ∷ 3 ∷ 4 ∷ 5 ∷ 6 ∷ 7 ∷ 8 ∷ 9 ∷ 10 ∷ 11 ∷ 12 ∷ 13 ∷ 14 ∷ 15 ∷ []

abbrev pub lane : ℕ → ℕ → ℕ
lane = digit (2 ^ 32)

abbrev pub byte : ℕ → ℕ → ℕ
byte = digit 256

-- the word whose lanes are these, by their numbers
abbrev pub by_lanes : (ℕ → ℕ) → ℕ
by_lanes f = of_digits (2 ^ 32) (map f lane_numbers)

abbrev pub by_bytes : (ℕ → ℕ) → ℕ
by_bytes f = of_digits 256 (map f byte_numbers)

abbrev pub paddd : ℕ → ℕ → ℕ
paddd a b = by_lanes (λ k. (lane a k + lane b k) % 2 ^ 32)

-- two bits of the constant pick each lane
abbrev pub pshufd : ℕ → ℕ → ℕ
pshufd a n = by_lanes (λ k. lane a (digit 4 n k))

-- the control byte's highest bit gives 0, else its lowest four bits pick a byte
abbrev pub picked_byte : ℕ → ℕ → ℕ
picked_byte a c = if nat_le 128 c then 0 else byte a (c % 16)

abbrev pub pshufb : ℕ → ℕ → ℕ
pshufb a c = by_bytes (λ k. picked_byte a (byte c k))

-- each lane by bits; all bits are gone from 32 on
abbrev pub pslld : ℕ → ℕ → ℕ
pslld a n = by_lanes (λ k. (lane a k * 2 ^ n) % 2 ^ 32)

abbrev pub psrld : ℕ → ℕ → ℕ
psrld a n = by_lanes (λ k. lane a k / 2 ^ n)

-- the whole by bytes; all are gone from 16 on
abbrev pub pslldq : ℕ → ℕ → ℕ
pslldq a n = (a * 256 ^ n) % 2 ^ 128

abbrev pub psrldq : ℕ → ℕ → ℕ
psrldq a n = a / 256 ^ n
