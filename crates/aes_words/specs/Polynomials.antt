-- Polynomials modulo 2, whose coefficients are the bits of a number, and the field of 256 elements.
use Rattle.std.specs.Prelude.{ℕ, zero, suc, ◌+◌, ◌*◌, ◌/◌, ◌%◌, ◌^◌, ◌==◌, List, [], ◌∷◌, Option, Some, None, bit_xor, if◌then◌else◌}
use Rattle.std.specs.List.{find}

abbrev pub bit : ℕ → ℕ → ℕ
bit n i = (n / 2 ^ i) % 2

-- the product of two polynomials, of which the first has so many coefficients
unfoldable pub product : ℕ → ℕ → ℕ → ℕ
product zero a b = 0
product (suc n) a b = bit_xor (a % 2 * b) (product n (a / 2) (2 * b))

-- x^8 + x^4 + x^3 + x + 1
abbrev pub modulus : ℕ
modulus = 283

-- the remainder of a polynomial of so many coefficients above the eighth
unfoldable pub remainder : ℕ → ℕ → ℕ
remainder zero p = p
remainder (suc n) p = remainder n (if bit p (n + 8) == 1 then bit_xor p (modulus * 2 ^ n) else p)

-- the product in GF(2^8) modulo x^8 + x^4 + x^3 + x + 1, by FIPS 197, section 4.2
abbrev pub times : ℕ → ℕ → ℕ
times y z = remainder 7 (product 8 y z)

-- so many numbers from the first on
abbrev pub numbers_from : ℕ → ℕ → List ℕ
numbers_from first zero = []
numbers_from first (suc n) = first ∷ numbers_from (suc first) n

abbrev pub or_zero : Option ℕ → ℕ
or_zero None = 0
or_zero (Some n) = n

-- the byte z with y * z = 1, and 0 where there is none, as for 0
unfoldable pub inverse : ℕ → ℕ
inverse y = or_zero (find (λ z. times y z == 1) (numbers_from 0 256))
