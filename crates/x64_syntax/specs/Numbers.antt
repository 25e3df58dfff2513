-- Whole numbers as words.
use Rattle.std.specs.Prelude.{ℕ, ◌-◌, ◌%◌, ◌^◌, ℤ, pos, negsuc}

-- the words of 64 bits are the numbers below this one
abbrev pub T : ℕ
T = 2 ^ 64

-- a whole number modulo 2^64
abbrev pub word_of : ℤ → ℕ
word_of (pos n) = n % T
word_of (negsuc n) = T - 1 - n % T
