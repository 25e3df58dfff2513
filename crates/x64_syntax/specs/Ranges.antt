-- The ranges of the numbers in instructions, labels and blocks.
use Rattle.std.specs.Prelude.{ℕ, ◌-◌, ◌^◌, ℤ, pos, negsuc, Bool, ◌&&◌, int_le, nat_le, nat_lt}

-- from the negative of a number to one less than the number
abbrev pub is_around_zero : ℕ → ℤ → Bool
is_around_zero n z = int_le (negsuc (n - 1)) z && int_le z (pos (n - 1))

-- a number of 32 bits with sign
abbrev pub is_i32 : ℤ → Bool
is_i32 z = is_around_zero (2 ^ 31) z

-- a number of 64 bits with sign
abbrev pub is_i64 : ℤ → Bool
is_i64 z = is_around_zero (2 ^ 63) z

-- a number of 8 bits
abbrev pub is_u8 : ℕ → Bool
is_u8 n = nat_le n 255

-- a number of 32 bits
abbrev pub is_u32 : ℕ → Bool
is_u32 n = nat_lt n (2 ^ 32)
