-- Numbers read digit by digit.
use Rattle.std.specs.Prelude.{ℕ, ◌+◌, ◌*◌, ◌-◌, ◌^◌, nat_lt, decimal, ◌&&◌, List, [], ◌∷◌, Option, Some, None, option_and_then, if◌then◌else◌}
use Rattle.std.specs.Str.{bytes_eq}
use Rattle.x64_syntax.specs.Words.{is_digit_byte}

-- the number whose decimal digits follow those of n, where it has 64 bits
abbrev pub digits_from : ℕ → List ℕ → Option ℕ
digits_from n [] = Some n
digits_from n (b ∷ bs) =
    if is_digit_byte b && nat_lt (n * 10 + (b - 48)) (2 ^ 64) then digits_from (n * 10 + (b - 48)) bs else None

-- the number, where it is written so
abbrev pub number_of : List ℕ → Option ℕ
number_of text = option_and_then (λ n. if bytes_eq (decimal n) text then Some n else None) (digits_from 0 text)
