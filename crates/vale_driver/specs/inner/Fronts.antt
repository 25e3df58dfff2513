-- Reading from the front of a text: what was read, and the bytes after it.
use Rattle.std.specs.Prelude.{ℕ, Bool, List, length, take, drop, Option, Some}
use Rattle.std.specs.List.{prefix_len}
use Rattle.std.specs.Str.{bytes_eq}
use Rattle.x64_syntax.specs.Words.{is_digit_byte}
use Rattle.x64_syntax.specs.inner.Digits.{number_of}
use Rattle.vale_driver.specs.Words.{value_if}
pub use Rattle.vale_syntax.specs.Options.{◌>>=◌}

-- a literal text
unfoldable pub strip : List ℕ → List ℕ → Option (List ℕ)
strip literal bytes = value_if (bytes_eq (take (length literal) bytes) literal) (drop (length literal) bytes)

-- the longest front of bytes that pass a test
unfoldable pub span : (ℕ → Bool) → List ℕ → List ℕ × List ℕ
span p bytes = (take (prefix_len p bytes) bytes, drop (prefix_len p bytes) bytes)

-- a number below 2^64 in decimal digits, without leading zeros, and what is left
unfoldable pub number_at : List ℕ → Option (ℕ × List ℕ)
number_at bytes = number_of (span is_digit_byte bytes).0 >>= λ n. Some (n, (span is_digit_byte bytes).1)
