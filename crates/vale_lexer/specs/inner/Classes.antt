-- Classes of bytes.
use Rattle.std.specs.Prelude.{ℕ, Bool}
use Rattle.x64_syntax.specs.Words.{is_digit_byte, is_name_byte}
use Rattle.vale_syntax.specs.Tokens.{is_stamp_byte, is_hex_byte, is_in_line}
use Rattle.vale_lexer.specs.declared.class.Class.{Class}
use Rattle.vale_lexer.specs.declared.class.Class.TheVariants.{Name, Stamp, Digit, Hex, InLine}

abbrev pub in_class : Class → ℕ → Bool
in_class Name = is_name_byte
in_class Stamp = is_stamp_byte
in_class Digit = is_digit_byte
in_class Hex = is_hex_byte
in_class InLine = is_in_line
