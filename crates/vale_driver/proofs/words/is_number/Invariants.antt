use Rattle.std.proofs.Common.{◌≡◌, drop}
use Rattle.std.specs.List.{list_all}
use Rattle.x64_syntax.specs.Words.{is_digit_byte}
use Rattle.vale_driver.proofs.words.is_number.Given as goal

abbrev pub invariant-loop-byte : goal.invariant-loop-byte
invariant-loop-byte l = list_all is_digit_byte (drop l.byte-index l.word) ≡ list_all is_digit_byte l.word
