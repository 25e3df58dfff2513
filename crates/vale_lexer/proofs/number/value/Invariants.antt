use Rattle.std.proofs.Common.{◌≡◌, ◌<◌, ◌^◌, drop}
use Rattle.vale_syntax.specs.Tokens.{number_after}
use Rattle.vale_lexer.proofs.number.value.Given as goal

-- the number so far, with the digits that are left, is the number of all
abbrev pub invariant-loop-byte : goal.invariant-loop-byte
invariant-loop-byte l = record {
  whole : number_after l.radix l.value (drop l.byte-index l.digits) ≡ number_after l.radix 0 l.digits;
  fits : l.value < 2 ^ 128;
}
