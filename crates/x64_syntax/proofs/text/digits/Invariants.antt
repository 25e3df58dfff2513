use Rattle.std.proofs.Common.{◌≡◌, drop}
use Rattle.x64_syntax.specs.inner.Digits.{digits_from}
use Rattle.x64_syntax.proofs.text.digits.Given as goal

-- the digits that are left follow those that were read
abbrev pub invariant-loop-byte : goal.invariant-loop-byte
invariant-loop-byte l = digits_from l.value (drop l.byte-index l.text) ≡ digits_from 0 l.text
