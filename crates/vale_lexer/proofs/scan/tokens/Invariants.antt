use Rattle.std.proofs.Common.{◌≡◌, ◌+◌, length}
use Rattle.vale_syntax.specs.Tokens.{tokens_from}
use Rattle.vale_lexer.specs.inner.Lexes.{in_front}
use Rattle.vale_lexer.proofs.scan.tokens.Given as goal

-- the tokens so far, in front of those of the rest, are those of the whole
abbrev pub invariant-loop-rest : goal.invariant-loop-rest
invariant-loop-rest l = record {
  whole : in_front l.tokens.items (tokens_from l.file 0 l.at l.rest) ≡ tokens_from l.file 0 0 l.bytes;
  total : l.at + length l.rest ≡ length l.bytes;
}

abbrev pub decreases-loop-rest : goal.decreases-loop-rest
decreases-loop-rest l = length l.rest
