use Rattle.std.proofs.Common.{◌≡◌, ◌+◌, drop, option_map}
use Rattle.vale_syntax.specs.Tokens.{close_len}
use Rattle.vale_lexer.proofs.front.close_len.Given as goal

abbrev pub invariant-loop-i : goal.invariant-loop-i
invariant-loop-i l = close_len l.bytes ≡ option_map (λ n. n + l.i) (close_len (drop l.i l.bytes))
