use Rattle.std.proofs.Common.{◌≡◌, drop, map}
use Rattle.vale_syntax.specs.Tokens.{mark_at}
use Rattle.vale_lexer.proofs.front.mark.Given as goal

abbrev pub invariant-loop-text : goal.invariant-loop-text
invariant-loop-text l = mark_at (map (λ m. (m.0.now, m.1)) (drop l.text-index l.marks)) l.bytes ≡ mark_at (map (λ m. (m.0.now, m.1)) l.marks) l.bytes
