use Rattle.std.proofs.Common.{◌≡◌}
use Rattle.aes_words.specs.Polynomials.{product}
use Rattle.aes_words.proofs.products.clmul64.Given as goal

abbrev pub invariant-loop-i : goal.invariant-loop-i
invariant-loop-i l = l.product ≡ product l.i l.a l.b
