use Rattle.std.proofs.Common.{refl, ap₂, ◌∙◌, ◌*◌, ◌^◌, ◌%◌, arith}
use Rattle.std.specs.Int.Bits.{bit_xor}
use Rattle.aes_words.specs.Polynomials.{product}
use Rattle.aes_words.proofs.HighestLast.{with_term, without_term}
use Rattle.aes_words.proofs.products.clmul64.Goals as goal
use Rattle.aes_words.proofs.products.clmul64.Goals.{then-a-i-eq1, else-a-i-eq1}

pub loop-i-init : goal.loop-i-init
unfolding product
loop-i-init c = refl

pub loop-i-preserved : goal.loop-i-preserved
loop-i-preserved c =
    elim c.if-a-i-eq1.branch [
      | then-a-i-eq1 w ↦
          w.product-is
          ∙ ap₂ (λ p x. bit_xor p ((x * 2 ^ c.loop-i.i) % 2 ^ 128)) c.loop-i.invariant w.from.ensures
          ∙ with_term c.args.a c.args.b c.loop-i.i (omega arith) c.ranges.b.fits w.if-a-i-eq1.true
      | else-a-i-eq1 w ↦
          w.product-is ∙ c.loop-i.invariant ∙ without_term c.args.a c.args.b c.loop-i.i (omega arith) c.ranges.b.fits w.if-a-i-eq1.false
    ]
