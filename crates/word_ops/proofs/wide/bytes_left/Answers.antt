use Rattle.std.proofs.Common.{◌∙◌, ap, sym, arith, ◌*◌, ◌%◌, ◌^◌}
use Rattle.word_ops.proofs.Shifts.{gone_left, bits_of_bytes}
use Rattle.word_ops.proofs.wide.bytes_left.Goals as goal

pub returns-then-n-lt16 : goal.returns-then-n-lt16
returns-then-n-lt16 c = ap (λ p. (c.args.a * p) % 2 ^ 128) (bits_of_bytes c.args.n)

pub returns-else-n-lt16 : goal.returns-else-n-lt16
returns-else-n-lt16 c =
    sym (gone_left c.args.a 128 (8 * c.args.n) (omega (arith, c.if-n-lt16.false))) ∙ ap (λ p. (c.args.a * p) % 2 ^ 128) (bits_of_bytes c.args.n)
