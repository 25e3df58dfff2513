use Rattle.std.proofs.Common.{arith}
use Rattle.aes_words.specs.Rounds.{of_digits, mixed}
use Rattle.aes_words.proofs.Cells.{by_bytes}
use Rattle.aes_words.proofs.rounds.mix_columns.Goals as goal

pub returns : goal.returns
returns c =
    by_bytes c.loop-k.columns (mixed (of_digits 256 c.args.state.now)) c.loop-k.invariant.0 (λ k h. c.loop-k.invariant.1 k (omega arith))
