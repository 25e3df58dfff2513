use Rattle.std.proofs.Common.{ap, ◌∙◌, rules}
use Rattle.std.specs.Int.Bits.{bit_xor}
use Rattle.aes_words.specs.Rounds.{of_digits, shift_rows, sub_bytes}
use Rattle.aes_words.proofs.Cells.{to_bytes, from_bytes}
use Rattle.aes_words.proofs.rounds.aes_last.Goals as goal

pub returns : goal.returns
returns c =
    ap (λ x. bit_xor x c.args.k)
    (c.from_le_bytes.ensures
    ∙ from_bytes c.sub_bytes-replaced.result (search rules)
    ∙ c.sub_bytes-replaced.ensures
    ∙ ap sub_bytes (c.shift_rows.ensures ∙ ap shift_rows (ap (of_digits 256) c.to_le_bytes.ensures ∙ to_bytes c.args.a c.ranges.a.fits)))
