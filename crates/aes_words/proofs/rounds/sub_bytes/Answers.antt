use Rattle.std.proofs.Common.{◌+◌, ◌*◌, ◌/◌, ◌%◌, get_or, sym, ap, ◌∙◌, arith}
use Rattle.aes_words.specs.Rounds.{of_digits, cell, sub}
use Rattle.aes_words.proofs.Cells.{digit, by_bytes}
use Rattle.aes_words.proofs.rounds.sub_bytes.Goals as goal

pub returns : goal.returns
returns c =
    let s = c.args.state.now in
    by_bytes c.loop-k.replaced (λ r d. sub (cell (of_digits 256 s) r d)) c.loop-k.invariant.0
    (λ k h.
    c.loop-k.invariant.1 k (omega arith)
    ∙ ap sub (ap (λ i. get_or s i 0) (omega arith) ∙ sym (digit s c.fits-state (k % 4 + 4 * (k / 4)))))
