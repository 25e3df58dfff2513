use Rattle.std.proofs.Common.{◌∙◌, sym, ap, arith, drop, take, Some}
use Rattle.gas_text.proofs.Cuts.{cut_nowhere, cut_first}
use Rattle.gas_text.proofs.apart.sides_of.Goals as goal

pub returns-in_err-place : goal.returns-in_err-place
returns-in_err-place c = rw c.from_residual.ensures (sym (cut_nowhere c.args.at c.args.text.now (λ k lt e. c.in_err-place.ensures k (omega arith) lt e)))

pub returns : goal.returns
returns c =
    let found = c.in_ok-place.ensures in
    let front = c.split_at.ensures.front in
    let back = c.split_at-2.ensures.back ∙ ap (drop 1) c.split_at.ensures.back in
    ap (λ f. Some (f, c.split_at-2.result.1.now)) front ∙ ap (λ b. Some (take c.in_ok-place.place c.args.text.now, b)) back
    ∙ sym (cut_first c.args.at c.args.text.now c.in_ok-place.place found.0.high (λ j lt e. found.0.before j (omega arith) lt e) found.1)
