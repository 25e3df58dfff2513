use Rattle.std.proofs.Common.{◌∷◌, sym, ap, ◌∙◌, arith, drop}
use Rattle.x64_evaluator.specs.StateFile.{lines_of}
use Rattle.x64_evaluator.proofs.TextLines.{one_line, line_at}
use Rattle.x64_evaluator.proofs.state.first_line.Goals as goal

pub returns-in-Some-clause-lines : goal.returns-in-Some-clause-lines
returns-in-Some-clause-lines c =
    let found = c.in-Some.ensures in
    let front = c.split_at.ensures.front in
    let back = c.split_at-in-Some.ensures.back ∙ ap (drop 1) c.split_at.ensures.back in
    line_at c.args.text.now c.in-Some.end found.0.high (λ j lt e. found.0.before j (omega arith) lt e) found.1
    ∙ ap (λ l. l ∷ lines_of (drop 1 (drop c.in-Some.end c.args.text.now))) (sym front)
    ∙ ap (λ l. c.split_at.result.0.now ∷ lines_of l) (sym back)

pub returns-in-None-clause-lines : goal.returns-in-None-clause-lines
returns-in-None-clause-lines c = one_line c.args.text.now c.requires (λ k lt e. c.in-None.ensures k (omega arith) lt e)
