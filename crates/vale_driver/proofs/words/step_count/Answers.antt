use Rattle.std.proofs.Common.{sym, ap, ◌∙◌}
use Rattle.vale_driver.specs.Words.{is_number}
use Rattle.vale_driver.proofs.Numbers.{steps_refused}
use Rattle.vale_driver.proofs.words.step_count.Goals as goal

pub returns-in_err-steps : goal.returns-in_err-steps
returns-in_err-steps c =
    let number = ap is_number (sym c.as_bytes.ensures.value) ∙ sym c.if-not-is_number.ensures in
    c.from_residual.ensures ∙ sym (steps_refused c.args.word.now c.parse.result number c.parse.ensures.value.0 (sym c.ok.ensures.value ∙ c.in_err-steps.was))
