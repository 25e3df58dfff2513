use Rattle.std.proofs.Common.{sym, ap, option_map}
use Rattle.vale_driver.specs.inner.Phases.{options_of}
use Rattle.vale_driver.specs.Words.{texts}
use Rattle.vale_driver.proofs.Options.{no_steps}
use Rattle.vale_driver.proofs.words.eval_words.Goals as goal

pub returns-in_err-steps : goal.returns-in_err-steps
returns-in_err-steps c =
    let o = options_of c.args.options in
    let none = no_steps o (texts c.args.files.now) c.in_ok-text.text.now c.in_ok-entry.entry.now c.in_ok-state.state.now c.in_ok-options.field-0.now
    (sym c.if-not-is_eval.ensures) (sym c.in_ok-text.ensures) (ap (option_map (λ v. v.now)) c.in_ok-entry.was) (ap (option_map (λ v. v.now)) c.in_ok-state.was) (ap (option_map (λ v. v.now)) c.in_ok-options.was) (sym c.in_err-steps.ensures) in
    rw c.from_residual-in_err-steps.ensures (record { form = sym none; few = tt })
