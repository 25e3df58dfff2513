use Rattle.std.proofs.Common.{ap, sym, ◌∙◌, arith}
use Rattle.std.proofs.lemmas.Result.{err_from_is_err_and}
use Rattle.vale_driver.specs.Ring.{ring_closes}
use Rattle.vale_driver.specs.Build.{condition_hyps, condition_goal}
use Rattle.vale_driver.specs.Words.{texts}
use Rattle.vale_driver.proofs.Files.{stops_also}
use Rattle.vale_driver.proofs.Refused.{sources_refused, certificate_refused, step_refused}
use Rattle.vale_driver.proofs.Built.{all_have_conditions, built_from}
use Rattle.vale_driver.proofs.build.build.Goals as goal

pub returns-in_err-program-clause-stops : goal.returns-in_err-program-clause-stops
returns-in_err-program-clause-stops g c =
    let p = err_from_is_err_and c.from_residual.result c.from_residual.ensures.1 in
    rw (p.1, p.2) (stops_also _ _ _ _ c.in_err-program.field-0.0 (sources_refused (g.S.Store.tells c.args.store.now) c.args.words.cert.now (texts c.args.words.files.now)) (λ f. f) c.in_err-program.ensures.stops)

pub returns-in_err-steps-clause-stops : goal.returns-in_err-steps-clause-stops
returns-in_err-steps-clause-stops g c =
    let p = err_from_is_err_and c.from_residual-in_err-steps.result c.from_residual-in_err-steps.ensures.1 in
    let stops = rw c.as_bytes.ensures at c.in_err-steps.ensures.stops in
    let count = c.in_ok-program.ensures.count in
    rw (p.1, p.2) (stops_also _ _ _ _ c.in_err-steps.field-0.0 (λ r k. certificate_refused (g.S.Store.tells c.args.store.now) _ c.args.words.cert.now (texts c.args.words.files.now) c.in_ok-program.program r c.in_ok-program.ensures.found (c.in_ok-program.ensures.same_files c.args.words.cert.now) k) (λ f. omega (arith, f, count)) stops)

pub check-requires-clause-built : goal.check-requires-clause-built
check-requires-clause-built g c =
    let p = c.in_ok-program.program in
    all_have_conditions p.registers p.instructions c.in_ok-program.ensures.fits.each

pub returns-in_err-check-clause-stops : goal.returns-in_err-check-clause-stops
returns-in_err-check-clause-stops g c =
    let p = err_from_is_err_and c.from_residual-in_err-check.result c.from_residual-in_err-check.ensures.1 in
    let proves = rw c.as_bytes.ensures at c.in_ok-steps.ensures.found in
    let same = ap (ring_closes (condition_hyps c.in_ok-program.program) (condition_goal c.in_ok-program.program)) (sym c.deref.ensures.value) in
    rw (p.1, p.2) (stops_also _ _ _ _ c.in_err-check.field-0.0 (λ r k. step_refused (g.S.Store.tells c.args.store.now) _ c.args.words.cert.now (texts c.args.words.files.now) c.in_ok-program.program c.in_ok-steps.steps.items r c.in_ok-program.ensures.found (c.in_ok-program.ensures.same_files c.args.words.cert.now) proves (same ∙ k.not_closed) k.is) (λ f. absurd f) c.in_err-check.ensures.stops)

pub returns-clause-built : goal.returns-clause-built
returns-clause-built g c =
    let proves = rw c.as_bytes.ensures at c.in_ok-steps.ensures.found in
    let closes = ap (ring_closes (condition_hyps c.in_ok-program.program) (condition_goal c.in_ok-program.program)) (sym c.deref.ensures.value) ∙ c.in_ok-check.ensures.closed in
    built_from (g.S.Store.tells c.args.store.now) _ c.args.words.cert.now (texts c.args.words.files.now) c.in_ok-program.program c.in_ok-steps.steps.items _ c.in_ok-program.ensures.fits c.in_ok-program.ensures.found (c.in_ok-program.ensures.same_files c.args.words.cert.now) proves closes c.in_ok-text_of.ensures
