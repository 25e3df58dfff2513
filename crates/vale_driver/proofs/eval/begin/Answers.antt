use Rattle.std.proofs.Common.{sym, ap, ◌∙◌}
use Rattle.std.proofs.lemmas.Result.{err_from_is_err_and}
use Rattle.vale_driver.specs.Texts.{is_named, by_text, nowhere}
use Rattle.std.specs.Prelude.{position}
use Rattle.vale_driver.proofs.Files.{stops_also}
use Rattle.vale_driver.proofs.Texts.{holds_also}
use Rattle.vale_driver.proofs.eval.begin.Goals as goal

pub returns-in_err-items-clause-stops : goal.returns-in_err-items-clause-stops
returns-in_err-items-clause-stops g c =
    let p = err_from_is_err_and c.from_residual.result c.from_residual.ensures.1 in
    rw (p.1, p.2) (stops_also _ _ _ _ c.in_err-items.field-0.0 (λ r h. holds_also (λ t x. by_text x) h) (λ f. f) c.in_err-items.ensures.stops)

pub returns-in-Some-clause-begun : goal.returns-in-Some-clause-begun
returns-in-Some-clause-begun g c =
    let items = c.in_ok-items.items.items in
    let found = ap (λ n. position (is_named n) items) (sym c.as_bytes.ensures.value) ∙ ap (position (is_named c.as_bytes.result.now)) (sym c.deref.ensures.value) ∙ sym c.in-Some.ensures in
    holds_also (λ t x. record { read = x; found = found }) c.in_ok-items.ensures.found

pub returns-in_ok-refusal-in-None-clause-stops : goal.returns-in_ok-refusal-in-None-clause-stops
returns-in_ok-refusal-in-None-clause-stops g c =
    let items = c.in_ok-items.items.items in
    let found = ap (λ n. position (is_named n) items) (sym c.as_bytes.ensures.value) ∙ ap (position (is_named c.as_bytes.result.now)) (sym c.deref.ensures.value) ∙ sym c.in-None.ensures in
    holds_also (λ t x. nowhere items (record { read = x; found = found }) c.in_ok-refusal-in-None.ensures) c.in_ok-items.ensures.found
