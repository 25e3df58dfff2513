use Rattle.std.proofs.Common.{sym, subst, ap, ◌∙◌}
use Rattle.std.specs.Prelude.{Err}
use Rattle.std.proofs.lemmas.Result.{err_from_is_err_and}
use Rattle.x64_meaning.specs.Run.{does}
use Rattle.x64_meaning.specs.inner.Steps.{Foresees}
use Rattle.x64_meaning.proofs.Stepping.{step_open}
use Rattle.x64_meaning.proofs.Foreseeing.{foreseen_fault}
use Rattle.x64_meaning.proofs.step.foresee.Goals as goal

pub returns-in_err-are_defined : goal.returns-in_err-are_defined
returns-in_err-are_defined c =
    let s = c.args.m.now in
    let i = c.args.ins.now in
    let f = c.in_err-are_defined.field-0.0 in
    let p = err_from_is_err_and c.from_residual.result c.from_residual.ensures.1 in
    subst (λ r. Foresees (does i s) r) (sym (p.1 ∙ ap Err p.2)) (foreseen_fault (does i s) s f (step_open i s (c.forms_as_in_the_table.ensures.reads i) f (sym c.in_err-are_defined.ensures)))
