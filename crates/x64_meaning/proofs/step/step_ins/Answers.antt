use Rattle.std.proofs.Common.{sym, subst, ap, ◌∙◌, None}
use Rattle.std.specs.Prelude.{Err}
use Rattle.std.proofs.lemmas.Result.{err_from_is_err_and}
use Rattle.x64_meaning.specs.Run.{access, with_access, does}
use Rattle.x64_meaning.specs.inner.Steps.{Acts, Steps}
use Rattle.x64_meaning.proofs.Stepping.{step_open, step_done, step_fault}
use Rattle.x64_meaning.proofs.step.step_ins.Goals as goal

pub returns-in_err-are_defined : goal.returns-in_err-are_defined
returns-in_err-are_defined c =
    let s = c.args.m.now in
    let i = c.args.ins.now in
    let p = err_from_is_err_and c.from_residual.result c.from_residual.ensures.1 in
    subst (λ r. Steps (does i s) s s None r) (sym (p.1 ∙ ap Err p.2)) (step_open i s (c.forms_as_in_the_table.ensures.reads i) c.in_err-are_defined.field-0.0 (sym c.in_err-are_defined.ensures))

pub returns-in_err-seen : goal.returns-in_err-seen
returns-in_err-seen c =
    let s = c.args.m.now in
    let i = c.args.ins.now in
    let p = err_from_is_err_and c.from_residual-in_err-seen.result c.from_residual-in_err-seen.ensures.1 in
    let acts = subst (λ r. Acts (with_access s i (access s i)) s c.act.new.m r) c.in_err-seen.was c.act.ensures in
    subst (λ r. Steps (does i s) s c.act.new.m None r) (sym (p.1 ∙ ap Err p.2)) (step_fault i s (c.forms_as_in_the_table.ensures.reads i) c.act.new.m c.in_err-seen.field-0.0 (sym c.in_ok-are_defined.ensures) acts)

pub returns : goal.returns
returns c =
    let s = c.args.m.now in
    let i = c.args.ins.now in
    let acts = subst (λ r. Acts (with_access s i (access s i)) s c.act.new.m r) c.in_ok-seen.was c.act.ensures in
    step_done i s (c.forms_as_in_the_table.ensures.reads i) c.act.new.m c.in_ok-seen.field-0 (sym c.in_ok-are_defined.ensures) acts
