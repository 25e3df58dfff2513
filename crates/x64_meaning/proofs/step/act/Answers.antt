use Rattle.std.proofs.Common.{sym, subst, ap, ◌∙◌}
use Rattle.std.specs.Prelude.{Ok, Err}
use Rattle.std.proofs.lemmas.Result.{err_from_is_err_and}
use Rattle.x64_meaning.specs.Run.{access, with_access}
use Rattle.x64_meaning.specs.inner.Steps.{Acts}
use Rattle.x64_meaning.proofs.Stepping.{act_does, act_faults}
use Rattle.x64_meaning.proofs.step.act.Goals as goal

pub returns-in_err-word-in_default : goal.returns-in_err-word-in_default
returns-in_err-word-in_default c =
    let s = c.args.m.now in
    let i = c.args.ins.now in
    let p = err_from_is_err_and c.from_residual.result c.from_residual.ensures.1 in
    let same = p.1 ∙ ap Err p.2 in
    subst (λ r. Acts (with_access s i (access s i)) s s r) (sym same) (act_faults i s c.in_err-word-in_default.field-0.0 (sym c.in_err-word-in_default.ensures.value))

pub returns-in_ok-word-in_default : goal.returns-in_ok-word-in_default
returns-in_ok-word-in_default c =
    let s = c.args.m.now in
    let i = c.args.ins.now in
    let w = c.in_ok-word-in_default in
    subst (λ t. Acts (with_access s i (access s i)) s t (Ok w.seen)) (sym c.compute.ensures) (act_does i s w.word w.seen w.ensures.fits w.ensures.word (record { store = c.in_default.not-Store; low = c.in_default.not-Store4; wide = c.in_default.not-XStore; load = c.in_default.not-XLoad; push = c.in_default.not-Push }) (sym w.ensures.value))

pub returns-in-XStore : goal.returns-in-XStore
returns-in-XStore c =
    let s = c.args.m.now in
    subst (λ i. Acts (with_access s i (access s i)) s c.save_wide.new.m c.save_wide.result) (sym c.in-XStore.is) c.save_wide.ensures
