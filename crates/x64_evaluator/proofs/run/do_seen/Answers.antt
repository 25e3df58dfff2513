use Rattle.std.proofs.Common.{◌≡◌, sym, subst, ap, ◌∙◌, arith}
use Rattle.std.specs.Prelude.{Ok, Err}
use Rattle.std.proofs.lemmas.Result.{err_from_is_err_and}
use Rattle.x64_meaning.specs.Run.{does}
use Rattle.x64_meaning.specs.inner.Steps.{Steps}
use Rattle.x64_evaluator.specs.inner.Moves.{stands, done}
use Rattle.x64_evaluator.proofs.Doing.{once, fault, done_seen, done_kept}
use Rattle.x64_evaluator.proofs.run.do_seen.Goals as goal

pub returns-in_err-step_ins-clause-done : goal.returns-in_err-step_ins-clause-done
returns-in_err-step_ins-clause-done c =
    let s = c.args.m.now in
    let x = does c.args.ins.now s in
    let t = c.args.t.now in
    let p = err_from_is_err_and c.from_residual.result c.from_residual.ensures.1 in
    subst (λ r. stands r c.step_ins.new.m t.seen ≡ done t.room s t.seen x) (sym (p.1 ∙ ap Err p.2)) (fault x s c.step_ins.new.m c.step_ins.new.seen.last c.in_err-step_ins.field-0.0 t.room t.seen c.in_err-step_ins.ensures)

pub returns-in-Some-clause-done : goal.returns-in-Some-clause-done
returns-in-Some-clause-done c =
    let s = c.args.m.now in
    let i = c.args.ins.now in
    let t = c.args.t.now in
    let h = subst (λ l. Steps (does i s) s c.step_ins.new.m l (Ok tt)) c.in-Some.is c.in_ok-step_ins.ensures in
    done_seen (does i s) s c.step_ins.new.m c.see.result c.see.new.self.seen t.room t.seen c.in-Some.obs (once i s) h c.requires.room c.see.ensures.seen

pub returns-in-None-clause-done : goal.returns-in-None-clause-done
returns-in-None-clause-done c =
    let s = c.args.m.now in
    let i = c.args.ins.now in
    let t = c.args.t.now in
    let h = subst (λ l. Steps (does i s) s c.step_ins.new.m l (Ok tt)) c.in-None.is c.in_ok-step_ins.ensures in
    done_kept (does i s) s c.step_ins.new.m t.room t.seen (once i s) h (let lt = c.requires.room in omega (arith, lt))
