use Rattle.std.proofs.Common.{◌≡◌, List, length, Option, Some, None, refl, sym, subst, ap, ◌∙◌, is_some, true, false}
use Rattle.std.specs.Prelude.{Ok, Err}
use Rattle.std.proofs.lemmas.Result.{err_from_is_err_and}
use Rattle.x64_syntax.specs.declared.instructions.Ins.{Ins}
use Rattle.x64_meaning.specs.declared.machine.Obs.{Obs}
use Rattle.x64_meaning.specs.State.{State}
use Rattle.x64_evaluator.specs.declared.end.End.TheVariants.{TraceFull}
use Rattle.x64_meaning.specs.Run.{does}
use Rattle.x64_meaning.specs.inner.Steps.{Foresees}
use Rattle.x64_evaluator.specs.inner.Moves.{stands, done}
use Rattle.x64_evaluator.proofs.Doing.{once, fault, fault_foreseen, not_seen, full}
use Rattle.x64_evaluator.proofs.run.do_unseen.Goals as goal

none_is : (o : Option Obs) → is_some o ≡ false → o ≡ None
none_is None h = refl
none_is (Some x) h = absurd cc

no_room : (o : Option Obs) (i : Ins) (s : State) (seen : List Obs) → Foresees (does i s) (Ok o) → is_some o ≡ true → stands (Err TraceFull) s seen ≡ done (length seen) s seen (does i s)
no_room None i s seen f h = absurd cc
no_room (Some o) i s seen f h = full (does i s) s o seen (once i s) f

pub returns-in_err-foresee : goal.returns-in_err-foresee
returns-in_err-foresee c seen =
    let s = c.args.m.now in
    let i = c.args.ins.now in
    let p = err_from_is_err_and c.from_residual.result c.from_residual.ensures.1 in
    subst (λ r. stands r s seen ≡ done (length seen) s seen (does i s)) (sym (p.1 ∙ ap Err p.2)) (fault_foreseen (does i s) s c.in_err-foresee.field-0.0 (length seen) seen c.in_err-foresee.ensures)

pub returns-then-is_some : goal.returns-then-is_some
returns-then-is_some c seen = no_room c.in_ok-foresee.field-0 c.args.ins.now c.args.m.now seen c.in_ok-foresee.ensures (sym c.if-is_some.ensures)

pub returns-in_err-step_ins : goal.returns-in_err-step_ins
returns-in_err-step_ins c seen =
    let s = c.args.m.now in
    let i = c.args.ins.now in
    let p = err_from_is_err_and c.from_residual-in_err-step_ins.result c.from_residual-in_err-step_ins.ensures.1 in
    subst (λ r. stands r c.step_ins.new.m seen ≡ done (length seen) s seen (does i s)) (sym (p.1 ∙ ap Err p.2)) (fault (does i s) s c.step_ins.new.m c.step_ins.new.seen.last c.in_err-step_ins.field-0.0 (length seen) seen c.in_err-step_ins.ensures)

pub returns : goal.returns
returns c seen =
    let s = c.args.m.now in
    let i = c.args.ins.now in
    let f = subst (λ o. Foresees (does i s) (Ok o)) (none_is c.in_ok-foresee.field-0 (sym c.if-is_some.ensures)) c.in_ok-foresee.ensures in
    not_seen (does i s) s c.step_ins.new.m c.step_ins.new.seen.last seen (once i s) f c.in_ok-step_ins.ensures
