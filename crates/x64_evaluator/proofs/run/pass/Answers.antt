use Rattle.std.proofs.Common.{◌+◌, sym, ap, ◌∙◌, Some}
use Rattle.std.specs.Prelude.{Err}
use Rattle.std.proofs.lemmas.Result.{err_from_is_err_and}
use Rattle.x64_meaning.specs.Run.{does, item_step, follow, Running}
use Rattle.x64_evaluator.specs.Evaluated.{way}
use Rattle.x64_evaluator.specs.inner.Moves.{stands, step_stand}
use Rattle.x64_evaluator.proofs.Going.{going, instruction_moves}
use Rattle.x64_evaluator.proofs.run.pass.Goals as goal

pub returns-in_err-do_ins-in-Ins-clause-moved : goal.returns-in_err-do_ins-in-Ins-clause-moved
returns-in_err-do_ins-in-Ins-clause-moved c k =
    let s = c.args.m.now in
    let t = c.args.t.now in
    let p = err_from_is_err_and c.from_residual.result c.from_residual.ensures.1 in
    let here = c.requires.here ∙ ap Some c.in-Ins.is in
    ap (λ r. stands r c.do_ins.new.m c.do_ins.new.t.seen) (p.1 ∙ ap Err p.2)
    ∙ ap (going (c.args.at + 1)) c.in_err-do_ins-in-Ins.ensures.done
    ∙ instruction_moves (does c.in-Ins.ins s) t.room c.args.at k s t.seen
    ∙ sym (ap (λ o. step_stand t.room (way s t.seen k) (follow (way s t.seen k) (item_step c.args.items.now o c.args.at s) Running)) here)

pub returns-in_ok-do_ins-in-Ins-clause-moved : goal.returns-in_ok-do_ins-in-Ins-clause-moved
returns-in_ok-do_ins-in-Ins-clause-moved c k =
    let s = c.args.m.now in
    let t = c.args.t.now in
    let here = c.requires.here ∙ ap Some c.in-Ins.is in
    ap (going (c.args.at + 1)) c.in_ok-do_ins-in-Ins.ensures.done
    ∙ instruction_moves (does c.in-Ins.ins s) t.room c.args.at k s t.seen
    ∙ sym (ap (λ o. step_stand t.room (way s t.seen k) (follow (way s t.seen k) (item_step c.args.items.now o c.args.at s) Running)) here)
