use Rattle.std.proofs.Common.{ap, ◌∙◌, arith}
use Rattle.std.proofs.lemmas.Result.{err_from_is_err_and}
use Rattle.x64_evaluator.specs.Evaluated.{is_entry_at, evaluation, way}
use Rattle.x64_evaluator.specs.Report.{report_text}
use Rattle.vale_driver.specs.inner.Phases.{eval_of}
use Rattle.vale_driver.proofs.Files.{stops_also}
use Rattle.vale_driver.proofs.Texts.{refused_before, refused_behind, reported, entry_there}
use Rattle.vale_driver.proofs.eval.eval_report.Goals as goal

pub returns-in_err-items-clause-stops : goal.returns-in_err-items-clause-stops
returns-in_err-items-clause-stops g c =
    let p = err_from_is_err_and c.from_residual.result c.from_residual.ensures.1 in
    rw (p.1, p.2) (stops_also _ _ _ _ c.in_err-items.field-0.0 (refused_before (g.S.Store.tells c.args.store.now) (eval_of c.args.words)) (λ f. f) c.in_err-items.ensures.stops)

pub returns-in_err-machine-clause-stops : goal.returns-in_err-machine-clause-stops
returns-in_err-machine-clause-stops g c =
    let p = err_from_is_err_and c.from_residual-in_err-machine.result c.from_residual-in_err-machine.ensures.1 in
    let count = c.in_ok-items.ensures.count in
    rw (p.1, p.2) (stops_also _ _ _ _ c.in_err-machine.field-0.0 (λ r k. refused_behind (g.S.Store.tells c.args.store.now) (eval_of c.args.words) _ c.in_ok-items.items.items c.in_ok-items.entry r (c.in_ok-items.ensures.same_files c.args.words.state.now) c.in_ok-items.ensures.begun k) (λ f. omega (arith, f, count)) c.in_err-machine.ensures.stops)

pub run_items-run-requires-clause-entry : goal.run_items-run-requires-clause-entry
run_items-run-requires-clause-entry g c =
    ap (λ l. is_entry_at l c.in_ok-items.entry) c.deref.ensures.value
    ∙ entry_there c.args.words.entry.now c.in_ok-items.items.items c.in_ok-items.entry c.in_ok-items.ensures.begun.reads.found

pub returns-clause-reported : goal.returns-clause-reported
returns-clause-reported g c =
    let items = c.in_ok-items.items.items in
    let at = c.in_ok-items.entry in
    let n = c.args.words.steps in
    let start = c.in_ok-machine.machine in
    let run = c.run_items-run.ensures.ended ∙ ap (λ l. evaluation l c.in_ok-trace.trace.room n at (way start c.in_ok-trace.trace.seen 0)) c.deref.ensures.value ∙ ap (λ t. evaluation items t.room n at (way start t.seen 0)) c.in_ok-trace.ensures in
    let is = c.in_ok-report_of.ensures ∙ ap report_text run in
    reported (g.S.Store.tells c.args.store.now) (eval_of c.args.words) _ c.in_ok-items.items.items c.in_ok-items.entry c.in_ok-machine.machine c.in_ok-report_of.field-0.items (c.in_ok-items.ensures.same_files c.args.words.state.now) c.in_ok-items.ensures.begun c.in_ok-machine.ensures.found is
