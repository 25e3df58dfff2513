use Rattle.std.proofs.Common.{subst}
use Rattle.x64_evaluator.specs.StateFile.{lines_of, IsNoState}
use Rattle.vale_driver.specs.Limits.{state_limit}
use Rattle.vale_driver.specs.Texts.{StateRefused, line_state}
use Rattle.vale_driver.proofs.Texts.{state_long, held}
use Rattle.vale_driver.proofs.eval.start.Goals as goal

pub returns-in_default-clause-stops : goal.returns-in_default-clause-stops
returns-in_default-clause-stops g c =
    state_long (g.S.Store.tells c.args.store.now c.args.file.now) c.args.file.now c.in_ok-refusal.refusal (g.S.Store.faults c.args.store.now) (g.S.Store.faults c.fetch.new.store) c.in_ok-bytes.field-0 c.in_default.not-Some c.in_ok-bytes.ensures.fetched c.in_ok-refusal.ensures

pub returns-in-Err-Line-clause-stops : goal.returns-in-Err-Line-clause-stops
returns-in-Err-Line-clause-stops g c =
    held (λ t. StateRefused c.args.file.now t c.in_ok-refusal-in-Err-Line.refusal) state_limit (g.S.Store.tells c.args.store.now c.args.file.now) (g.S.Store.faults c.args.store.now) (g.S.Store.faults c.fetch.new.store) c.in_ok-bytes.field-0 c.in-Some.bytes c.deref.result.now c.in-Some.is c.in_ok-bytes.ensures.fetched c.deref.ensures.value
    (λ short. line_state short c.in-Err-Line.line (subst (IsNoState (lines_of c.deref.result.now)) c.in-Err-Line.field-0-is c.in-Err-Line.ensures.err) c.in_ok-refusal-in-Err-Line.ensures)
