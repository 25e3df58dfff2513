use Rattle.std.proofs.Common.{subst}
use Rattle.gas_text.specs.Text.{Refused}
use Rattle.vale_driver.specs.Limits.{text_limit}
use Rattle.vale_driver.specs.Texts.{TextRefused, line_text, label_text}
use Rattle.vale_driver.proofs.Texts.{text_long, held}
use Rattle.vale_driver.proofs.read.read_text.Goals as goal

pub returns-in_default-clause-stops : goal.returns-in_default-clause-stops
returns-in_default-clause-stops g c =
    text_long (g.S.Store.tells c.args.store.now c.args.file.now) c.args.file.now c.in_ok-refusal.refusal (g.S.Store.faults c.args.store.now) (g.S.Store.faults c.fetch.new.store) c.in_ok-text.field-0 c.in_default.not-Some c.in_ok-text.ensures.fetched c.in_ok-refusal.ensures

pub returns-in-Err-Line-clause-stops : goal.returns-in-Err-Line-clause-stops
returns-in-Err-Line-clause-stops g c =
    held (λ t. TextRefused c.args.file.now t c.in_ok-refusal-in-Err-Line.refusal) text_limit (g.S.Store.tells c.args.store.now c.args.file.now) (g.S.Store.faults c.args.store.now) (g.S.Store.faults c.fetch.new.store) c.in_ok-text.field-0 c.in-Some.text c.deref.result.now c.in-Some.is c.in_ok-text.ensures.fetched c.deref.ensures.value
    (λ short. line_text short c.in-Err-Line.line (subst (Refused c.deref.result.now) c.in-Err-Line.field-0-is c.in-Err-Line.ensures.err) c.in_ok-refusal-in-Err-Line.ensures)

pub returns-in-Err-Label-clause-stops : goal.returns-in-Err-Label-clause-stops
returns-in-Err-Label-clause-stops g c =
    held (λ t. TextRefused c.args.file.now t c.in_ok-refusal-in-Err-Label.refusal) text_limit (g.S.Store.tells c.args.store.now c.args.file.now) (g.S.Store.faults c.args.store.now) (g.S.Store.faults c.fetch.new.store) c.in_ok-text.field-0 c.in-Some.text c.deref.result.now c.in-Some.is c.in_ok-text.ensures.fetched c.deref.ensures.value
    (λ short. label_text short c.in-Err-Label.line (subst (Refused c.deref.result.now) c.in-Err-Label.field-0-is c.in-Err-Label.ensures.err) c.in_ok-refusal-in-Err-Label.ensures)
