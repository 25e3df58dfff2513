use Rattle.std.proofs.Common.{Some, sym, subst, ◌∙◌, arith, codes}
use Rattle.std.specs.Str.{IsUtf8}
use Rattle.std.proofs.lemmas.Str.Pattern.{split_parts}
use Rattle.x64_evaluator.specs.inner.Setting.{IsValue, IsRange, range_seen}
use Rattle.x64_evaluator.proofs.Lines.{text_utf8, adds_block, sets_value}
use Rattle.x64_evaluator.proofs.Taken.{same_bytes, other_bytes}
use Rattle.x64_evaluator.proofs.state.StateReader.take.Goals as goal

pub returns-in_default : goal.returns-in_default
returns-in_default c ss h s is follow = c.in_default.ensures.cases.0 (subst IsUtf8 is (text_utf8 ss s follow))

pub value_of-requires-clause-word : goal.value_of-requires-clause-word
value_of-requires-clause-word c =
    let parts = split_parts 32 c.in-Ok.text.now (Some (c.in-Some.word, c.in-Some.rest)) c.in-Some.ensures.cases (omega arith) in
    parts.1

pub returns-in-Some-2 : goal.returns-in-Some-2
returns-in-Some-2 c ss h =
    let parts = split_parts 32 c.in-Ok.text.now (Some (c.in-Some.word, c.in-Some.rest)) c.in-Some.ensures.cases (omega arith) in
    let cut = sym c.in-Ok.ensures.cases.0 ∙ parts.0 in
    let is = subst (IsRange c.in-Some.rest.now) c.in-Some-2.is c.in_ok-base.ensures in
    let word = same_bytes c.in-Some.word.now (codes "block") c.if-eq.ensures in
    adds_block ss c.args.line.now c.in-Some.word.now c.in-Some.rest.now cut parts.1 c.add.result _ (range_seen (c.in-Some-2.base, c.in-Some-2.bytes)) word is.0 is.2 (c.add.ensures ss record { machine = h.machine; places = h.places })

pub returns-in-Some-3 : goal.returns-in-Some-3
returns-in-Some-3 c ss h =
    let parts = split_parts 32 c.in-Ok.text.now (Some (c.in-Some.word, c.in-Some.rest)) c.in-Some.ensures.cases (omega arith) in
    let line = c.in-Ok.ensures.cases.0 in
    let is = subst (IsValue c.in-Ok.text.now) c.in-Some-3.is c.in_ok-place.ensures in
    sets_value ss c.args.line.now c.in-Some.word.now c.in-Some.rest.now (sym line ∙ parts.0) parts.1 _ c.in-Some-3.place c.in-Some-3.n c.set.result (other_bytes c.in-Some.word.now (codes "block") c.if-eq.ensures) (is.0 ∙ line)
    (λ q m lt t. is.2 q m lt (t ∙ sym line)) (c.set.ensures ss record { machine = h.machine; places = h.places })
