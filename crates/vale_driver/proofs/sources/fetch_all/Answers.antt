use Rattle.std.proofs.Common.{◌+◌, ◌∷◌, sym, ap, ◌∙◌, subst, drop}
use Rattle.std.specs.Prelude.{IsTrue, IfSome, length, string_bytes, ◌<◌}
use Rattle.vale_driver.specs.Words.{texts}
use Rattle.vale_driver.specs.Limits.{source_limit}
use Rattle.vale_driver.specs.Causes.{refusal_of}
use Rattle.vale_driver.proofs.Files.{turn, at_turn, fetched_none, refused_long, opened_all}
use Rattle.vale_driver.proofs.RingCode.{drop_all}
use Rattle.vale_driver.proofs.sources.fetch_all.Goals as goal
use Rattle.vale_driver.specs.Causes as cause

pub fetch-requires : goal.fetch-requires
fetch-requires g c =
    let store = c.args.store.now in
    let asked = at_turn string_bytes (λ n. IsTrue (g.S.Store.may_ask store n)) c.args.files.now c.loop-number.number c.index-files-number.result c.requires.askable c.loop-number-test.true c.index-files-number.is in
    subst IsTrue (sym (c.loop-number.invariant.same_names c.deref.result.now)) (subst (λ n. IsTrue (g.S.Store.may_ask store n)) (sym c.deref.ensures) asked)

pub returns-in_default-clause-stops : goal.returns-in_default-clause-stops
returns-in_default-clause-stops g c =
    let files = c.args.files.now in
    let k = c.loop-number.number in
    let long = fetched_none _ source_limit (g.S.Store.faults c.loop-number.store) (g.S.Store.faults c.fetch.new.store) _ c.in_default.not-Some c.in_ok-bytes.ensures.fetched in
    let told = subst (λ o. IfSome o (λ held. source_limit < length held)) (c.loop-number.invariant.same_files c.deref.result.now) long in
    refused_long (g.S.Store.tells c.args.store.now) c.loop-number.sources.items k (texts (drop (k + 1) files)) (texts (drop k files)) (texts files) c.deref.result.now c.in_ok-refusal.refusal
    (ap texts (turn files k c.index-files-number.result c.loop-number-test.true c.index-files-number.is) ∙ ap (λ n. n ∷ texts (drop (k + 1) files)) (sym c.deref.ensures)) told (c.in_ok-refusal.ensures ∙ ap (λ n. refusal_of (cause.TooLong n)) (c.deref-in_default.ensures ∙ sym c.deref.ensures)) c.loop-number.invariant.going

pub returns-clause-opened : goal.returns-clause-opened
returns-clause-opened g c = opened_all _ _ c.loop-number.number (texts (drop c.loop-number.number c.args.files.now)) _ (ap texts (drop_all c.loop-number.number c.args.files.now c.loop-number-test.false)) c.loop-number.invariant.going
