use Rattle.std.proofs.Common.{sym, ap, length, refl}
use Rattle.std.proofs.lemmas.Bool.{ltb-false, ltb-true}
use Rattle.std.proofs.lemmas.Option.{slice_get_past, slice_get_read}
use Rattle.x64_syntax.specs.Programs.{is_item}
use Rattle.x64_meaning.specs.Run.{item_step, follow, Running}
use Rattle.x64_evaluator.specs.Evaluated.{way}
use Rattle.x64_evaluator.specs.inner.Moves.{step_stand}
use Rattle.x64_evaluator.proofs.Sides.{passes_at}
use Rattle.x64_evaluator.proofs.run.step.Goals as goal

pub pass-requires-clause-form : goal.pass-requires-clause-form
pass-requires-clause-form c =
    let found = c.in-Some.ensures.lookup in
    let here = slice_get_read c.args.items.now (length c.args.items.now) c.args.at c.in-Some.item.now refl (ltb-true _ _ (sym found.0)) found.1 in
    passes_at is_item c.args.items.now c.args.at c.in-Some.item.now here c.requires.forms

pub returns-in-None-clause-moved : goal.returns-in-None-clause-moved
returns-in-None-clause-moved c k =
    let w = way c.args.m.now c.args.t.now.seen k in
    let past = slice_get_past c.args.items.now c.args.at (ltb-false _ _ (sym c.in-None.ensures.lookup.0)) in
    sym (ap (λ o. step_stand c.args.t.now.room w (follow w (item_step c.args.items.now o c.args.at c.args.m.now) Running)) past)
