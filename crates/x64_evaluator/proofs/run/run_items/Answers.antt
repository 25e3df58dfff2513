use Rattle.std.proofs.Common.{◌≡◌, suc, ◌+◌, ◌-◌, sym, ap, ◌∙◌, subst, arith}
use Rattle.std.specs.Prelude.{Ok, Err}
use Rattle.x64_meaning.specs.Run.{run}
use Rattle.x64_evaluator.specs.declared.end.End.TheVariants.{Paused}
use Rattle.x64_evaluator.specs.Evaluated.{halt_at, evaluation, way}
use Rattle.x64_evaluator.specs.inner.Moves.{stands, step_stand}
use Rattle.x64_evaluator.proofs.Going.{goes_on, ends}
use Rattle.x64_evaluator.proofs.run.run_items.Goals as goal

pub returns-in-Err : goal.returns-in-Err
returns-in-Err c =
    let items = c.args.items.now in
    let l = c.loop-made in
    let room = c.args.t.now.room in
    let w = way l.m l.t.seen l.made in
    let new = c.step.new in
    let h = subst (λ r. stands (Err c.in-Err.end) new.m new.t.seen ≡ step_stand r w (run items 1 l.at w)) l.invariant.0 (c.in-Err.ensures.moved l.made) in
    let m = c.args.steps - (l.made + 1) in
    let all : l.made + suc m ≡ c.args.steps = let lt = c.loop-made-test.true in omega (arith, lt) in
    let last = ends items room l.at l.made l.m l.t.seen (evaluation items room m) c.in-Err.end new.m new.t.seen h in
    record {
      ended = ap (λ x. halt_at x.end (way new.m new.t.seen x.steps)) c.after.ensures ∙ sym (l.invariant.1 (suc m) all ∙ last);
      room = c.in-Err.ensures.room ∙ l.invariant.0;
    }

pub loop-made-preserved : goal.loop-made-preserved
loop-made-preserved c =
    let items = c.args.items.now in
    let l = c.loop-made in
    let room = c.args.t.now.room in
    let w = way l.m l.t.seen l.made in
    let new = c.step.new in
    let h = subst (λ r. stands (Ok c.in-Ok.next) new.m new.t.seen ≡ step_stand r w (run items 1 l.at w)) l.invariant.0 (c.in-Ok.ensures.moved l.made) in
    (c.in-Ok.ensures.room ∙ l.invariant.0, λ n all. l.invariant.1 (suc n) (omega (arith, all)) ∙ goes_on items room l.at l.made l.m l.t.seen (evaluation items room n) c.in-Ok.next new.m new.t.seen h)

pub returns-clause-ended : goal.returns-clause-ended
returns-clause-ended c =
    let l = c.loop-made in
    let le = l.auto.made-end in
    let ge = c.loop-made-test.false in
    let same : l.made ≡ c.args.steps = omega (arith, le, ge) in
    let none : l.made + 0 ≡ c.args.steps = omega (arith, same) in
    sym (l.invariant.1 0 none ∙ ap (λ n. halt_at Paused (way l.m l.t.seen n)) same)
