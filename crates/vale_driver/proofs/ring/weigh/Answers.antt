use Rattle.std.proofs.Common.{◌≡◌, ◌<◌, ◌+◌, ◌++◌, arith, ap, ◌∙◌, get_or}
use Rattle.term_core.specs.Terms.{tree}
use Rattle.vale_driver.specs.Ring.{width_limit, width, times, difference}
use Rattle.vale_driver.specs.inner.RingCode.{occurrence_views}
use Rattle.vale_driver.proofs.RingCode.{weigh_none, weigh_more, weigh_wide}
use Rattle.vale_driver.proofs.ring.weigh.Goals as goal

pub returns-in_default : goal.returns-in_default
returns-in_default c = weigh_none _ _ _ _ _ c.loop-pair-test.true c.loop-pair.invariant.whole c.in_default.ensures

pub returns-then-width-gt-WIDTH_LIMIT : goal.returns-then-width-gt-WIDTH_LIMIT
returns-then-width-gt-WIDTH_LIMIT c =
    let wide : width_limit < c.loop-pair.width + (width (tree c.in-Some.left.now) + width (tree c.in-Some.right.now)) = omega arith in
    weigh_wide _ _ _ _ _ _ c.loop-pair-test.true c.loop-pair.invariant.whole c.in-Some.ensures wide

pub loop-pair-preserved : goal.loop-pair-preserved
loop-pair-preserved c =
    let more = weigh_more _ _ _ _ _ _ c.loop-pair-test.true c.loop-pair.invariant.whole c.in-Some.ensures in
    let factor = (get_or c.args.pairs.now c.loop-pair.pair-index (0, 0)).1 in
    let before = occurrence_views c.loop-pair.all.items in
    let pushed : occurrence_views c.push_times.new.into.items ≡ before ++ times factor (difference (tree c.in-Some.left.now) (tree c.in-Some.right.now)) =
    c.in_ok-push_times.ensures ∙ ap (λ xs. before ++ times factor (occurrence_views xs)) c.deref.ensures.value ∙ ap (λ os. before ++ times factor os) c.in_ok-more.ensures in
    let sum : c.saturating_add-width.result ≡ c.loop-pair.width + (width (tree c.in-Some.left.now) + width (tree c.in-Some.right.now)) = omega arith in
    record { whole = rw (pushed, sum) more; narrow = omega arith }
