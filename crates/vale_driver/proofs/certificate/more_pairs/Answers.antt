use Rattle.std.proofs.Common.{◌<◌, ◌≤◌, arith, length}
use Rattle.vale_driver.proofs.Steps.{pairs_end, pairs_limit, pairs_broken, pairs_more}
use Rattle.vale_driver.proofs.certificate.more_pairs.Goals as goal

pub returns-in_default : goal.returns-in_default
returns-in_default c = pairs_end _ _ _ _ c.loop.invariant c.in_default.ensures

pub returns-in_default-pair : goal.returns-in_default-pair
returns-in_default-pair c =
    let more : c.loop.counter < length c.args.bytes.now = omega arith in
    pairs_broken _ _ _ _ _ c.in-Some.behind.now more c.loop.invariant c.in-Some.ensures c.in_default-pair.ensures

pub loop-preserved : goal.loop-preserved
loop-preserved c =
    let more : c.loop.counter < length c.args.bytes.now = omega arith in
    rw c.in_ok-push.ensures.items (pairs_more _ _ _ _ _ c.in-Some.behind.now c.in-Some-pair.next c.in-Some-pair.behind.now more c.loop.invariant c.in-Some.ensures c.in-Some-pair.ensures)

pub returns : goal.returns
returns c =
    let past : length c.args.bytes.now ≤ c.loop.counter = omega arith in
    pairs_limit _ _ _ _ _ past c.loop.invariant
