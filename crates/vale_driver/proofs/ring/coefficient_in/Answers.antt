use Rattle.std.proofs.Common.{◌<◌, ◌≤◌, length, rules}
use Rattle.term_core.specs.Value.{T}
use Rattle.vale_driver.proofs.RingCode.{sum_done}
use Rattle.vale_driver.proofs.ring.coefficient_in.Goals as goal

pub returns : goal.returns
returns c =
    let fits : c.loop-o.sum < T = search rules in
    let past : length c.args.all.now ≤ c.loop-o.o-index = search rules in
    sum_done _ c.loop-o.sum c.loop-o.o-index c.args.all.now fits past c.loop-o.invariant
