use Rattle.std.proofs.Common.{◌+◌, drop, ap, arith, length}
use Rattle.x64_syntax.proofs.Pieces.{turn}
use Rattle.gas_text.specs.Gas.{lines}
use Rattle.gas_text.proofs.Counting.{counted, one_line}
use Rattle.gas_text.proofs.text.line_count.Goals as goal
use Rattle.gas_text.proofs.text.line_count.Goals.{in-Entry, in_default}

pub loop-item-preserved : goal.loop-item-preserved
loop-item-preserved c =
    let items = c.args.items.now in
    let k = c.loop-item.item-index in
    let x = c.item-item.result in
    let split = turn items k x c.loop-item-test.true c.item-item.is in
    let more = counted x (drop (k + 1) items) (drop k items) split c.loop-item.invariant.are_items in
    let rest = c.loop-item.invariant.rest in
    let few = c.loop-item.invariant.few in
    let added = more.newlines in
    elim c.match-item.branch [
      | in-Entry w ↦ (let one = ap (λ i. length (lines i)) w.in-Entry.is in let count = w.count-is in record { rest = omega (arith, rest, added, one, count); are_items = more.are_items; few = omega (arith, few, count) })
      | in_default w ↦ (let one = one_line x w.in_default.not-Entry in let count = w.count-is in record { rest = omega (arith, rest, added, one, count); are_items = more.are_items; few = omega (arith, few, count) })
    ]
