use Rattle.std.proofs.Common.{◌+◌, drop, ap, ◌∙◌, arith, inl, inr}
use Rattle.x64_syntax.specs.Programs.{piece}
use Rattle.x64_syntax.specs.inner.LabelCount.{label_count}
use Rattle.x64_syntax.proofs.Pieces.{turn, at_first, at_entry, entry_fits, at_other, at_jump, at_stray}
use Rattle.x64_syntax.proofs.program.stray_jump.Goals as goal
use Rattle.x64_syntax.proofs.program.stray_jump.Goals.{in-Entry, in-Ins, in-Ins-2, in-Ins-3, in-Jmp+else-from-low+else-high-from, then-from-low-via-then-from-low, then-from-low-via-else-from-low+then-high-from}

pub loop-k-init : goal.loop-k-init
loop-k-init c = at_first c.args.items.now c.labels_in_piece-high.result c.requires c.labels_in_piece-high.ensures.count

pub overflow_add-high : goal.overflow_add-high
overflow_add-high c =
    let items = c.args.items.now in
    let k = c.loop-k.k in
    let fits = entry_fits k c.loop-k.low c.loop-k.high c.index-items-k.result (drop k items) (drop (k + 1) items) items (turn items k c.index-items-k.result c.loop-k-test.true c.index-items-k.is) c.loop-k.invariant c.in-Entry.field-0 c.in-Entry.is in
    let count = c.labels_in_piece-high-in-Entry.ensures.count ∙ ap (λ l. label_count (piece l)) c.split_at.ensures.back in
    omega (arith, fits, count)

pub returns-then-from-low : goal.returns-then-from-low
returns-then-from-low c =
    let items = c.args.items.now in
    let k = c.loop-k.k in
    let stray = at_stray k c.loop-k.low c.loop-k.high c.index-items-k.result (drop k items) (drop (k + 1) items) items (turn items k c.index-items-k.result c.loop-k-test.true c.index-items-k.is) c.loop-k.invariant c.in-Jmp.label in
    elim c.then-from-low.branch [
      | then-from-low-via-then-from-low w ↦ stray (inl (rw c.from.ensures at w.if-from-low.true)) c.in-Jmp.is
      | then-from-low-via-else-from-low+then-high-from w ↦ stray (inr (rw w.from-else-from-low.ensures at w.if-high-from.true)) c.in-Jmp.is
    ]

pub loop-k-preserved : goal.loop-k-preserved
loop-k-preserved c =
    let items = c.args.items.now in
    let k = c.loop-k.k in
    let x = c.index-items-k.result in
    let split = turn items k x c.loop-k-test.true c.index-items-k.is in
    let low = c.loop-k.low in
    let high = c.loop-k.high in
    let front = drop k items in
    let rest = drop (k + 1) items in
    let kept = c.loop-k.invariant in
    elim c.match-item.branch [
      | in-Entry w ↦ rw (w.low-is, w.high-is) (at_entry k low high x front rest items split kept w.in-Entry.field-0 _ w.in-Entry.is (ap (λ n. high + n) (w.labels_in_piece-high-in-Entry.ensures.count ∙ ap (λ l. label_count (piece l)) w.split_at.ensures.back)))
      | in-Ins w ↦ rw (w.low-is, w.high-is) (at_other k low high x front rest items split kept w.in-Ins.is)
      | in-Ins-2 w ↦ rw (w.low-is, w.high-is) (at_other k low high x front rest items split kept w.in-Ins.is)
      | in-Ins-3 w ↦ rw (w.low-is, w.high-is) (at_other k low high x front rest items split kept w.in-Ins.is)
      | in-Jmp+else-from-low+else-high-from w ↦ rw (w.low-is, w.high-is) (at_jump k low high x front rest items split kept w.in-Jmp.label (rw w.from.ensures at w.if-from-low.false) (rw w.from-else-from-low.ensures at w.if-high-from.false) w.in-Jmp.is)
    ]
