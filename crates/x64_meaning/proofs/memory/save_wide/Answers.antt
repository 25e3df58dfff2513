use Rattle.std.proofs.Common.{◌≡◌, rules, subst, ap, ◌∙◌, slice_index_or}
use Rattle.std.specs.Int.{to_le_bytes, w128}
use Rattle.x64_blocks.specs.Memory.{store}
use Rattle.x64_meaning.specs.State.{State}
use Rattle.x64_meaning.specs.Run.{address}
use Rattle.x64_meaning.specs.inner.Steps.{xmm, Puts}
use Rattle.x64_meaning.proofs.Bytes.{wide_acts}
use Rattle.x64_meaning.proofs.memory.save_wide.Goals as goal

pub returns : goal.returns
returns c =
    let s = c.args.m.now in
    let a = address s c.args.mem.now in
    let held : slice_index_or c.m.inside.xmms c.number.result 0 ≡ xmm s c.args.s =
    ap (λ k. slice_index_or c.m.inside.xmms k 0) c.number.ensures ∙ ap {A = State} (λ t. xmm t c.args.s) c.m.view_is in
    let puts = subst (λ n. Puts (store s.blocks c.address.result (to_le_bytes w128 (n))) c.address.result 16 s c.store16.new.m c.store16.result) held c.store16.ensures in
    wide_acts s c.store16.new.m c.args.mem.now c.args.s a c.store16.result (let is = c.m.told in search rules) (subst (λ b. Puts (store s.blocks b (to_le_bytes w128 ((xmm s c.args.s)))) b 16 s c.store16.new.m c.store16.result) c.address.ensures puts)
