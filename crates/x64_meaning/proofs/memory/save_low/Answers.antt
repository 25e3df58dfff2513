use Rattle.std.proofs.Common.{◌≡◌, ◌%◌, ◌^◌, subst, ap, ◌∙◌, slice_index_or}
use Rattle.std.specs.Int.{to_le_bytes, w32}
use Rattle.x64_blocks.specs.Memory.{store}
use Rattle.x64_meaning.specs.State.{State, reg}
use Rattle.x64_meaning.specs.Run.{address}
use Rattle.x64_meaning.specs.inner.Steps.{Puts}
use Rattle.x64_meaning.proofs.Bytes.{low_acts}
use Rattle.x64_meaning.proofs.memory.save_low.Goals as goal

pub returns : goal.returns
returns c =
    let s = c.args.m.now in
    let a = address s c.args.mem.now in
    let held : slice_index_or c.m.inside.regs c.number.result 0 ≡ reg s c.args.s =
    ap (λ k. slice_index_or c.m.inside.regs k 0) c.number.ensures ∙ ap {A = State} (λ t. reg t c.args.s) c.m.view_is in
    let puts = subst (λ n. Puts (store s.blocks c.address.result (to_le_bytes w32 (n % 2 ^ 32))) c.address.result 4 s c.store4.new.m c.store4.result) held c.store4.ensures in
    low_acts s c.store4.new.m c.args.mem.now c.args.s a c.store4.result (subst (λ b. Puts (store s.blocks b (to_le_bytes w32 ((reg s c.args.s) % 2 ^ 32))) b 4 s c.store4.new.m c.store4.result) c.address.ensures puts)
