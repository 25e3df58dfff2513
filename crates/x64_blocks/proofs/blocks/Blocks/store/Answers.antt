use Rattle.std.proofs.Common.{◌<◌, ◌≤◌, sym, ◌∙◌, ap, subst, refl, length, arith, Some, set}
use Rattle.x64_blocks.specs.Memory.{IsMemory, store}
use Rattle.x64_blocks.proofs.Apart.{IsMemory-stored}
use Rattle.x64_blocks.proofs.Stores.{none_next, store_here, store_outside}
use Rattle.x64_blocks.proofs.blocks.Blocks.store.Goals as goal

pub loop-k-init : goal.loop-k-init
loop-k-init c = record { none = refl; same = c.self.view_is }

pub returns-then-holds : goal.returns-then-holds
returns-then-holds c =
    let items = c.loop-k.self-inside.blocks.items in
    let lengths = ap length (c.loop-k.invariant.same ∙ sym c.self.view_is) in
    let within : c.loop-k.k < length items = omega (arith, lengths, c.loop-k-test.true, c.len-k-end.ensures) in
    ap (λ bs. store bs c.args.address c.args.bytes.now) (sym c.loop-k.invariant.same)
    ∙ store_here c.loop-k.k items c.args.address c.args.bytes.now c.index.result.now c.index_mut.result.now within c.loop-k.invariant.none c.index.ensures c.index_mut.ensures.value (sym c.holds.ensures ∙ c.if-holds.true)
    ∙ ap (λ b. Some (set items c.loop-k.k b)) (sym c.put_at.ensures)

pub invariant_of-self-then-holds : goal.invariant_of-self-then-holds
invariant_of-self-then-holds c =
    let items = c.loop-k.self-inside.blocks.items in
    let same = c.loop-k.invariant.same ∙ sym c.self.view_is in
    let lengths = ap length same in
    let within : c.loop-k.k < length items = omega (arith, lengths, c.loop-k-test.true, c.len-k-end.ensures) in
    IsMemory-stored items c.loop-k.k c.args.address c.args.bytes.now c.index.result.now c.index_mut.result.now _ within (subst IsMemory (sym same) c.self.invariant) (λ i. (let fits = c.type_inv.bytes i in omega (arith, fits))) c.index.ensures c.index_mut.ensures.value (sym c.holds.ensures ∙ c.if-holds.true) c.put_at.ensures

pub loop-k-preserved : goal.loop-k-preserved
loop-k-preserved c =
    let items = c.loop-k.self-inside.blocks.items in
    let lengths = ap length (c.loop-k.invariant.same ∙ sym c.self.view_is) in
    let within : c.loop-k.k < length items = omega (arith, lengths, c.loop-k-test.true, c.len-k-end.ensures) in
    record {
      none = none_next c.loop-k.k items c.args.address (length c.args.bytes.now) c.index.result.now within c.loop-k.invariant.none c.index.ensures (sym c.holds.ensures ∙ c.if-holds.false);
      same = c.loop-k.invariant.same;
    }

pub returns : goal.returns
returns c =
    let items = c.loop-k.self-inside.blocks.items in
    let lengths = ap length (c.loop-k.invariant.same ∙ sym c.self.view_is) in
    let all : length items ≤ c.loop-k.k = omega (arith, lengths, c.loop-k-test.false, c.len-k-end.ensures) in (
      ap (λ bs. store bs c.args.address c.args.bytes.now) (sym c.loop-k.invariant.same) ∙ store_outside c.loop-k.k items c.args.address c.args.bytes.now all c.loop-k.invariant.none,
      c.loop-k.invariant.same,
    )
