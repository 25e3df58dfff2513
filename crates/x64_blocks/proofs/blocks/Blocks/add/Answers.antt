use Rattle.std.proofs.Common.{sym, ap, ◌∙◌, arith}
use Rattle.std.specs.List.{list_any}
use Rattle.x64_blocks.specs.Memory.{meets}
use Rattle.x64_blocks.proofs.Apart.{IsMemory-pushed}
use Rattle.x64_blocks.proofs.blocks.Blocks.add.Goals as goal

pub invariant_of-self : goal.invariant_of-self
invariant_of-self c =
    let end = c.end.ensures in
    let fits = c.if-end.false in
    IsMemory-pushed c.self.inside.blocks.items c.push.new.self.items c.new-block.result _ _ c.self.invariant c.new-block.ensures.block (omega (arith, end, fits)) c.new-block.ensures.bytes
    (ap (list_any (meets c.new-block.result)) (sym c.deref.ensures.value) ∙ sym c.meets_any.ensures ∙ c.if-meets_any.false) c.push.ensures.items
