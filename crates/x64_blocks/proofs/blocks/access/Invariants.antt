use Rattle.std.proofs.Common.{◌≡◌, drop}
use Rattle.std.specs.List.{find}
use Rattle.x64_blocks.specs.Memory.{holds}
use Rattle.x64_blocks.proofs.blocks.access.Given as goal

abbrev pub invariant-loop-block : goal.invariant-loop-block
invariant-loop-block l = find (holds l.address l.size) (drop l.block-index l.blocks) ≡ find (holds l.address l.size) l.blocks
