use Rattle.std.proofs.Common.{◌≡◌, length}
use Rattle.x64_blocks.proofs.Stores.{NoneHolds}
use Rattle.x64_blocks.proofs.blocks.Blocks.store.Given as goal

-- no block so far holds the access, and none changed
abbrev pub invariant-loop-k : goal.invariant-loop-k
invariant-loop-k l = record {
  none : NoneHolds l.k l.self-inside.blocks.items l.address (length l.bytes);
  same : l.self-inside.blocks.items ≡ l.fn.self;
}
