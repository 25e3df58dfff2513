use Rattle.std.proofs.Common.{◌≡◌, ◌≤◌, ◌+◌, drop}
use Rattle.x64_syntax.specs.Code.{nodes, slots}
use Rattle.x64_syntax.specs.inner.Nodes.{prog}
use Rattle.x64_syntax.proofs.code.+slots.Given as goal

-- the rest leaves what the whole leaves, and no more are pushed than there are nodes
abbrev pub invariant-slots_of-loop-node : goal.invariant-slots_of-loop-node
invariant-slots_of-loop-node l = record {
  left : slots (prog (drop l.node-index l.code)) l.pushed ≡ slots (prog l.code) 0;
  bound : l.pushed + nodes (prog (drop l.node-index l.code)) ≤ nodes (prog l.code);
}
