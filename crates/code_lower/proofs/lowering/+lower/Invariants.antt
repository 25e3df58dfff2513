use Rattle.std.proofs.Common.{◌≡◌, ◌+◌, ◌++◌, drop}
use Rattle.x64_syntax.specs.inner.Nodes.{prog}
use Rattle.code_lower.specs.Lowered.{labels, code_items}
use Rattle.code_lower.proofs.lowering.+lower.Given as goal

-- the rest completes what is pushed to all, from the next label on
abbrev pub invariant-push_code-loop-node : goal.invariant-push_code-loop-node
invariant-push_code-loop-node l = record {
  items : l.items.items ++ code_items l.number (prog (drop l.node-index l.code)) ≡ l.fn.items.items ++ code_items l.fn.next (prog l.code);
  count : l.number + labels (prog (drop l.node-index l.code)) ≡ l.fn.next + labels (prog l.code);
}
