use Rattle.std.proofs.Common.{◌≡◌, drop}
use Rattle.x64_syntax.specs.Code.{are_forms}
use Rattle.x64_syntax.specs.inner.Nodes.{prog}
use Rattle.x64_syntax.proofs.code.+forms.Given as goal

-- the rest gives what the whole gives
abbrev pub invariant-are_forms-loop-node : goal.invariant-are_forms-loop-node
invariant-are_forms-loop-node l = are_forms (prog (drop l.node-index l.code)) ≡ are_forms (prog l.code)
