use Rattle.std.proofs.Common.{length, ◌+◌, ◌≤◌}
use Rattle.x64_evaluator.specs.inner.Setting.{ReadSoFar}
use Rattle.x64_evaluator.proofs.state.read_state.Given as goal

abbrev pub invariant-loop-rest : goal.invariant-loop-rest
invariant-loop-rest l = ReadSoFar l.bytes l.rest l.number l.reader × (l.number + length l.rest ≤ length l.bytes + 1)

abbrev pub decreases-loop-rest : goal.decreases-loop-rest
decreases-loop-rest l = length l.rest
