use Rattle.std.proofs.Common.{◌≡◌, drop}
use Rattle.x64_syntax.specs.inner.Nodes.{prog}
use Rattle.code_lower.specs.Lowered.{label_room}
use Rattle.code_lower.proofs.lowering.+room.Given as goal

-- the rest leaves of what is left what the whole leaves of all
abbrev pub invariant-room_left-loop-node : goal.invariant-room_left-loop-node
invariant-room_left-loop-node l = label_room (prog (drop l.node-index l.code)) l.room ≡ label_room (prog l.code) l.fn.room
