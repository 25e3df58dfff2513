use Rattle.std.proofs.Common.{◌≡◌, drop}
use Rattle.x64_syntax.specs.inner.Nodes.{prog, room_left}
use Rattle.x64_syntax.proofs.code.+room.Given as goal

-- the rest leaves of what is left what the whole leaves of all
abbrev pub invariant-room_left-loop-node : goal.invariant-room_left-loop-node
invariant-room_left-loop-node l = room_left (prog (drop l.node-index l.code)) l.room ≡ room_left (prog l.code) l.fn.room
