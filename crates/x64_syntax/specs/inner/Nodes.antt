-- Nodes as code, and what its functions keep count of.
use Rattle.std.specs.Prelude.{ℕ, ◌-◌, nat_le, List, [], ◌∷◌, map, Option, Some, None, if◌then◌else◌}
use Rattle.x64_syntax.specs.declared.code.Node.{Node}
use Rattle.x64_syntax.specs.declared.code.Node.TheOpen.{Node-F}
use Rattle.x64_syntax.specs.declared.code.Node.TheFolds.{fold-Node}
use Rattle.x64_syntax.specs.Code.{Prog, Done, Step, If, Loop, nodes}

-- code of which each part is given by what follows it
abbrev pub sequence : List (Prog → Prog) → Prog
sequence [] = Done
sequence (f ∷ fs) = f (sequence fs)

abbrev pub node_layer : Node-F (Prog → Prog) → Prog → Prog
node_layer (Node-F.Ins i b) rest = Step i b rest
node_layer (Node-F.If c l r first second) rest = If c l r (sequence first) (sequence second) rest
node_layer (Node-F.Loop c l r body) rest = Loop c l r (sequence body) rest

-- a node in front of code
abbrev pub node_tree : Node → Prog → Prog
node_tree = fold-Node (Prog → Prog) node_layer

abbrev pub prog : List Node → Prog
prog ns = sequence (map node_tree ns)

-- the room that code leaves of so much, a node taking one
abbrev pub room_left : Prog → ℕ → Option ℕ
room_left p room = if nat_le (nodes p) room then Some (room - nodes p) else None
