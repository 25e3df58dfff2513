-- What has a value in a contract or a condition, and what it is worth in a state.
use Rattle.std.specs.Prelude.{ℕ, zero, suc, ◌-◌, ◌/◌, nat_lt, List, [], ◌∷◌, length, take, drop, slice_index, if◌then◌else◌}
use Rattle.x64_syntax.specs.declared.places.MachinePlace.{MachinePlace}
use Rattle.x64_syntax.specs.declared.places.MachinePlace.TheVariants as machine
use Rattle.x64_syntax.specs.declared.places.Place.{Place}
use Rattle.x64_syntax.specs.declared.places.Place.TheVariants.{Reg, Xmm, Flag, Block, Slot}
use Rattle.x64_syntax.specs.declared.type_words.Sort.{Sort}
use Rattle.x64_syntax.specs.declared.type_words.Sort.TheVariants as sort
use Rattle.x64_syntax.specs.Places.{of_machine}
use Rattle.x64_blocks.specs.Memory.{block_at, le_number}
use Rattle.term_core.specs.Value.{Val, Word, Array, cast, Assignment}
use Rattle.x64_meaning.specs.State.{State, read}

-- a place, the base of a block of memory, or a name of the proof alone
pub data Spot : Type 0 where
  At : Place → Spot
  Base : ℕ → Spot
  Ghost : List ℕ → Sort → Spot

-- a place of the machine
abbrev pub machine_spot : MachinePlace → Spot
machine_spot p = At (of_machine p)

-- a block is an array of words, and a slot a word
abbrev pub spot_sort : Spot → Sort
spot_sort (At (Reg r)) = sort.W64
spot_sort (At (Xmm x)) = sort.W128
spot_sort (At (Flag f)) = sort.Int
spot_sort (At (Block k)) = sort.Arr
spot_sort (At (Slot k)) = sort.W64
spot_sort (Base k) = sort.W64
spot_sort (Ghost name s) = s

-- the first words of bytes, each of eight bytes from its low end on
abbrev pub words_from : ℕ → List ℕ → List ℕ
words_from zero bytes = []
words_from (suc n) bytes = le_number (take 8 bytes) ∷ words_from n (drop 8 bytes)

-- all whole words of bytes
abbrev pub words : List ℕ → List ℕ
words bytes = words_from (length bytes / 8) bytes

abbrev pub block_words : State → ℕ → List ℕ
block_words s k = words (block_at s.blocks k).bytes

-- word k of a stack counted from its end, where the slot that is pushed first lies, and 0 outside
abbrev pub slot_word : List ℕ → ℕ → ℕ
slot_word ws k = if nat_lt k (length ws) then slice_index ws (length ws - 1 - k) else 0

-- what a spot is worth in a state, by the number of the stack's block and the values of the proof's names
abbrev pub look : ℕ → Assignment → State → Spot → Val
look stack ghosts s (At (Reg r)) = read s (machine.Reg r)
look stack ghosts s (At (Xmm x)) = read s (machine.Xmm x)
look stack ghosts s (At (Flag f)) = read s (machine.Flag f)
look stack ghosts s (At (Block k)) = Array (block_words s k)
look stack ghosts s (At (Slot k)) = Word (slot_word (block_words s stack) k)
look stack ghosts s (Base k) = Word (block_at s.blocks k).base
look stack ghosts s (Ghost name sort) = cast sort (ghosts name sort)
