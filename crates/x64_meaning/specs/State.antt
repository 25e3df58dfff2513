-- States of the machine: 16 words of 64 bits, 16 of 128 bits, four flags, and blocks of memory that lie apart.
use Rattle.std.specs.Prelude.{◌≡◌, ℕ, zero, suc, ◌<◌, ℤ, pos, List, length, Option, slice_index, slice_index_or, slice_set}
use Rattle.x64_syntax.specs.declared.places.Reg.{Reg as GeneralReg}
use Rattle.x64_syntax.specs.declared.places.FlagName.{FlagName}
use Rattle.x64_syntax.specs.declared.places.MachinePlace.{MachinePlace}
use Rattle.x64_syntax.specs.declared.places.MachinePlace.TheVariants.{Reg, Xmm, Flag}
use Rattle.x64_syntax.specs.Places.{reg_number, xmm_number, flag_number}
use Rattle.x64_blocks.specs.Memory.{Range, IsMemory, load as load_in}
use Rattle.x64_syntax.specs.declared.type_words.Sort.{Sort}
use Rattle.x64_syntax.specs.declared.type_words.Sort.TheVariants as sort
use Rattle.term_core.specs.Value.{T, T128, Val, Whole, Word, Wide, whole, word, wide}
use Rattle.x64_meaning.specs.declared.machine.Flag.{Flag as FlagValue}
use Rattle.x64_meaning.specs.declared.machine.Flag.TheVariants.{Zero, One, Undefined}

pub record State : Type 0 where
  pub regs : List ℕ
  pub xmms : List ℕ
  pub flags : List FlagValue
  pub blocks : List Range

-- the numbers fit, and the blocks are a memory
pub record IsState (s : State) : Type 0 where
  pub regs : length s.regs ≡ 16
  pub regs_fit : (k : ℕ) → slice_index s.regs k < T
  pub xmms : length s.xmms ≡ 16
  pub xmms_fit : (k : ℕ) → slice_index s.xmms k < T128
  pub flags : length s.flags ≡ 4
  pub blocks : IsMemory s.blocks

abbrev pub flag_number_of : FlagValue → ℕ
flag_number_of Zero = 0
flag_number_of One = 1
flag_number_of Undefined = 2

-- 0 and 1, and undefined for any other number
abbrev pub flag_from : ℤ → FlagValue
flag_from (pos zero) = Zero
flag_from (pos (suc zero)) = One
flag_from _ = Undefined

abbrev pub reg : State → GeneralReg → ℕ
reg s r = slice_index s.regs (reg_number r)

abbrev pub flag : State → FlagName → FlagValue
flag s f = slice_index_or s.flags (flag_number f) Undefined

-- the sort of what a place holds; a flag is a whole number: 0, 1, or 2 where it is undefined
abbrev pub place_sort : MachinePlace → Sort
place_sort (Reg r) = sort.W64
place_sort (Xmm x) = sort.W128
place_sort (Flag f) = sort.Int

abbrev pub read : State → MachinePlace → Val
read s (Reg r) = Word (reg s r)
read s (Xmm x) = Wide (slice_index s.xmms (xmm_number x))
read s (Flag f) = Whole (pos (flag_number_of (flag s f)))

abbrev pub write : State → MachinePlace → Val → State
write s (Reg r) v = record s { regs = slice_set s.regs (reg_number r) (word v) }
write s (Xmm x) v = record s { xmms = slice_set s.xmms (xmm_number x) (wide v) }
write s (Flag f) v = record s { flags = slice_set s.flags (flag_number f) (flag_from (whole v)) }

-- the little-endian number in the bytes of an access, where one block holds them all
abbrev pub load : State → ℕ → ℕ → Option ℕ
load s a size = load_in s.blocks a size
