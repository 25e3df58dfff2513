-- State files: a line for each place that is given a value, and for each block of memory.
use Rattle.std.specs.Prelude.{◌≡◌, ℕ, ◌+◌, ◌^◌, pos, nat_lt, nat_le, Bool, true, false, not, ◌&&◌, ◌==◌, List, [], ◌∷◌, ◌++◌, length, map, replicate, slice_set, codes, decimal, if◌then◌else◌}
use Rattle.std.specs.List.{list_all, list_any}
use Rattle.hex.specs.Hex.{encode_lower}
use Rattle.x64_syntax.specs.declared.places.MachinePlace.{MachinePlace}
use Rattle.x64_syntax.specs.declared.places.MachinePlace.TheVariants.{Reg, Xmm, Flag}
use Rattle.x64_syntax.specs.Places.{place_name, place_eq, reg_number, xmm_number, flag_number}
use Rattle.x64_blocks.specs.Memory.{Range, meets}
use Rattle.x64_meaning.specs.declared.machine.Flag.TheVariants.{Undefined}
use Rattle.x64_meaning.specs.State.{State, flag_from}
use Rattle.x64_evaluator.specs.declared.state.StateFault.{StateFault}
use Rattle.x64_evaluator.specs.declared.state.StateFault.TheVariants.{Line, NoMemory}

-- the lines of a text: each ends with byte 10, which the last may lack
abbrev pub in_front : ℕ → List (List ℕ) → List (List ℕ)
in_front b [] = (b ∷ []) ∷ []
in_front b (l ∷ ls) = (b ∷ l) ∷ ls

abbrev pub lines_of : List ℕ → List (List ℕ)
lines_of [] = []
lines_of (b ∷ bs) = if b == 10 then [] ∷ lines_of bs else in_front b (lines_of bs)

-- what a line sets: the value of a place, or a block of memory behind those before it
pub data Setting : Type 0 where
  Value : MachinePlace → ℕ → Setting
  Block : Range → Setting

-- `rax 1`, `zf 0`
abbrev pub value_text : MachinePlace → ℕ → List ℕ
value_text p n = place_name p ++ (codes " " ++ decimal n)

-- bytes as pairs of hexadecimal digits, and no bytes as a dash
abbrev pub bytes_text : List ℕ → List ℕ
bytes_text [] = codes "-"
bytes_text (b ∷ bs) = encode_lower (b ∷ bs)

-- `4096 00ff`
abbrev pub range_text : Range → List ℕ
range_text b = decimal b.base ++ (codes " " ++ bytes_text b.bytes)

abbrev pub block_text : Range → List ℕ
block_text b = codes "block " ++ range_text b

abbrev pub setting_text : Setting → List ℕ
setting_text (Value p n) = value_text p n
setting_text (Block b) = block_text b

-- values of a place are below this
abbrev pub limit : MachinePlace → ℕ
limit (Reg r) = 2 ^ 64
limit (Xmm x) = 2 ^ 128
limit (Flag f) = 2

-- numbers and bytes, as far as they fit
abbrev pub are_bytes : Range → Bool
are_bytes b = nat_lt b.base (2 ^ 64) && list_all (λ x. nat_lt x 256) b.bytes

abbrev pub fits : Setting → Bool
fits (Value p n) = nat_lt n (limit p)
fits (Block b) = are_bytes b && nat_le (b.base + length b.bytes) (2 ^ 64)

-- no place is set twice, and no address is in two blocks
abbrev pub clashes : Setting → Setting → Bool
clashes (Value p n) (Value q m) = place_eq p q
clashes (Block b) (Block c) = meets b c
clashes _ _ = false

abbrev pub may_follow : List Setting → Setting → Bool
may_follow before s = fits s && not (list_any (clashes s) before)

-- each may follow those before it
abbrev pub may_stand : List Setting → List Setting → Bool
may_stand before [] = true
may_stand before (s ∷ ss) = may_follow before s && may_stand (before ++ s ∷ []) ss

abbrev pub with_setting : State → Setting → State
with_setting s (Value (Reg r) n) = record s { regs = slice_set s.regs (reg_number r) n }
with_setting s (Value (Xmm x) n) = record s { xmms = slice_set s.xmms (xmm_number x) n }
with_setting s (Value (Flag f) n) = record s { flags = slice_set s.flags (flag_number f) (flag_from (pos n)) }
with_setting s (Block b) = record s { blocks = s.blocks ++ b ∷ [] }

abbrev pub with_settings : State → List Setting → State
with_settings s [] = s
with_settings s (x ∷ xs) = with_settings (with_setting s x) xs

-- the machine without memory whose registers are 0 and whose flags are undefined
abbrev pub fresh : State
fresh = record { regs = replicate 16 0; xmms = replicate 16 0; flags = replicate 4 Undefined; blocks = [] }

-- the lines set what the state has
pub record IsStateOf (lines : List (List ℕ)) (s : State) : Type 0 where
  pub settings : List Setting
  pub allowed : may_stand [] settings ≡ true
  pub are : lines ≡ map setting_text settings
  pub is : s ≡ with_settings fresh settings

-- the line of this number is the first that sets nothing which may follow those before it
pub record StopsAt (lines : List (List ℕ)) (number : ℕ) : Type 0 where
  pub settings : List Setting
  pub line : List ℕ
  pub behind : List (List ℕ)
  pub allowed : may_stand [] settings ≡ true
  pub are : lines ≡ map setting_text settings ++ line ∷ behind
  pub none : (s : Setting) → setting_text s ≡ line → may_follow settings s ≡ true → ⊥
  pub is : number ≡ length settings + 1

abbrev pub IsNoState : List (List ℕ) → StateFault → Type 0
IsNoState lines (Line n) = StopsAt lines n
IsNoState lines NoMemory = Unit {0}
