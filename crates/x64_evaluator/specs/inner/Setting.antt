-- Lines of state files as they are read.
use Rattle.std.specs.Prelude.{◌≡◌, ℕ, ◌+◌, ◌^◌, ◌<◌, ◌≤◌, ◌⊎◌, nat_lt, ◌&&◌, Bool, true, false, not, bytes_eq, codes, List, [], ◌∷◌, ◌++◌, length, get_or, ◌≢◌, map, Option, Some, None, Vec}
use Rattle.std.specs.List.{list_all, list_any}
use Rattle.std.specs.declared.alloc.Global.{Global}
use Rattle.x64_syntax.specs.declared.places.MachinePlace.{MachinePlace}
use Rattle.x64_syntax.specs.PlaceSets.{in_set}
use Rattle.x64_blocks.specs.Memory.{Range, meets}
use Rattle.x64_meaning.specs.State.{State}
use Rattle.x64_evaluator.specs.declared.state.StateReader.{StateReader}
use Rattle.x64_evaluator.specs.StateFile.{lines_of, Setting, Value, Block, value_text, range_text, setting_text, limit, are_bytes, clashes, may_follow, may_stand, with_setting, with_settings, fresh}

-- The text is that of a value that fits, and of no other, or of none.
abbrev pub IsValue : List ℕ → Option (MachinePlace × ℕ) → Type 0
IsValue text (Some v) = (value_text v.0 v.1 ≡ text) × (v.1 < limit v.0) × ((p : MachinePlace) (n : ℕ) → n < limit p → value_text p n ≡ text → (v.0 ≡ p) × (v.1 ≡ n))
IsValue text None = (p : MachinePlace) (n : ℕ) → n < limit p → value_text p n ≡ text → ⊥

-- and so with a block
abbrev pub range_seen : ℕ × Vec ℕ Global → Range
range_seen v = record { base = v.0; bytes = v.1.items }

abbrev pub IsRange : List ℕ → Option (ℕ × Vec ℕ Global) → Type 0
IsRange text (Some v) = (range_text (range_seen v) ≡ text) × (are_bytes (range_seen v) ≡ true) × ((b : Range) → are_bytes b ≡ true → range_text b ≡ text → range_seen v ≡ b)
IsRange text None = (b : Range) → are_bytes b ≡ true → range_text b ≡ text → ⊥

-- a block more, or one that reaches past the end of memory or has an address in common with another
abbrev pub Adds : State → Range → Bool → State → Type 0
Adds s b true new = (b.base + length b.bytes ≤ 2 ^ 64) × (list_any (meets b) s.blocks ≡ false) × (new ≡ with_setting s (Block b))
Adds s b false new = (2 ^ 64 < b.base + length b.bytes) ⊎ (list_any (meets b) s.blocks ≡ true)

-- a value of the place is set
abbrev pub sets : MachinePlace → Setting → Bool
sets p s = clashes (Value p 0) s

-- a byte of a word: neither a blank nor beyond ASCII
abbrev pub is_graphic : ℕ → Bool
is_graphic b = nat_lt 32 b && nat_lt b 128

abbrev pub graphic : List ℕ → Bool
graphic bs = list_all is_graphic bs

-- a word that no line of a block begins with
abbrev pub is_word : List ℕ → Bool
is_word bs = graphic bs && not (bytes_eq bs (codes "block"))

abbrev pub Blankless : List ℕ → Type 0
Blankless word = (k : ℕ) → k < length word → get_or word k 0 ≢ 32

-- the reader holds what these set
pub record Holds (ss : List Setting) (r : StateReader) : Type 0 where
  pub machine : r.machine ≡ with_settings fresh ss
  pub places : (p : MachinePlace) → in_set r.set p ≡ list_any (sets p) ss

-- one setting more, or none that may follow
abbrev pub Takes : List Setting → (Setting → Type 0) → Bool → StateReader → Type 0
Takes ss Says true r = (s : Setting) × Says s × (may_follow ss s ≡ true) × Holds (ss ++ s ∷ []) r
Takes ss Says false r = (s : Setting) → Says s → may_follow ss s ≡ true → ⊥

-- so far the lines are those of settings
pub record ReadSoFar (bytes rest : List ℕ) (number : ℕ) (r : StateReader) : Type 0 where
  pub settings : List Setting
  pub allowed : may_stand [] settings ≡ true
  pub are : lines_of bytes ≡ map setting_text settings ++ lines_of rest
  pub holds : Holds settings r
  pub count : number ≡ length settings + 1
