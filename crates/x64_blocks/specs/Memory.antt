-- Blocks of memory, and accesses to them.
use Rattle.std.specs.Prelude.{ℕ, ◌+◌, ◌-◌, ◌*◌, ◌^◌, ◌≡◌, ◌≤◌, ◌<◌, Bool, true, ◌&&◌, nat_le, nat_lt, List, [], ◌∷◌, ◌++◌, length, take, drop, Option, Some, None, option_map, Result, Ok, Err, slice_index, slice_index_or, if◌then◌else◌}
use Rattle.std.specs.List.{find}
use Rattle.x64_blocks.specs.declared.blocks.Outside.{Outside}

-- bytes that lie one after another from an address on
pub record Range : Type 0 where
  pub base : ℕ
  pub bytes : List ℕ

-- a block holds all bytes of an access
abbrev pub holds : ℕ → ℕ → Range → Bool
holds a size b = nat_le b.base a && nat_le (a + size) (b.base + length b.bytes)

-- the block of a number, and an empty one past the last
abbrev pub block_at : List Range → ℕ → Range
block_at bs k = slice_index_or bs k record { base = 0; bytes = [] }

-- blocks end at or below 2^64, their bytes are bytes, and no address lies in two of them
pub record IsMemory (bs : List Range) : Type 0 where
  pub ends : (k : ℕ) → (block_at bs k).base + length (block_at bs k).bytes ≤ 2 ^ 64
  pub bytes : (k i : ℕ) → slice_index (block_at bs k).bytes i < 256
  pub apart : (a j k : ℕ) → holds a 1 (block_at bs j) ≡ true → holds a 1 (block_at bs k) ≡ true → j ≡ k

-- two blocks have an address in common
abbrev pub meets : Range → Range → Bool
meets b c =
    (nat_lt b.base (c.base + length c.bytes) && nat_lt c.base (b.base + length b.bytes))
    && (nat_lt 0 (length b.bytes) && nat_lt 0 (length c.bytes))

-- the number whose lowest byte is the first
abbrev pub le_number : List ℕ → ℕ
le_number [] = 0
le_number (b ∷ bs) = b + 256 * le_number bs

-- the bytes of an access, in a block that holds it
abbrev pub bytes_at : ℕ → ℕ → Range → List ℕ
bytes_at a size b = take size (drop (a - b.base) b.bytes)

-- the bytes of an access, where one block holds them all
abbrev pub access_bytes : List Range → ℕ → ℕ → Option (List ℕ)
access_bytes bs a size = option_map (bytes_at a size) (find (holds a size) bs)

-- the little-endian number in them
abbrev pub load : List Range → ℕ → ℕ → Option ℕ
load bs a size = option_map le_number (access_bytes bs a size)

-- a block with other bytes from an address on
abbrev pub put_at : ℕ → List ℕ → Range → Range
put_at a new b = record { base = b.base; bytes = take (a - b.base) b.bytes ++ (new ++ drop (a - b.base + length new) b.bytes) }

-- the blocks with bytes stored at an address, where one block holds them all
abbrev pub store : List Range → ℕ → List ℕ → Option (List Range)
store [] a new = None
store (b ∷ bs) a new = if holds a (length new) b then Some (put_at a new b ∷ bs) else option_map (λ cs. b ∷ cs) (store bs a new)

abbrev pub or_outside : Option ℕ → Result ℕ Outside
or_outside None = Err record {}
or_outside (Some n) = Ok n

-- what a store leaves
abbrev pub Stores : Option (List Range) → List Range → List Range → Result (Unit {0}) Outside → Type 0
Stores stored old new (Ok u) = stored ≡ Some new
Stores stored old new (Err e) = (stored ≡ None) × (new ≡ old)
