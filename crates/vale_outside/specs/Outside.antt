-- What files and streams tell, and their counts of faults.
use Rattle.std.specs.Prelude.{◌≡◌, ℕ, ◌+◌, ◌-◌, ◌^◌, ◌≤◌, min, List, ◌++◌, length, take, Option, Some, None}

-- where a count stays
abbrev pub last_count : ℕ
last_count = 2 ^ 64 - 1

-- one more, as far as the last count
abbrev pub next_count : ℕ → ℕ
next_count n = min (n + 1) last_count

-- a count rose, or stands at the last count
abbrev pub Rose : ℕ → ℕ → Type 0
Rose before now = next_count before ≤ now

-- what was told has the text at its end; where nothing was told, nothing is
abbrev pub Appends : Option (List ℕ) → Option (List ℕ) → List ℕ → Type 0
Appends None new text = new ≡ None
Appends (Some told) new text = new ≡ Some (told ++ text)

-- the same of a front of the text
abbrev pub AppendsFront : Option (List ℕ) → Option (List ℕ) → List ℕ → Type 0
AppendsFront None new text = new ≡ None
AppendsFront (Some told) None text = ⊥
AppendsFront (Some told) (Some now) text = now ≡ told ++ take (length now - length told) text
