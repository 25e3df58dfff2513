-- Where labels stand whose numbers rise.
use Rattle.std.specs.Prelude.{◌≡◌, ℕ, ◌<◌, ◌≤◌, List, Some, slice_get}
use Rattle.x64_syntax.specs.declared.items.Item.{Item}
use Rattle.x64_syntax.specs.declared.items.Item.TheVariants.{Label}

-- from a place on there are only labels above this one
abbrev pub OnlyAbove : List Item → ℕ → ℕ → Type 0
OnlyAbove items from label = (k l : ℕ) → from ≤ k → slice_get items k ≡ Some (Label l) → label < l
