-- How many labels there are among items.
use Rattle.std.specs.Prelude.{ℕ, ◌+◌, List, [], ◌∷◌}
use Rattle.x64_syntax.specs.declared.items.Item.{Item}
use Rattle.x64_syntax.specs.declared.items.Item.TheVariants as item

abbrev pub label_count : List Item → ℕ
label_count [] = 0
label_count (item.Label l ∷ is) = 1 + label_count is
label_count (_ ∷ is) = label_count is
