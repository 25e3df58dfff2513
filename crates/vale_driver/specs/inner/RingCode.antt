-- What the occurrences that the checker keeps stand for.
use Rattle.std.specs.Prelude.{◌≡◌, ℕ, ◌≤◌, false, List, map, Option, Some, slice_get, Vec}
use Rattle.std.specs.declared.alloc.Global.{Global}
use Rattle.std.specs.Borrow.{Bor}
use Rattle.std.specs.Option.{option_map}
use Rattle.term_core.specs.declared.term.Term.{Term}
use Rattle.term_core.specs.Terms.{Tm, tree}
use Rattle.vale_driver.specs.declared.ring.Occurring.{Occurring}
use Rattle.vale_driver.specs.inner.Fronts.{◌>>=◌}
use Rattle.vale_driver.specs.Ring.{Occurrence, Sides, sides, Weighted, closes_with, width_limit}

abbrev pub atom_of : Option (Bor Term) → Option Tm
atom_of o = option_map (λ t. tree t.now) o

abbrev pub occurrence_view : Occurring → Occurrence
occurrence_view o = record { coefficient = o.coefficient; atom = atom_of o.atom }

abbrev pub occurrence_views : List Occurring → List Occurrence
occurrence_views os = map occurrence_view os

abbrev pub sides_of : Option (Bor Term × Bor Term) → Option Sides
sides_of o = option_map (λ s. record { left = tree s.0.now; right = tree s.1.now }) o

-- the rule applies with this to no goal
abbrev pub ClosesNothing : Option Weighted → Type 0
ClosesNothing w = (g : Sides) → closes_with g w ≡ false

-- what was weighed, with its width
abbrev pub Weighs : Option Weighted → Vec Occurring Global × ℕ → Type 0
Weighs w found = (found.1 ≤ width_limit) × (w ≡ Some record { occurrences_ = occurrence_views found.0.items; width_ = found.1 })

-- the sides of a hypothesis of a number, where it is an equation of words
unfoldable pub hypothesis_sides_of : List Tm → ℕ → Option Sides
hypothesis_sides_of hyps i = slice_get hyps i >>= sides
