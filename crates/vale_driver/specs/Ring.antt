-- The rule `ring`: for every monomial the coefficients of the goal's sides and of the weighted sum of the hypotheses'
-- sides agree modulo 2^64.
use Rattle.std.specs.Prelude.{ℕ, ◌+◌, ◌-◌, ◌*◌, ◌%◌, Bool, true, false, ◌&&◌, ◌==◌, nat_le, List, [], ◌∷◌, ◌++◌, map, Option, Some, None, slice_get, if◌then◌else◌}
use Rattle.std.specs.List.{list_all}
use Rattle.x64_syntax.specs.declared.type_words.Sort.TheVariants as sort
use Rattle.term_core.specs.declared.operator.BinOp.TheVariants as bin
use Rattle.term_core.specs.Terms.{Tm, W64, Bin, tm_eq, tm_sort}
use Rattle.term_core.specs.Operators.{sort_eq}
use Rattle.term_core.specs.Value.{T}
use Rattle.vale_driver.specs.inner.Fronts.{◌>>=◌}
use Rattle.vale_driver.specs.Words.{value_if}
use Rattle.vale_driver.specs.Certificate.{Pair}

-- a monomial as it occurs: its coefficient modulo 2^64, and its atom, or none for the constant
pub record Occurrence : Type 0 where
  pub coefficient : ℕ
  pub atom : Option Tm

-- a term as an atom
abbrev pub alone : Tm → List Occurrence
alone t = record { coefficient = 1; atom = Some t } ∷ []

-- whether a sum of this first part is one of words
abbrev pub of_words : Tm → Bool
of_words t = sort_eq (tm_sort t) sort.W64

-- the occurrences in a term: literals and sums of words are read, every other term is an atom
abbrev pub occurrences : Tm → List Occurrence
occurrences (W64 n) = record { coefficient = n % T; atom = None } ∷ []
occurrences (Bin bin.Add t u) = if of_words t then occurrences t ++ occurrences u else alone (Bin bin.Add t u)
occurrences t = alone t

-- the width of a term: of a literal or an atom 1, of a sum that of its parts together
abbrev pub width : Tm → ℕ
width (Bin bin.Add t u) = if of_words t then width t + width u else 1
width t = 1

abbrev pub times : ℕ → List Occurrence → List Occurrence
times f os = map (λ o. record { coefficient = (f * o.coefficient) % T; atom = o.atom }) os

-- the occurrences of l - r; minus one is 2^64 - 1 modulo 2^64
abbrev pub difference : Tm → Tm → List Occurrence
difference l r = occurrences l ++ times (T - 1) (occurrences r)

abbrev pub same_atom : Option Tm → Option Tm → Bool
same_atom None None = true
same_atom (Some t) (Some u) = tm_eq t u
same_atom _ _ = false

-- the coefficients of a monomial, added up
abbrev pub coefficient : Option Tm → List Occurrence → ℕ
coefficient m [] = 0
coefficient m (o ∷ os) = if same_atom m o.atom then (o.coefficient + coefficient m os) % T else coefficient m os

-- every monomial that occurs has the same coefficient on both sides
abbrev pub is_balanced : List Occurrence → List Occurrence → Bool
is_balanced left right = list_all (λ o. coefficient o.atom left == coefficient o.atom right) (left ++ right)

pub record Sides : Type 0 where
  pub left : Tm
  pub right : Tm

-- the sides of an equation of words
abbrev pub sides : Tm → Option Sides
sides (Bin bin.Eq t u) = value_if (of_words t && of_words u) record { left = t; right = u }
sides _ = None

-- occurrences, and the widths of the sides that they came from
pub record Weighted : Type 0 where
  pub occurrences_ : List Occurrence
  pub width_ : ℕ

-- the sum of the differences of the named hypotheses, each times its factor; none where one isn't an equation of words
abbrev pub weight_of : List Tm → List Pair → Option Weighted
weight_of hyps [] = Some record { occurrences_ = []; width_ = 0 }
weight_of hyps (p ∷ ps) =
    slice_get hyps p.0 >>= λ h. sides h >>= λ s. weight_of hyps ps >>= λ w.
    Some record { occurrences_ = times p.1 (difference s.left s.right) ++ w.occurrences_; width_ = (width s.left + width s.right) + w.width_ }

-- the widest that all sides together may be
abbrev pub width_limit : ℕ
width_limit = 4096

abbrev pub closes_with : Sides → Option Weighted → Bool
closes_with g None = false
closes_with g (Some w) =
    nat_le ((width g.left + width g.right) + w.width_) width_limit && is_balanced (difference g.left g.right) w.occurrences_

abbrev pub closes_sides : List Tm → List Pair → Option Sides → Bool
closes_sides hyps ps None = false
closes_sides hyps ps (Some g) = closes_with g (weight_of hyps ps)

-- the rule applies to the goal with these hypotheses and factors
abbrev pub ring_closes : List Tm → Tm → List Pair → Bool
ring_closes hyps goal ps = closes_sides hyps ps (sides goal)
