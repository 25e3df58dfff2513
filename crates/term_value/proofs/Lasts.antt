-- The last one of some arguments.
use Rattle.std.proofs.Common.{◌≡◌, ℕ, zero, suc, ◌-◌, List, [], ◌∷◌, length, map, ℤ, refl, ap, ◌∙◌, set}
use Rattle.term_core.specs.declared.literal.Literal.{Literal}
use Rattle.term_core.specs.declared.literal.Literal.TheVariants as literal
use Rattle.term_core.specs.Literals.{literal_value}
use Rattle.term_core.specs.Value.{Whole}
use Rattle.term_core.specs.Meaning.{with_last}

values_set : (xs : List Literal) (k : ℕ) (x : Literal) → map literal_value (set xs k x) ≡ set (map literal_value xs) k (literal_value x)
values_set [] k x = refl
values_set (y ∷ ys) zero x = refl
values_set (y ∷ ys) (suc k) x = ap (λ l. literal_value y ∷ l) (values_set ys k x)

pub last_set : (xs : List Literal) (n : ℤ) → map literal_value (set xs (length xs - 1) (literal.Int n)) ≡ with_last (map literal_value xs) n
last_set xs n = values_set xs (length xs - 1) (literal.Int n) ∙ ap (λ k. set (map literal_value xs) (k - 1) (Whole n)) (length-of xs)
  where
    length-of : (ys : List Literal) → length ys ≡ length (map literal_value ys)
    length-of [] = refl
    length-of (y ∷ ys) = ap suc (length-of ys)
