-- Statements as a list.
use Rattle.std.proofs.Common.{◌≡◌, List, [], ◌∷◌, refl, ap}
use Rattle.vale_syntax.specs.Programs.{St}
use Rattle.vale_syntax.specs.inner.CodeTrees.{sts}
use Rattle.straight_line.specs.Form.{statement_list}

pub listed_sts_of : (xs : List St) → statement_list (sts xs) ≡ xs
listed_sts_of [] = refl
listed_sts_of (x ∷ xs) = ap (λ l. x ∷ l) (listed_sts_of xs)
