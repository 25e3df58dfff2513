-- Lists of trees.
use Rattle.std.proofs.Common.{◌≡◌, List, [], ◌∷◌, ◌++◌, map, refl, ap}
use Rattle.vale_syntax.specs.declared.expr.Expr.{Expr}
use Rattle.vale_syntax.specs.Trees.{more, with_last}
use Rattle.vale_syntax.specs.inner.CodeTrees.{exs, tree}

-- one more at the end
pub exs_last : (xs : List Expr) (y : Expr) → exs (map tree (xs ++ y ∷ [])) ≡ with_last (exs (map tree xs)) (tree y)
exs_last [] y = refl
exs_last (x ∷ xs) y = ap (more (tree x)) (exs_last xs y)
