-- Trees of expressions.
use Rattle.std.specs.Prelude.{ℕ, ℤ}
use Rattle.vale_syntax.specs.declared.mark.BinaryOp.{BinaryOp}
use Rattle.vale_syntax.specs.declared.mark.UnaryOp.{UnaryOp}
use Rattle.vale_syntax.specs.declared.spot.Spot.{Spot}
use Rattle.vale_syntax.specs.declared.expr.Name.{Name as AName}

mutual
  pub data Ex : Type 0 where
    Int : Spot → ℤ → Ex
    Word : Spot → ℕ → Ex
    Wide : Spot → ℕ → Ex
    True : Spot → Ex
    False : Spot → Ex
    Prev : Spot → Ex
    Name : AName → Ex
    Call : AName → Exs → Ex
    Index : Spot → Ex → Ex → Ex
    Unary : Spot → UnaryOp → Ex → Ex
    Binary : Spot → BinaryOp → Ex → Ex → Ex

  -- a list of them
  pub data Exs : Type 0 where
    none : Exs
    more : Ex → Exs → Exs

-- one more at the end
abbrev pub with_last : Exs → Ex → Exs
with_last none y = more y none
with_last (more x xs) y = more x (with_last xs y)
