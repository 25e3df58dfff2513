-- How the operators between two expressions bind.
use Rattle.std.specs.Prelude.{ℕ, ◌-◌}
use Rattle.vale_syntax.specs.declared.mark.BinaryOp.{BinaryOp}
use Rattle.vale_syntax.specs.declared.mark.BinaryOp.TheVariants as op

-- how loosely an operator binds: the lower rank binds first
abbrev pub rank_of : BinaryOp → ℕ
rank_of op.Mul = 1
rank_of op.Add = 2
rank_of op.Sub = 2
rank_of op.Eq = 3
rank_of op.Ne = 3
rank_of op.Lt = 3
rank_of op.Le = 3
rank_of op.Gt = 3
rank_of op.Ge = 3
rank_of op.And = 4
rank_of op.Or = 5
rank_of op.Implies = 6

-- the rank of whole expressions
abbrev pub any : ℕ
any = 6

-- the rank of what stands to the right of an operator: `==>` groups to the right, all others bind more tightly there
abbrev pub right_of : BinaryOp → ℕ
right_of op.Implies = any
right_of o = rank_of o - 1

-- the rank of the operators that may follow such an operation as it stands: a chain goes on, and behind a relation or `==>` there is none
abbrev pub again_of : BinaryOp → ℕ
again_of op.Mul = 1
again_of op.Add = 2
again_of op.Sub = 2
again_of op.And = 4
again_of op.Or = 5
again_of _ = 0
