-- The expression that tokens begin with, found by looking ahead; `read_as_spelled` says that it is the one that they spell.
use Rattle.std.specs.Prelude.{ℕ, zero, suc, max, ℤ, neg_ℤ, nat_le, ◌==◌, List, [], ◌∷◌, length, drop, Option, Some, None, if◌then◌else◌}
use Rattle.vale_syntax.specs.declared.spot.Spot.{Spot}
use Rattle.vale_syntax.specs.declared.token.Token.{Token}
use Rattle.vale_syntax.specs.declared.mark.BinaryOp.{BinaryOp}
use Rattle.vale_syntax.specs.declared.mark.BinaryOp.TheVariants.{Sub}
use Rattle.vale_syntax.specs.declared.mark.UnaryOp.{UnaryOp}
use Rattle.vale_syntax.specs.declared.mark.UnaryOp.TheVariants.{Not, Neg}
use Rattle.vale_syntax.specs.declared.mark.Mark.TheVariants as mark
use Rattle.vale_syntax.specs.declared.lookahead.Lookahead.{Lookahead}
use Rattle.vale_syntax.specs.declared.lookahead.Lookahead.TheVariants as see
use Rattle.vale_syntax.specs.Options.{◌>>=◌}
use Rattle.vale_syntax.specs.Operators.{rank_of, any, right_of, again_of}
use Rattle.vale_syntax.specs.Peek.{peek, spot_of}
use Rattle.vale_syntax.specs.Trees.{Ex, Exs, none, more, with_last, Int, Call, Index, Unary, Binary}
use Rattle.vale_syntax.specs.Expressions.{name_of, leaf, minus_number, depth_limit}

-- a tree, its depth, and the tokens behind it
pub record Got : Type 0 where
  pub tree : Ex
  pub height : ℕ
  pub rest : List Token

pub record GotList : Type 0 where
  pub trees : Exs
  pub height : ℕ
  pub rest : List Token

abbrev pub got : Ex → ℕ → List Token → Got
got x d ts = record { tree = x; height = d; rest = ts }

abbrev pub got_list : Exs → ℕ → List Token → GotList
got_list xs d ts = record { trees = xs; height = d; rest = ts }

-- the operator of a rank that a token is
abbrev pub operator : ℕ → Lookahead → Option BinaryOp
operator r (see.Mark (mark.Binary o)) = if rank_of o == r then Some o else None
operator r _ = None

-- A parser of parts: the expression of a rank that tokens begin with. Parts have a depth of at most b.
abbrev pub Parser : Type 0
Parser = ℕ → List Token → Option Got

abbrev pub leaf_parse : Option Ex → List Token → Option Got
leaf_parse None ts = None
leaf_parse (Some x) ts = Some (got x 1 (drop 1 ts))

abbrev pub round_by : Lookahead → Got → Option Got
round_by (see.Mark mark.RoundClose) g = Some (got g.tree (suc g.height) (drop 1 g.rest))
round_by _ g = None

-- an expression in round brackets
abbrev pub round_parse : Parser → List Token → Option Got
round_parse sub ts = sub any (drop 1 ts) >>= λ g. round_by (peek g.rest) g

abbrev pub unary_node : Spot → UnaryOp → Got → Option Got
unary_node s o g = Some (got (Unary s o g.tree) (suc g.height) g.rest)

-- an operator and the expression behind it
abbrev pub prefix_parse : Parser → UnaryOp → List Token → Option Got
prefix_parse sub o ts = sub 0 (drop 1 ts) >>= unary_node (spot_of ts) o

-- where the closing bracket of an index stands
abbrev pub square_by : {A : Type 0} → Lookahead → Option A → Option A
square_by (see.Mark mark.SquareClose) o = o
square_by _ o = None

abbrev pub others_by : Lookahead → Exs → ℕ → List Token → Option GotList → Option GotList
others_by (see.Mark mark.RoundClose) xs d ts go = Some (got_list xs d (drop 1 ts))
others_by (see.Mark mark.Comma) xs d ts go = go
others_by _ xs d ts go = None

-- the arguments behind some, of which at most so many are left
unfoldable pub others : Parser → ℕ → Exs → ℕ → List Token → Option GotList
others sub zero xs d ts = None
others sub (suc n) xs d ts = others_by (peek ts) xs d ts (sub any (drop 1 ts) >>= λ g. others sub n (with_last xs g.tree) (max d g.height) g.rest)

abbrev pub arguments_by : Parser → Lookahead → List Token → Option GotList
arguments_by sub (see.Mark mark.RoundClose) ts = Some (got_list none 0 (drop 1 ts))
arguments_by sub _ ts = sub any ts >>= λ g. others sub (length ts) (more g.tree none) g.height g.rest

unfoldable pub arguments : Parser → List Token → Option GotList
arguments sub ts = arguments_by sub (peek ts) ts

abbrev pub name_by : Parser → Lookahead → List Token → Option Got
name_by sub (see.Mark mark.RoundOpen) ts = arguments sub (drop 2 ts) >>= λ g. Some (got (Call (name_of ts) g.trees) (suc g.height) g.rest)
name_by sub _ ts = leaf_parse (leaf ts) ts

abbrev pub atom_by : Parser → Lookahead → List Token → Option Got
atom_by sub (see.Mark mark.RoundOpen) ts = round_parse sub ts
atom_by sub see.Name ts = name_by sub (peek (drop 1 ts)) ts
atom_by sub _ ts = leaf_parse (leaf ts) ts

unfoldable pub atom : Parser → List Token → Option Got
atom sub ts = atom_by sub (peek ts) ts

abbrev pub indices_by : Lookahead → ℕ → Got → Option Got → Option Got
indices_by (see.Mark mark.SquareOpen) b g go = if nat_le g.height b then go else None
indices_by _ b g go = Some g

-- the indices behind an expression, of which at most so many are left
unfoldable pub indices : Parser → ℕ → ℕ → Spot → Got → Option Got
indices sub b zero s g = Some g
indices sub b (suc n) s g = indices_by (peek g.rest) b g (sub any (drop 1 g.rest) >>= λ h.
    square_by (peek h.rest) (indices sub b n s (got (Index s g.tree h.tree) (suc (max g.height h.height)) (drop 1 h.rest))))

abbrev pub minus_by : Parser → Option ℤ → List Token → Option Got
minus_by sub (Some z) ts = Some (got (Int (spot_of ts) (neg_ℤ z)) 1 (drop 2 ts))
minus_by sub None ts = prefix_parse sub Neg ts

abbrev pub unary_by : Parser → ℕ → Lookahead → List Token → Option Got
unary_by sub b (see.Mark mark.Bang) ts = prefix_parse sub Not ts
unary_by sub b (see.Mark (mark.Binary Sub)) ts = minus_by sub (minus_number ts) ts
unary_by sub b _ ts = atom sub ts >>= indices sub b (suc b) (spot_of ts)

unfoldable pub unary : Parser → ℕ → List Token → Option Got
unary sub b ts = unary_by sub b (peek ts) ts

abbrev pub chain_by : Option BinaryOp → ℕ → Got → (BinaryOp → Option Got) → Option Got
chain_by None b g go = Some g
chain_by (Some o) b g go = if nat_le g.height b then go o else None

-- the operators of a rank behind an expression, of which at most so many are left
unfoldable pub chain : Parser → ℕ → ℕ → ℕ → Spot → Got → Option Got
chain sub b zero r s g = Some g
chain sub b (suc n) r s g = chain_by (operator r (peek g.rest)) b g (λ o. sub (right_of o) (drop 1 g.rest) >>= λ h.
    chain sub b n (again_of o) s (got (Binary s o g.tree h.tree) (suc (max g.height h.height)) h.rest))

-- an expression of a rank, whose parts the parser finds
unfoldable pub rank_parse : Parser → ℕ → ℕ → List Token → Option Got
rank_parse sub b zero ts = unary sub b ts
rank_parse sub b (suc r) ts = rank_parse sub b r ts >>= chain sub b (suc b) (suc r) (spot_of ts)

-- the expression of a rank, with a depth of at most so many, that the tokens begin with
unfoldable pub parse : ℕ → ℕ → List Token → Option Got
parse zero r ts = None
parse (suc b) r ts = rank_parse (parse b) b r ts

abbrev pub whole_by : Ex → List Token → Option Ex
whole_by x [] = Some x
whole_by x (t ∷ ts) = None

-- the expression that the tokens are, all of them
unfoldable pub whole_parse : List Token → Option Ex
whole_parse ts = parse depth_limit any ts >>= λ g. whole_by g.tree g.rest
