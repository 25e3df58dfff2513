-- Which tokens spell which expression. Each relation hands on the tokens that are left behind the thing that it speaks of, and says the thing's depth exactly.
use Rattle.std.specs.Prelude.{◌≡◌, ℕ, suc, ◌≤◌, nat_lt, max, ℤ, pos, neg_ℤ, List, [], drop, Option, Some, None, if◌then◌else◌}
use Rattle.x64_syntax.specs.declared.keywords.Keyword.TheVariants as word
use Rattle.vale_syntax.specs.declared.spot.Spot.{Spot}
use Rattle.vale_syntax.specs.declared.token.Token.{Token}
use Rattle.vale_syntax.specs.declared.mark.BinaryOp.{BinaryOp}
use Rattle.vale_syntax.specs.declared.mark.BinaryOp.TheVariants.{Sub}
use Rattle.vale_syntax.specs.declared.mark.UnaryOp.TheVariants.{Not, Neg}
use Rattle.vale_syntax.specs.declared.mark.Mark.TheVariants as mark
use Rattle.vale_syntax.specs.declared.lookahead.Lookahead.{Lookahead}
use Rattle.vale_syntax.specs.declared.lookahead.Lookahead.TheVariants as see
use Rattle.vale_syntax.specs.declared.expr.Name.{Name as AName}
use Rattle.vale_syntax.specs.Operators.{rank_of, any, right_of, again_of}
use Rattle.vale_syntax.specs.Peek.{peek, text_of, spot_of}
use Rattle.vale_syntax.specs.Tokens.{whole_limit}
use Rattle.vale_syntax.specs.Trees.{Ex, Exs, none, more, with_last, Int, Word, Wide, True, False, Prev, Name, Call, Index, Unary, Binary}

-- the first token as a name
abbrev pub name_of : List Token → AName
name_of ts = record { text = text_of ts; spot = spot_of ts }

-- a whole number that a token may be
abbrev pub whole_number : ℕ → Option ℤ
whole_number n = if nat_lt n whole_limit then Some (pos n) else None

abbrev pub whole_leaf : Spot → Option ℤ → Option Ex
whole_leaf s None = None
whole_leaf s (Some z) = Some (Int s z)

-- the expression that a token is by itself
abbrev pub leaf_by : Lookahead → List Token → Option Ex
leaf_by (see.Int n) ts = whole_leaf (spot_of ts) (whole_number n)
leaf_by (see.Word n) ts = Some (Word (spot_of ts) n)
leaf_by (see.Wide n) ts = Some (Wide (spot_of ts) n)
leaf_by (see.Keyword word.True) ts = Some (True (spot_of ts))
leaf_by (see.Keyword word.False) ts = Some (False (spot_of ts))
leaf_by (see.Keyword word.Prev) ts = Some (Prev (spot_of ts))
leaf_by see.Name ts = Some (Name (name_of ts))
leaf_by see.Stamped ts = Some (Name (name_of ts))
leaf_by _ ts = None

unfoldable pub leaf : List Token → Option Ex
leaf ts = leaf_by (peek ts) ts

-- behind a `-`: the number that directly follows, where no index is asked of it
abbrev pub minus_number_by : Lookahead → Lookahead → Option ℤ
minus_number_by (see.Int n) (see.Mark mark.SquareOpen) = None
minus_number_by (see.Int n) _ = whole_number n
minus_number_by _ _ = None

-- the number that a `-` makes negative
unfoldable pub minus_number : List Token → Option ℤ
minus_number ts = minus_number_by (peek (drop 1 ts)) (peek (drop 2 ts))

mutual
  -- `Spells rank depth ts x rest`: ts begins with x, in which operators outside of brackets have at most this rank
  pub data Spells : ℕ → ℕ → List Token → Ex → List Token → Type 0 where
    not_ : {d : ℕ} {ts : List Token} {x : Ex} {rest : List Token} → peek ts ≡ see.Mark mark.Bang
        → Spells 0 d (drop 1 ts) x rest → Spells 0 (suc d) ts (Unary (spot_of ts) Not x) rest
    negative : {z : ℤ} {ts : List Token} → peek ts ≡ see.Mark (mark.Binary Sub) → minus_number ts ≡ Some z
        → Spells 0 1 ts (Int (spot_of ts) (neg_ℤ z)) (drop 2 ts)
    minus : {d : ℕ} {ts : List Token} {x : Ex} {rest : List Token} → peek ts ≡ see.Mark (mark.Binary Sub) → minus_number ts ≡ None
        → Spells 0 d (drop 1 ts) x rest → Spells 0 (suc d) ts (Unary (spot_of ts) Neg x) rest
    postfix : {d e : ℕ} {ts mid : List Token} {x y : Ex} {rest : List Token}
        → Atom d ts x mid → Indices (spot_of ts) d x mid e y rest → Spells 0 e ts y rest
    operations : {r d e : ℕ} {ts mid : List Token} {x y : Ex} {rest : List Token}
        → Spells r d ts x mid → Chain (suc r) (spot_of ts) d x mid e y rest → Spells (suc r) e ts y rest

  -- `Chain rank spot d x ts e y rest`: behind x, of depth d, ts begins with operators of the rank and their right sides; together they are y, of depth e
  pub data Chain : ℕ → Spot → ℕ → Ex → List Token → ℕ → Ex → List Token → Type 0 where
    chain_end : {r : ℕ} {s : Spot} {d : ℕ} {x : Ex} {ts : List Token} → Chain r s d x ts d x ts
    operation : {r : ℕ} {s : Spot} {d : ℕ} {x : Ex} {ts mid : List Token} {e f : ℕ} {y z : Ex} {rest : List Token} (o : BinaryOp)
        → peek ts ≡ see.Mark (mark.Binary o) → rank_of o ≡ r → Spells (right_of o) e (drop 1 ts) y mid
        → Chain (again_of o) s (suc (max d e)) (Binary s o x y) mid f z rest → Chain r s d x ts f z rest

  -- behind x, indices in square brackets
  pub data Indices : Spot → ℕ → Ex → List Token → ℕ → Ex → List Token → Type 0 where
    index_end : {s : Spot} {d : ℕ} {x : Ex} {ts : List Token} → Indices s d x ts d x ts
    index : {s : Spot} {d : ℕ} {x : Ex} {ts mid : List Token} {e f : ℕ} {i z : Ex} {rest : List Token}
        → peek ts ≡ see.Mark mark.SquareOpen → Spells any e (drop 1 ts) i mid → peek mid ≡ see.Mark mark.SquareClose
        → Indices s (suc (max d e)) (Index s x i) (drop 1 mid) f z rest → Indices s d x ts f z rest

  pub data Atom : ℕ → List Token → Ex → List Token → Type 0 where
    token : {ts : List Token} {x : Ex} → leaf ts ≡ Some x → Atom 1 ts x (drop 1 ts)
    call : {d : ℕ} {ts : List Token} {xs : Exs} {rest : List Token} → peek ts ≡ see.Name → peek (drop 1 ts) ≡ see.Mark mark.RoundOpen
        → Arguments d (drop 2 ts) xs rest → Atom (suc d) ts (Call (name_of ts) xs) rest
    brackets : {d : ℕ} {ts mid : List Token} {x : Ex} → peek ts ≡ see.Mark mark.RoundOpen → Spells any d (drop 1 ts) x mid
        → peek mid ≡ see.Mark mark.RoundClose → Atom (suc d) ts x (drop 1 mid)

  -- what stands in the round brackets of a call, the closing one included
  pub data Arguments : ℕ → List Token → Exs → List Token → Type 0 where
    no_arguments : {ts : List Token} → peek ts ≡ see.Mark mark.RoundClose → Arguments 0 ts none (drop 1 ts)
    some_arguments : {d e : ℕ} {ts mid : List Token} {x : Ex} {xs : Exs} {rest : List Token}
        → Spells any d ts x mid → Others d (more x none) mid e xs rest → Arguments e ts xs rest

  -- behind some arguments, the others
  pub data Others : ℕ → Exs → List Token → ℕ → Exs → List Token → Type 0 where
    others_end : {d : ℕ} {xs : Exs} {ts : List Token} → peek ts ≡ see.Mark mark.RoundClose → Others d xs ts d xs (drop 1 ts)
    others_more : {d e f : ℕ} {xs ys : Exs} {y : Ex} {ts mid rest : List Token}
        → peek ts ≡ see.Mark mark.Comma → Spells any e (drop 1 ts) y mid
        → Others (max d e) (with_last xs y) mid f ys rest → Others d xs ts f ys rest

-- no expression is deeper
abbrev pub depth_limit : ℕ
depth_limit = 200

-- the tokens, all of them, spell the expression
pub record IsExpr (ts : List Token) (x : Ex) : Type 0 where
  pub depth : ℕ
  pub shallow : depth ≤ depth_limit
  pub spelled : Spells any depth ts x []
