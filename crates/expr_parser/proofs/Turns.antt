-- One turn of what goes on behind an expression.
use Rattle.std.proofs.Common.{◌≡◌, ℕ, suc, ◌<◌, ◌≤◌, max, ap, drop, Bool, true, false, cond, List, Option, Some, None, refl, ◌∙◌}
use Rattle.std.specs.Prelude.{nat_le}
use Rattle.std.proofs.lemmas.Bool.{le-leb, lt-leb}
use Rattle.vale_syntax.specs.declared.spot.Spot.{Spot}
use Rattle.vale_syntax.specs.declared.token.Token.{Token}
use Rattle.vale_syntax.specs.declared.mark.BinaryOp.{BinaryOp}
use Rattle.vale_syntax.specs.declared.mark.Mark.TheVariants as mark
use Rattle.vale_syntax.specs.declared.lookahead.Lookahead.{Lookahead}
use Rattle.vale_syntax.specs.declared.lookahead.Lookahead.TheVariants as see
use Rattle.vale_syntax.specs.Operators.{any, right_of, again_of}
use Rattle.vale_syntax.specs.Peek.{peek}
use Rattle.vale_syntax.specs.Trees.{Exs, with_last, Index, Binary}
use Rattle.vale_syntax.specs.Options.{◌>>=◌ as ◌>=>◌}
use Rattle.vale_syntax.specs.inner.Parse.{Got, got, got_list, operator, Parser, square_by, others_by, others, indices_by, indices, chain_by, chain}

refused : {A : Type 0} (t : Bool) (o : Option A) → o ≡ None → cond t o None ≡ None
refused true o h = h
refused false o h = refl

too_high : {A : Type 0} (b d : ℕ) (o : Option A) → b < d → cond (nat_le d b) o None ≡ None
too_high b d o h = ap (λ t. cond t o None) (lt-leb d b h)

within : {A : Type 0} (b d : ℕ) (o : Option A) → d ≤ b → cond (nat_le d b) o None ≡ o
within b d o h = ap (λ t. cond t o None) (le-leb d b h)

-- The operators of a rank. What the turn gives, where one more turn is left.
chain_turn : (sub : Parser) (b n m r : ℕ) (s : Spot) (g : Got) (f : Option BinaryOp) → n ≡ suc m → f ≡ operator r (peek g.rest) → chain sub b n r s g ≡ chain_by f b g (λ o. sub (right_of o) (drop 1 g.rest) >=> λ h.
    chain sub b m (again_of o) s (got (Binary s o g.tree h.tree) (suc (max g.height h.height)) h.rest))
unfolding chain
chain_turn sub b n m r s g f e p = ap (λ k. chain sub b k r s g) e ∙ rw p refl

pub chain_stops : (sub : Parser) (b n m r : ℕ) (s : Spot) (g : Got) (f : Option BinaryOp) → n ≡ suc m → f ≡ operator r (peek g.rest) → f ≡ None → chain sub b n r s g ≡ Some g
chain_stops sub b n m r s g f e p q = chain_turn sub b n m r s g f e p ∙ rw q refl

pub chain_high : (sub : Parser) (b n m r : ℕ) (s : Spot) (g : Got) (f : Option BinaryOp) (o : BinaryOp) → n ≡ suc m → f ≡ operator r (peek g.rest) → f ≡ Some o → b < g.height → chain sub b n r s g ≡ None
chain_high sub b n m r s g f o e p q h = chain_turn sub b n m r s g f e p ∙ rw q (too_high b g.height _ h)

pub chain_fails : (sub : Parser) (b n m r : ℕ) (s : Spot) (g : Got) (f : Option BinaryOp) (o : BinaryOp) → n ≡ suc m → f ≡ operator r (peek g.rest) → f ≡ Some o → sub (right_of o) (drop 1 g.rest) ≡ None → chain sub b n r s g ≡ None
chain_fails sub b n m r s g f o e p q h = chain_turn sub b n m r s g f e p ∙ rw q (refused (nat_le g.height b) _ (rw h refl))

pub chain_goes_on : (sub : Parser) (b n m r : ℕ) (s : Spot) (g h : Got) (f : Option BinaryOp) (o : BinaryOp) → n ≡ suc m → f ≡ operator r (peek g.rest) → f ≡ Some o → g.height ≤ b → sub (right_of o) (drop 1 g.rest) ≡ Some h
    → chain sub b n r s g ≡ chain sub b m (again_of o) s (got (Binary s o g.tree h.tree) (suc (max g.height h.height)) h.rest)
chain_goes_on sub b n m r s g h f o e p q k i = chain_turn sub b n m r s g f e p ∙ rw q (within b g.height _ k ∙ rw i refl)

-- indices
index_turn : (sub : Parser) (b n m : ℕ) (s : Spot) (g : Got) (f : Lookahead) → n ≡ suc m → f ≡ peek g.rest → indices sub b n s g ≡ indices_by f b g (sub any (drop 1 g.rest) >=> λ h.
    square_by (peek h.rest) (indices sub b m s (got (Index s g.tree h.tree) (suc (max g.height h.height)) (drop 1 h.rest))))
unfolding indices
index_turn sub b n m s g f e p = ap (λ k. indices sub b k s g) e ∙ rw p refl

pub index_stops : (sub : Parser) (b n m : ℕ) (s : Spot) (g : Got) (f : Lookahead) → n ≡ suc m → f ≡ peek g.rest → ((o : Option Got) → indices_by f b g o ≡ Some g) → indices sub b n s g ≡ Some g
index_stops sub b n m s g f e p q = index_turn sub b n m s g f e p ∙ q _

pub index_high : (sub : Parser) (b n m : ℕ) (s : Spot) (g : Got) (f : Lookahead) → n ≡ suc m → f ≡ peek g.rest → f ≡ see.Mark mark.SquareOpen → b < g.height → indices sub b n s g ≡ None
index_high sub b n m s g f e p q h = index_turn sub b n m s g f e p ∙ rw q (too_high b g.height _ h)

pub index_fails : (sub : Parser) (b n m : ℕ) (s : Spot) (g : Got) (f : Lookahead) → n ≡ suc m → f ≡ peek g.rest → f ≡ see.Mark mark.SquareOpen → sub any (drop 1 g.rest) ≡ None → indices sub b n s g ≡ None
index_fails sub b n m s g f e p q h = index_turn sub b n m s g f e p ∙ rw q (refused (nat_le g.height b) _ (rw h refl))

pub index_open : (sub : Parser) (b n m : ℕ) (s : Spot) (g h : Got) (f : Lookahead) → n ≡ suc m → f ≡ peek g.rest → f ≡ see.Mark mark.SquareOpen → sub any (drop 1 g.rest) ≡ Some h → ((o : Option Got) → square_by (peek h.rest) o ≡ None) → indices sub b n s g ≡ None
index_open sub b n m s g h f e p q i k = index_turn sub b n m s g f e p ∙ rw q (refused (nat_le g.height b) _ (rw i (k _)))

pub index_goes_on : (sub : Parser) (b n m : ℕ) (s : Spot) (g h : Got) (f : Lookahead) → n ≡ suc m → f ≡ peek g.rest → f ≡ see.Mark mark.SquareOpen → g.height ≤ b → sub any (drop 1 g.rest) ≡ Some h → peek h.rest ≡ see.Mark mark.SquareClose
    → indices sub b n s g ≡ indices sub b m s (got (Index s g.tree h.tree) (suc (max g.height h.height)) (drop 1 h.rest))
index_goes_on sub b n m s g h f e p q k i l = index_turn sub b n m s g f e p ∙ rw q (within b g.height _ k ∙ rw (i, l) refl)

-- arguments
pub others_turn : (sub : Parser) (n m : ℕ) (xs : Exs) (d : ℕ) (ts : List Token) (f : Lookahead) → n ≡ suc m → f ≡ peek ts → others sub n xs d ts ≡ others_by f xs d ts (sub any (drop 1 ts) >=> λ g. others sub m (with_last xs g.tree) (max d g.height) g.rest)
unfolding others
others_turn sub n m xs d ts f e p = ap (λ k. others sub k xs d ts) e ∙ rw p refl

pub others_close : (sub : Parser) (n m : ℕ) (xs : Exs) (d : ℕ) (ts : List Token) (f : Lookahead) → n ≡ suc m → f ≡ peek ts → f ≡ see.Mark mark.RoundClose → others sub n xs d ts ≡ Some (got_list xs d (drop 1 ts))
others_close sub n m xs d ts f e p q = others_turn sub n m xs d ts f e p ∙ rw q refl

pub others_fail : (sub : Parser) (n m : ℕ) (xs : Exs) (d : ℕ) (ts : List Token) (f : Lookahead) → n ≡ suc m → f ≡ peek ts → f ≡ see.Mark mark.Comma → sub any (drop 1 ts) ≡ None → others sub n xs d ts ≡ None
others_fail sub n m xs d ts f e p q h = others_turn sub n m xs d ts f e p ∙ rw (q, h) refl

pub others_go_on : (sub : Parser) (n m : ℕ) (xs : Exs) (d : ℕ) (ts : List Token) (h : Got) (f : Lookahead) → n ≡ suc m → f ≡ peek ts → f ≡ see.Mark mark.Comma → sub any (drop 1 ts) ≡ Some h
    → others sub n xs d ts ≡ others sub m (with_last xs h.tree) (max d h.height) h.rest
others_go_on sub n m xs d ts h f e p q k = others_turn sub n m xs d ts f e p ∙ rw (q, k) refl

-- where no turn is left
pub chain_done : (sub : Parser) (b n r : ℕ) (s : Spot) (g : Got) → n ≡ 0 → chain sub b n r s g ≡ Some g
unfolding chain
chain_done sub b n r s g e = ap (λ k. chain sub b k r s g) e

pub index_done : (sub : Parser) (b n : ℕ) (s : Spot) (g : Got) → n ≡ 0 → indices sub b n s g ≡ Some g
unfolding indices
index_done sub b n s g e = ap (λ k. indices sub b k s g) e

pub others_done : (sub : Parser) (n : ℕ) (xs : Exs) (d : ℕ) (ts : List Token) → n ≡ 0 → others sub n xs d ts ≡ None
unfolding others
others_done sub n xs d ts e = ap (λ k. others sub k xs d ts) e
