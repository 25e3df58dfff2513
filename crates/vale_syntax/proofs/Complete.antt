-- Where tokens spell an expression, looking ahead finds it.
use Rattle.std.proofs.Common.{◌≡◌, ℕ, zero, suc, ◌+◌, ◌<◌, ◌≤◌, max, Bool, true, false, cond, List, [], ◌∷◌, length, drop, length-drop, Option, Some, None, refl, sym, ◌∙◌, ap, subst, arith}
use Rattle.std.specs.Prelude.{◌==◌}
use Rattle.std.proofs.lemmas.Bool.{eq-eqb, le-leb, eqb-true, false≢true}
use Rattle.vale_syntax.specs.declared.token.Token.{Token}
use Rattle.vale_syntax.specs.declared.spot.Spot.{Spot}
use Rattle.vale_syntax.specs.declared.mark.Mark.{Mark}
use Rattle.vale_syntax.specs.declared.mark.Mark.TheVariants as mark
use Rattle.vale_syntax.specs.declared.mark.BinaryOp.{BinaryOp}
use Rattle.vale_syntax.specs.declared.mark.BinaryOp.TheVariants as op
use Rattle.vale_syntax.specs.declared.mark.UnaryOp.TheVariants.{Not, Neg}
use Rattle.vale_syntax.specs.declared.lookahead.Lookahead.{Lookahead}
use Rattle.vale_syntax.specs.declared.lookahead.Lookahead.TheVariants as see
use Rattle.vale_syntax.specs.Operators.{rank_of, any, right_of, again_of}
use Rattle.vale_syntax.specs.Peek.{peek, spot_of}
use Rattle.vale_syntax.specs.Trees.{Ex, Exs, none, more, with_last, Call, Index, Binary}
use Rattle.vale_syntax.specs.Expressions.{name_of, leaf_by, leaf, Spells, not_, negative, minus, postfix, operations, Chain, chain_end, operation, Indices, index_end, index, Atom, token, call, brackets, Arguments, no_arguments, some_arguments, Others, others_end, others_more}
use Rattle.vale_syntax.specs.Options.{◌>>=◌}
use Rattle.vale_syntax.specs.inner.Parse.{Got, got, got_list, operator, Parser, leaf_parse, round_by, unary_node, others, arguments_by, arguments, name_by, atom_by, atom, indices_by, indices, minus_by, unary_by, unary, chain, rank_parse, parse}
use Rattle.vale_syntax.proofs.Grows.{chain_grows, indexed_grows, others_grow, spells_deep, atom_deep, spells_short}

-- how loosely a token holds on to an expression before it: 0 and 1 for brackets, then the operators by rank
unfoldable pub loose : Lookahead → ℕ
loose (see.Mark mark.RoundOpen) = 0
loose (see.Mark mark.SquareOpen) = 1
loose (see.Mark (mark.Binary o)) = suc (rank_of o)
loose _ = 8

pub rank_some : (o : BinaryOp) → 1 ≤ rank_of o
rank_some op.Mul = omega arith
rank_some op.Add = omega arith
rank_some op.Sub = omega arith
rank_some op.Eq = omega arith
rank_some op.Ne = omega arith
rank_some op.Lt = omega arith
rank_some op.Le = omega arith
rank_some op.Gt = omega arith
rank_some op.Ge = omega arith
rank_some op.And = omega arith
rank_some op.Or = omega arith
rank_some op.Implies = omega arith

-- an operator that may follow an operation binds more loosely than the operation's right side
follows : (o p : BinaryOp) → rank_of p ≡ again_of o → right_of o < rank_of p
follows op.Mul p h = let g = rank_some p in omega (arith, h, g)
follows op.Add p h = let g = rank_some p in omega (arith, h, g)
follows op.Sub p h = let g = rank_some p in omega (arith, h, g)
follows op.Eq p h = let g = rank_some p in omega (arith, h, g)
follows op.Ne p h = let g = rank_some p in omega (arith, h, g)
follows op.Lt p h = let g = rank_some p in omega (arith, h, g)
follows op.Le p h = let g = rank_some p in omega (arith, h, g)
follows op.Gt p h = let g = rank_some p in omega (arith, h, g)
follows op.Ge p h = let g = rank_some p in omega (arith, h, g)
follows op.And p h = let g = rank_some p in omega (arith, h, g)
follows op.Or p h = let g = rank_some p in omega (arith, h, g)
follows op.Implies p h = let g = rank_some p in omega (arith, h, g)

right_tight : (o : BinaryOp) → right_of o ≤ rank_of o
right_tight op.Mul = omega arith
right_tight op.Add = omega arith
right_tight op.Sub = omega arith
right_tight op.Eq = omega arith
right_tight op.Ne = omega arith
right_tight op.Lt = omega arith
right_tight op.Le = omega arith
right_tight op.Gt = omega arith
right_tight op.Ge = omega arith
right_tight op.And = omega arith
right_tight op.Or = omega arith
right_tight op.Implies = omega arith

again_tight : (o : BinaryOp) → again_of o ≤ rank_of o
again_tight op.Mul = omega arith
again_tight op.Add = omega arith
again_tight op.Sub = omega arith
again_tight op.Eq = omega arith
again_tight op.Ne = omega arith
again_tight op.Lt = omega arith
again_tight op.Le = omega arith
again_tight op.Gt = omega arith
again_tight op.Ge = omega arith
again_tight op.And = omega arith
again_tight op.Or = omega arith
again_tight op.Implies = omega arith

-- a token that holds more loosely than a rank is no operator of the rank
no_operator : (r : ℕ) (f : Lookahead) → suc r < loose f → operator r f ≡ None
unfolding loose
no_operator r (see.Mark (mark.Binary o)) h = by_test (rank_of o == r) refl
  where
    by_test : (t : Bool) → (rank_of o == r) ≡ t → cond t (Some o) None ≡ None
    by_test true e = let g = eqb-true _ _ e in absurd (omega (arith, h, g))
    by_test false e = refl
no_operator r (see.Mark mark.RoundOpen) h = refl
no_operator r (see.Mark mark.RoundClose) h = refl
no_operator r (see.Mark mark.SquareOpen) h = refl
no_operator r (see.Mark mark.SquareClose) h = refl
no_operator r (see.Mark mark.BraceOpen) h = refl
no_operator r (see.Mark mark.BraceClose) h = refl
no_operator r (see.Mark mark.Comma) h = refl
no_operator r (see.Mark mark.Semicolon) h = refl
no_operator r (see.Mark mark.Colon) h = refl
no_operator r (see.Mark mark.Equals) h = refl
no_operator r (see.Mark mark.Assign) h = refl
no_operator r (see.Mark mark.Bang) h = refl
no_operator r (see.Mark mark.At) h = refl
no_operator r see.End h = refl
no_operator r see.Name h = refl
no_operator r see.Stamped h = refl
no_operator r (see.Int n) h = refl
no_operator r (see.Word n) h = refl
no_operator r (see.Wide n) h = refl
no_operator r (see.Keyword k) h = refl

the_operator : (r : ℕ) (f : Lookahead) (o : BinaryOp) → f ≡ see.Mark (mark.Binary o) → rank_of o ≡ r → operator r f ≡ Some o
the_operator r f o p q = ap (operator r) p ∙ ap (λ t. cond t (Some o) None) (eq-eqb (rank_of o) r q)

loose_operator : (f : Lookahead) (o : BinaryOp) → f ≡ see.Mark (mark.Binary o) → loose f ≡ suc (rank_of o)
unfolding loose
loose_operator f o p = ap loose p

loose_mark : (f : Lookahead) (m : Mark) (n : ℕ) → f ≡ see.Mark m → n < loose (see.Mark m) → n < loose f
loose_mark f m n p h = subst (λ x. n < loose x) (sym p) h

-- what stands behind the left side of a chain, and behind a right side
behind_left : {r : ℕ} {s : Spot} {d : ℕ} {x : Ex} {ts : List Token} {e : ℕ} {y : Ex} {rest : List Token} → Chain (suc r) s d x ts e y rest → suc (suc r) < loose (peek rest) → suc r < loose (peek ts)
behind_left chain_end h = omega (arith, h)
behind_left (operation {ts = ts} o p q g t) h = let e = loose_operator (peek ts) o p in omega (arith, q, e)

behind_right : {s : Spot} {d : ℕ} {x : Ex} {ts : List Token} {e : ℕ} {y : Ex} {rest : List Token} (o : BinaryOp) (r : ℕ) → r ≡ again_of o → Chain r s d x ts e y rest → suc (rank_of o) < loose (peek rest) → suc (right_of o) < loose (peek ts)
behind_right o r k chain_end h = let g = right_tight o in omega (arith, h, g)
behind_right o r k (operation {ts = ts} p e q g t) h = let f = follows o p (q ∙ k) in let l = loose_operator (peek ts) p e in omega (arith, f, l)

behind_indexed : {s : Spot} {d : ℕ} {x : Ex} {ts : List Token} {e : ℕ} {y : Ex} {rest : List Token} → Indices s d x ts e y rest → 1 < loose (peek rest) → 0 < loose (peek ts)
unfolding loose
behind_indexed index_end h = omega (arith, h)
behind_indexed (index {ts = ts} p g q t) h = loose_mark (peek ts) mark.SquareOpen 0 p (omega arith)

behind_argument : {d : ℕ} {xs : Exs} {ts : List Token} {e : ℕ} {ys : Exs} {rest : List Token} → Others d xs ts e ys rest → suc any < loose (peek ts)
unfolding loose
behind_argument (others_end {ts = ts} p) = loose_mark (peek ts) mark.RoundClose 7 p (omega arith)
behind_argument (others_more {ts = ts} p h t) = loose_mark (peek ts) mark.Comma 7 p (omega arith)

bound : {A B : Type 0} (o : Option A) (x : A) (f : A → Option B) (y : Option B) → o ≡ Some x → f x ≡ y → (o >>= f) ≡ y
bound o x f y p q = ap (λ o. o >>= f) p ∙ q

-- an atom begins with no prefix operator and no closing bracket
pub is_atom_start : Lookahead → Bool
is_atom_start (see.Mark mark.RoundOpen) = true
is_atom_start (see.Mark _) = false
is_atom_start _ = true

pub is_start : Lookahead → Bool
is_start (see.Mark mark.RoundClose) = false
is_start _ = true

starts_leaf : (f : Lookahead) (ts : List Token) (x : Ex) → leaf_by f ts ≡ Some x → is_atom_start f ≡ true
unfolding is_atom_start
starts_leaf (see.Mark m) ts x h = absurd cc
starts_leaf see.End ts x h = refl
starts_leaf see.Name ts x h = refl
starts_leaf see.Stamped ts x h = refl
starts_leaf (see.Int n) ts x h = refl
starts_leaf (see.Word n) ts x h = refl
starts_leaf (see.Wide n) ts x h = refl
starts_leaf (see.Keyword k) ts x h = refl

starts_atom : {d : ℕ} {ts : List Token} {x : Ex} {rest : List Token} → Atom d ts x rest → is_atom_start (peek ts) ≡ true
unfolding is_atom_start leaf
starts_atom (token {ts = ts} {x = x} h) = starts_leaf (peek ts) ts x h
starts_atom (call p q h) = ap is_atom_start p
starts_atom (brackets p h q) = ap is_atom_start p

start_of_atom : (f : Lookahead) → is_atom_start f ≡ true → is_start f ≡ true
unfolding is_atom_start is_start
start_of_atom (see.Mark mark.RoundOpen) h = refl
start_of_atom (see.Mark _) h = absurd (false≢true h)
start_of_atom _ h = refl

starts : {r d : ℕ} {ts : List Token} {x : Ex} {rest : List Token} → Spells r d ts x rest → is_start (peek ts) ≡ true
unfolding is_start
starts (not_ p h) = ap is_start p
starts (negative p q) = ap is_start p
starts (minus p q h) = ap is_start p
starts (postfix {ts = ts} a i) = start_of_atom (peek ts) (starts_atom a)
starts (operations h t) = starts h

unary_atom : (sub : Parser) (b : ℕ) (f : Lookahead) (ts : List Token) → is_atom_start f ≡ true → unary_by sub b f ts ≡ (atom sub ts >>= indices sub b (suc b) (spot_of ts))
unfolding is_atom_start
unary_atom sub b (see.Mark mark.RoundOpen) ts h = refl
unary_atom sub b (see.Mark _) ts h = absurd (false≢true h)
unary_atom sub b _ ts h = refl

alone_is : (ts : List Token) (x : Ex) → leaf ts ≡ Some x → leaf_parse (leaf ts) ts ≡ Some (got x 1 (drop 1 ts))
alone_is ts x h = ap (λ o. leaf_parse o ts) h

named_leaf : (sub : Parser) (f : Lookahead) (ts : List Token) (x : Ex) → 0 < loose f → leaf ts ≡ Some x → name_by sub f ts ≡ Some (got x 1 (drop 1 ts))
unfolding loose
named_leaf sub (see.Mark mark.RoundOpen) ts x h k = absurd (omega (arith, h))
named_leaf sub _ ts x h k = alone_is ts x k

atom_leaf : (sub : Parser) (f : Lookahead) (ts : List Token) (x : Ex) → 0 < loose (peek (drop 1 ts)) → leaf ts ≡ Some x → leaf_by f ts ≡ Some x → atom_by sub f ts ≡ Some (got x 1 (drop 1 ts))
atom_leaf sub (see.Mark mark.RoundOpen) ts x h k l = absurd cc
atom_leaf sub see.Name ts x h k l = named_leaf sub (peek (drop 1 ts)) ts x h k
atom_leaf sub _ ts x h k l = alone_is ts x k

arguments_some : (sub : Parser) (f : Lookahead) (ts : List Token) → is_start f ≡ true → arguments_by sub f ts ≡ (sub any ts >>= λ g. others sub (length ts) (more g.tree none) g.height g.rest)
unfolding is_start
arguments_some sub (see.Mark mark.RoundClose) ts h = absurd (false≢true h)
arguments_some sub _ ts h = refl

mark_some : (ts : List Token) (m : Mark) → peek ts ≡ see.Mark m → 1 ≤ length ts
unfolding peek
mark_some [] m h = absurd cc
mark_some (t ∷ ts) m h = omega arith

-- no turn is left only where the depth is at its limit
chain_none : (sub : Parser) (b n r : ℕ) (s : Spot) (g : Got) → suc r < loose (peek g.rest) → chain sub b n r s g ≡ Some g
unfolding chain
chain_none sub b zero r s g h = refl
chain_none sub b (suc n) r s g h = rw (no_operator r (peek g.rest) h) refl

chain_next : (sub : Parser) (b n r : ℕ) (s : Spot) (d : ℕ) (x : Ex) (ts : List Token) (o : BinaryOp) (h : Got) → peek ts ≡ see.Mark (mark.Binary o) → rank_of o ≡ r → d ≤ b → sub (right_of o) (drop 1 ts) ≡ Some h
    → chain sub b (suc n) r s (got x d ts) ≡ chain sub b n (again_of o) s (got (Binary s o x h.tree) (suc (max d h.height)) h.rest)
unfolding chain
chain_next sub b n r s d x ts o h p q k e = rw (the_operator r (peek ts) o p q, le-leb d b k, e) refl

index_none : (sub : Parser) (b n : ℕ) (s : Spot) (g : Got) → 1 < loose (peek g.rest) → indices sub b n s g ≡ Some g
unfolding indices loose
index_none sub b zero s g h = refl
index_none sub b (suc n) s g h = by_peek (peek g.rest) h _
  where
    by_peek : (f : Lookahead) → 1 < loose f → (go : Option Got) → indices_by f b g go ≡ Some g
    by_peek (see.Mark mark.SquareOpen) h go = absurd (omega (arith, h))
    by_peek _ h go = refl

index_next : (sub : Parser) (b n : ℕ) (s : Spot) (d : ℕ) (x : Ex) (ts : List Token) (h : Got) → peek ts ≡ see.Mark mark.SquareOpen → d ≤ b → sub any (drop 1 ts) ≡ Some h → peek h.rest ≡ see.Mark mark.SquareClose
    → indices sub b (suc n) s (got x d ts) ≡ indices sub b n s (got (Index s x h.tree) (suc (max d h.height)) (drop 1 h.rest))
unfolding indices
index_next sub b n s d x ts h p k e q = rw (p, le-leb d b k, e, q) refl

others_last : (sub : Parser) (n d : ℕ) (xs : Exs) (ts : List Token) → peek ts ≡ see.Mark mark.RoundClose → others sub (suc n) xs d ts ≡ Some (got_list xs d (drop 1 ts))
unfolding others
others_last sub n d xs ts p = rw p refl

others_next : (sub : Parser) (n d : ℕ) (xs : Exs) (ts : List Token) (h : Got) → peek ts ≡ see.Mark mark.Comma → sub any (drop 1 ts) ≡ Some h
    → others sub (suc n) xs d ts ≡ others sub n (with_last xs h.tree) (max d h.height) h.rest
unfolding others
others_next sub n d xs ts h p e = rw (p, e) refl

-- a part, with a limit one lower
part_found : {r d : ℕ} (ts : List Token) {x : Ex} {rest : List Token} → 1 ≤ d → ((b : ℕ) → d ≤ suc b → suc r < loose (peek rest) → rank_parse (parse b) b r ts ≡ Some (got x d rest))
    → (b : ℕ) → d ≤ b → suc r < loose (peek rest) → parse b r ts ≡ Some (got x d rest)
unfolding parse
part_found ts deep found zero k l = absurd (omega (arith, deep, k))
part_found ts deep found (suc b) k l = found b k l

mutual
  unfolding rank_parse unary atom leaf arguments others loose

  spells_found : {r d : ℕ} {ts : List Token} {x : Ex} {rest : List Token} → Spells r d ts x rest → (b : ℕ) → d ≤ suc b → suc r < loose (peek rest) → rank_parse (parse b) b r ts ≡ Some (got x d rest)
  spells_found (not_ {ts = ts} {x = x} {rest = rest} p h) b k l =
      ap (λ f. unary_by (parse b) b f ts) p ∙ bound (parse b 0 (drop 1 ts)) _ (unary_node (spot_of ts) Not) _ (part_found _ (spells_deep h) (spells_found h) b (omega (arith, k)) l) refl
  spells_found (negative {ts = ts} p q) b k l = ap (λ f. unary_by (parse b) b f ts) p ∙ ap (λ o. minus_by (parse b) o ts) q
  spells_found (minus {ts = ts} p q h) b k l =
      ap (λ f. unary_by (parse b) b f ts) p ∙ ap (λ o. minus_by (parse b) o ts) q
      ∙ bound (parse b 0 (drop 1 ts)) _ (unary_node (spot_of ts) Neg) _ (part_found _ (spells_deep h) (spells_found h) b (omega (arith, k)) l) refl
  spells_found (postfix {d = d} {ts = ts} {mid = mid} {x = x} a i) b k l =
      let g = indexed_grows i in
      let deep = atom_deep a in
      unary_atom (parse b) b (peek ts) ts (starts_atom a)
      ∙ bound (atom (parse b) ts) (got x d mid) (indices (parse b) b (suc b) (spot_of ts)) _ (atom_found a b (omega (arith, g, k)) (behind_indexed i l))
      (indexed_found i b (suc b) k (omega (arith, deep)) l)
  spells_found (operations {r = r} {d = d} {ts = ts} {mid = mid} {x = x} h t) b k l =
      let g = chain_grows t in
      let deep = spells_deep h in
      bound (rank_parse (parse b) b r ts) (got x d mid) (chain (parse b) b (suc b) (suc r) (spot_of ts)) _ (spells_found h b (omega (arith, g, k)) (behind_left t l))
      (chain_found t b (suc b) k (omega (arith, deep)) l)

  chain_found : {r : ℕ} {s : Spot} {d : ℕ} {x : Ex} {ts : List Token} {e : ℕ} {y : Ex} {rest : List Token} → Chain r s d x ts e y rest → (b n : ℕ) → e ≤ suc b → suc (suc b) ≤ n + d → suc r < loose (peek rest)
      → chain (parse b) b n r s (got x d ts) ≡ Some (got y e rest)
  chain_found {r = r} {s = s} {d = d} {x = x} {ts = ts} chain_end b n k m l = chain_none (parse b) b n r s (got x d ts) l
  chain_found {r = r} (operation o p q h t) b zero k m l = let g = chain_grows t in absurd (omega (arith, g, k, m))
  chain_found {r = r} {s = s} {d = d} {x = x} {ts = ts} {rest = rest} (operation {mid = mid} {e = e} {y = y} o p q h t) b (suc n) k m l =
      let g = chain_grows t in
      let tight = again_tight o in
      let l' : suc (rank_of o) < loose (peek rest) = omega (arith, l, q) in
      chain_next (parse b) b n r s d x ts o (got y e mid) p q (omega (arith, g, k)) (part_found _ (spells_deep h) (spells_found h) b (omega (arith, g, k)) (behind_right o (again_of o) refl t l'))
      ∙ chain_found t b n k (omega (arith, m)) (omega (arith, l', tight))

  indexed_found : {s : Spot} {d : ℕ} {x : Ex} {ts : List Token} {e : ℕ} {y : Ex} {rest : List Token} → Indices s d x ts e y rest → (b n : ℕ) → e ≤ suc b → suc (suc b) ≤ n + d → 1 < loose (peek rest)
      → indices (parse b) b n s (got x d ts) ≡ Some (got y e rest)
  indexed_found {s = s} {d = d} {x = x} {ts = ts} index_end b n k m l = index_none (parse b) b n s (got x d ts) l
  indexed_found (index p h q t) b zero k m l = let g = indexed_grows t in absurd (omega (arith, g, k, m))
  indexed_found {s = s} {d = d} {x = x} {ts = ts} (index {mid = mid} {e = e} {i = i} p h q t) b (suc n) k m l =
      let g = indexed_grows t in
      let l' = loose_mark (peek mid) mark.SquareClose 7 q (omega arith) in
      index_next (parse b) b n s d x ts (got i e mid) p (omega (arith, g, k)) (part_found _ (spells_deep h) (spells_found h) b (omega (arith, g, k)) l') q
      ∙ indexed_found t b n k (omega (arith, m)) l

  atom_found : {d : ℕ} {ts : List Token} {x : Ex} {rest : List Token} → Atom d ts x rest → (b : ℕ) → d ≤ suc b → 0 < loose (peek rest) → atom (parse b) ts ≡ Some (got x d rest)
  atom_found (token {ts = ts} {x = x} h) b k l = atom_leaf (parse b) (peek ts) ts x l h h
  atom_found (call {d = d} {ts = ts} {xs = xs} {rest = rest} p q h) b k l =
      ap (λ f. atom_by (parse b) f ts) p ∙ ap (λ f. name_by (parse b) f ts) q
      ∙ bound (arguments (parse b) (drop 2 ts)) (got_list xs d rest) (λ g. Some (got (Call (name_of ts) g.trees) (suc g.height) g.rest)) _ (arguments_found h b (omega (arith, k))) refl
  atom_found (brackets {d = d} {ts = ts} {mid = mid} {x = x} p h q) b k l =
      let l' = loose_mark (peek mid) mark.RoundClose 7 q (omega arith) in
      ap (λ f. atom_by (parse b) f ts) p
      ∙ bound (parse b any (drop 1 ts)) (got x d mid) (λ g. round_by (peek g.rest) g) _ (part_found _ (spells_deep h) (spells_found h) b (omega (arith, k)) l') (ap (λ f. round_by f (got x d mid)) q)

  arguments_found : {d : ℕ} {ts : List Token} {xs : Exs} {rest : List Token} → Arguments d ts xs rest → (b : ℕ) → d ≤ b → arguments (parse b) ts ≡ Some (got_list xs d rest)
  arguments_found (no_arguments {ts = ts} p) b k = ap (λ f. arguments_by (parse b) f ts) p
  arguments_found (some_arguments {d = d} {ts = ts} {mid = mid} {x = x} h t) b k =
      let g = others_grow t in
      arguments_some (parse b) (peek ts) ts (starts h)
      ∙ bound (parse b any ts) (got x d mid) (λ g. others (parse b) (length ts) (more g.tree none) g.height g.rest) _ (part_found _ (spells_deep h) (spells_found h) b (omega (arith, g, k)) (behind_argument t))
      (others_found t b (length ts) k (spells_short h))

  others_found : {d : ℕ} {xs : Exs} {ts : List Token} {e : ℕ} {ys : Exs} {rest : List Token} → Others d xs ts e ys rest → (b n : ℕ) → e ≤ b → length ts ≤ n → others (parse b) n xs d ts ≡ Some (got_list ys e rest)
  others_found (others_end {ts = ts} p) b zero k m = let g = mark_some ts mark.RoundClose p in absurd (omega (arith, g, m))
  others_found (others_end {d = d} {xs = xs} {ts = ts} p) b (suc n) k m = others_last (parse b) n d xs ts p
  others_found (others_more {ts = ts} p h t) b zero k m = let g = mark_some ts mark.Comma p in absurd (omega (arith, g, m))
  others_found (others_more {d = d} {e = e} {xs = xs} {y = y} {ts = ts} {mid = mid} p h t) b (suc n) k m =
      let g = others_grow t in
      let short = spells_short h in
      let one = length-drop 1 ts in
      others_next (parse b) n d xs ts (got y e mid) p (part_found _ (spells_deep h) (spells_found h) b (omega (arith, g, k)) (behind_argument t))
      ∙ others_found t b n k (omega (arith, short, one, m))

-- what is spelled with a depth within the limit is found, where nothing that binds more tightly follows
pub found : {r d : ℕ} {ts : List Token} {x : Ex} {rest : List Token} → Spells r d ts x rest → (b : ℕ) → d ≤ b → suc r < loose (peek rest) → parse b r ts ≡ Some (got x d rest)
found h = part_found _ (spells_deep h) (spells_found h)
