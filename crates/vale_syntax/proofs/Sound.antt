-- What looking ahead finds is spelled.
use Rattle.std.proofs.Common.{◌≡◌, ℕ, zero, suc, ◌≤◌, max, Bool, true, false, cond, List, drop, length, Option, Some, None, refl, sym, ◌∙◌, ap, subst, arith}
use Rattle.std.specs.Prelude.{◌==◌, nat_le, ℤ, neg_ℤ}
use Rattle.std.proofs.lemmas.Bool.{leb-true, eqb-true}
use Rattle.std.proofs.lemmas.Option.{same_Some}
use Rattle.vale_syntax.specs.declared.token.Token.{Token}
use Rattle.vale_syntax.specs.declared.spot.Spot.{Spot}
use Rattle.vale_syntax.specs.declared.mark.Mark.TheVariants as mark
use Rattle.vale_syntax.specs.declared.mark.BinaryOp.{BinaryOp}
use Rattle.vale_syntax.specs.declared.mark.BinaryOp.TheVariants.{Sub}
use Rattle.vale_syntax.specs.declared.mark.UnaryOp.TheVariants.{Not, Neg}
use Rattle.vale_syntax.specs.declared.lookahead.Lookahead.{Lookahead}
use Rattle.vale_syntax.specs.declared.lookahead.Lookahead.TheVariants as see
use Rattle.vale_syntax.specs.Operators.{rank_of, any, right_of, again_of}
use Rattle.vale_syntax.specs.Peek.{peek, spot_of}
use Rattle.vale_syntax.specs.Trees.{Ex, Exs, none, more, with_last, Int, Call, Index, Unary, Binary}
use Rattle.vale_syntax.specs.Expressions.{name_of, leaf, minus_number, Spells, not_, negative, minus, postfix, operations, Chain, chain_end, operation, Indices, index_end, index, Atom, token, call, brackets, Arguments, no_arguments, some_arguments, Others, others_end, others_more as Others_next}
use Rattle.vale_syntax.specs.Options.{◌>>=◌}
use Rattle.vale_syntax.specs.inner.Parse.{Got, GotList, got, got_list, operator, Parser, leaf_parse, round_by, unary_node, square_by, others_by, others, arguments_by, arguments, name_by, atom_by, atom, indices_by, indices, minus_by, unary_by, unary, chain_by, chain, rank_parse, parse}

pub bind_some : {A B : Type 0} (o : Option A) (f : A → Option B) (y : B) → (o >>= f) ≡ Some y → (x : A) × (o ≡ Some x) × (f x ≡ Some y)
bind_some (Some x) f y h = (x, refl, h)
bind_some None f y h = absurd cc

-- what parts the parser finds is spelled, with a depth of at most b
IsSound : ℕ → Parser → Type 0
IsSound b sub = (r : ℕ) (ts : List Token) (g : Got) → sub r ts ≡ Some g → (g.height ≤ b) × Spells r g.height ts g.tree g.rest

ChainTo : ℕ → ℕ → Spot → ℕ → Ex → List Token → Got → Type 0
ChainTo b r s d x ts g = (g.height ≤ suc b) × Chain r s d x ts g.height g.tree g.rest

IndexedTo : ℕ → Spot → ℕ → Ex → List Token → Got → Type 0
IndexedTo b s d x ts g = (g.height ≤ suc b) × Indices s d x ts g.height g.tree g.rest

AtomTo : ℕ → List Token → Got → Type 0
AtomTo b ts g = (g.height ≤ suc b) × Atom g.height ts g.tree g.rest

OthersTo : ℕ → ℕ → Exs → List Token → GotList → Type 0
OthersTo b d xs ts g = (g.height ≤ b) × Others d xs ts g.height g.trees g.rest

ArgumentsTo : ℕ → List Token → GotList → Type 0
ArgumentsTo b ts g = (g.height ≤ b) × Arguments g.height ts g.trees g.rest

UnaryTo : ℕ → List Token → Got → Type 0
UnaryTo b ts g = (g.height ≤ suc b) × Spells 0 g.height ts g.tree g.rest

operator_is : (r : ℕ) (f : Lookahead) (o : BinaryOp) → operator r f ≡ Some o → (f ≡ see.Mark (mark.Binary o)) × (rank_of o ≡ r)
operator_is r (see.Mark (mark.Binary p)) o h = by_test (rank_of p == r) refl h
  where
    by_test : (t : Bool) → (rank_of p == r) ≡ t → cond t (Some p) None ≡ Some o → (see.Mark (mark.Binary p) ≡ see.Mark (mark.Binary o)) × (rank_of o ≡ r)
    by_test true e h = let q = same_Some p o h in (ap (λ o. see.Mark (mark.Binary o)) q, ap rank_of (sym q) ∙ eqb-true _ _ e)
    by_test false e h = absurd cc
operator_is r _ o h = absurd cc

squared_is : (f : Lookahead) (o : Option Got) (g : Got) → square_by f o ≡ Some g → (f ≡ see.Mark mark.SquareClose) × (o ≡ Some g)
squared_is (see.Mark mark.SquareClose) o g h = (refl, h)
squared_is _ o g h = absurd cc

bracketed_is : (f : Lookahead) (y g : Got) → round_by f y ≡ Some g → (f ≡ see.Mark mark.RoundClose) × (got y.tree (suc y.height) (drop 1 y.rest) ≡ g)
bracketed_is (see.Mark mark.RoundClose) y g h = (refl, same_Some _ g h)
bracketed_is _ y g h = absurd cc

-- an operation, and what follows it
chain_step : (sub : Parser) (b : ℕ) (r : ℕ) (s : Spot) (d : ℕ) (x : Ex) (ts : List Token) (g : Got) (go : BinaryOp → Got → Option Got) → IsSound b sub → d ≤ suc b
    → ((o : BinaryOp) (y : Got) → suc (max d y.height) ≤ suc b → go o y ≡ Some g → ChainTo b (again_of o) s (suc (max d y.height)) (Binary s o x y.tree) y.rest g)
    → chain_by (operator r (peek ts)) b (got x d ts) (λ o. sub (right_of o) (drop 1 ts) >>= go o) ≡ Some g → ChainTo b r s d x ts g
unfolding IsSound ChainTo
chain_step sub b r s d x ts g go sound k next h = by_operator (operator r (peek ts)) refl h
  where
    by_room : (o : BinaryOp) (t : Bool) → operator r (peek ts) ≡ Some o → nat_le d b ≡ t → cond t (sub (right_of o) (drop 1 ts) >>= go o) None ≡ Some g → ChainTo b r s d x ts g
    by_room o false e l h = absurd cc
    by_room o true e l h =
        let (y, p, q) = bind_some (sub (right_of o) (drop 1 ts)) (go o) g h in
        let i = operator_is r (peek ts) o e in
        let part = sound (right_of o) (drop 1 ts) y p in
        let m = leb-true d b l in
        let n = part.0 in
        let rest = next o y (omega (arith, m, n)) q in
        (rest.0, operation o i.0 i.1 part.1 rest.1)

    by_operator : (o : Option BinaryOp) → operator r (peek ts) ≡ o → chain_by o b (got x d ts) (λ o. sub (right_of o) (drop 1 ts) >>= go o) ≡ Some g → ChainTo b r s d x ts g
    by_operator None e h = subst (ChainTo b r s d x ts) (same_Some (got x d ts) g h) (k, chain_end)
    by_operator (Some o) e h = by_room o (nat_le d b) e refl h

chain_sound : (sub : Parser) (b n r : ℕ) (s : Spot) (d : ℕ) (x : Ex) (ts : List Token) (g : Got) → IsSound b sub → d ≤ suc b → chain sub b n r s (got x d ts) ≡ Some g → ChainTo b r s d x ts g
unfolding chain ChainTo
chain_sound sub b zero r s d x ts g sound k h = subst (ChainTo b r s d x ts) (same_Some (got x d ts) g h) (k, chain_end)
chain_sound sub b (suc n) r s d x ts g sound k h =
    chain_step sub b r s d x ts g (λ o y. chain sub b n (again_of o) s (got (Binary s o x y.tree) (suc (max d y.height)) y.rest)) sound k
    (λ o y l e. chain_sound sub b n (again_of o) s (suc (max d y.height)) (Binary s o x y.tree) y.rest g sound l e) h

index_step : (sub : Parser) (b : ℕ) (s : Spot) (d : ℕ) (x : Ex) (ts : List Token) (g : Got) (go : Got → Option Got) → IsSound b sub → d ≤ suc b
    → ((y : Got) → suc (max d y.height) ≤ suc b → go y ≡ Some g → IndexedTo b s (suc (max d y.height)) (Index s x y.tree) (drop 1 y.rest) g)
    → (f : Lookahead) → peek ts ≡ f → indices_by f b (got x d ts) (sub any (drop 1 ts) >>= λ y. square_by (peek y.rest) (go y)) ≡ Some g → IndexedTo b s d x ts g
unfolding IsSound IndexedTo
index_step sub b s d x ts g go sound k next (see.Mark mark.SquareOpen) e h = by_room (nat_le d b) refl h
  where
    by_room : (t : Bool) → nat_le d b ≡ t → cond t (sub any (drop 1 ts) >>= λ y. square_by (peek y.rest) (go y)) None ≡ Some g → IndexedTo b s d x ts g
    by_room false l h = absurd cc
    by_room true l h =
        let (y, p, q) = bind_some (sub any (drop 1 ts)) (λ y. square_by (peek y.rest) (go y)) g h in
        let i = squared_is (peek y.rest) (go y) g q in
        let part = sound any (drop 1 ts) y p in
        let m = leb-true d b l in
        let n = part.0 in
        let rest = next y (omega (arith, m, n)) i.1 in
        (rest.0, index e part.1 i.0 rest.1)
index_step sub b s d x ts g go sound k next _ e h = subst (IndexedTo b s d x ts) (same_Some (got x d ts) g h) (k, index_end)

indexed_sound : (sub : Parser) (b n : ℕ) (s : Spot) (d : ℕ) (x : Ex) (ts : List Token) (g : Got) → IsSound b sub → d ≤ suc b → indices sub b n s (got x d ts) ≡ Some g → IndexedTo b s d x ts g
unfolding indices IndexedTo
indexed_sound sub b zero s d x ts g sound k h = subst (IndexedTo b s d x ts) (same_Some (got x d ts) g h) (k, index_end)
indexed_sound sub b (suc n) s d x ts g sound k h =
    index_step sub b s d x ts g (λ y. indices sub b n s (got (Index s x y.tree) (suc (max d y.height)) (drop 1 y.rest))) sound k
    (λ y l e. indexed_sound sub b n s (suc (max d y.height)) (Index s x y.tree) (drop 1 y.rest) g sound l e) (peek ts) refl h

others_step : (sub : Parser) (b d : ℕ) (xs : Exs) (ts : List Token) (g : GotList) (go : Got → Option GotList) → IsSound b sub → d ≤ b
    → ((y : Got) → max d y.height ≤ b → go y ≡ Some g → OthersTo b (max d y.height) (with_last xs y.tree) y.rest g)
    → (f : Lookahead) → peek ts ≡ f → others_by f xs d ts (sub any (drop 1 ts) >>= go) ≡ Some g → OthersTo b d xs ts g
unfolding IsSound OthersTo
others_step sub b d xs ts g go sound k next (see.Mark mark.RoundClose) e h = subst (OthersTo b d xs ts) (same_Some (got_list xs d (drop 1 ts)) g h) (k, others_end e)
others_step sub b d xs ts g go sound k next (see.Mark mark.Comma) e h =
    let (y, p, q) = bind_some (sub any (drop 1 ts)) go g h in
    let part = sound any (drop 1 ts) y p in
    let n = part.0 in
    let rest = next y (omega (arith, k, n)) q in
    (rest.0, Others_next e part.1 rest.1)
others_step sub b d xs ts g go sound k next _ e h = absurd cc

others_sound : (sub : Parser) (b n d : ℕ) (xs : Exs) (ts : List Token) (g : GotList) → IsSound b sub → d ≤ b → others sub n xs d ts ≡ Some g → OthersTo b d xs ts g
unfolding others
others_sound sub b zero d xs ts g sound k h = absurd cc
others_sound sub b (suc n) d xs ts g sound k h =
    others_step sub b d xs ts g (λ y. others sub n (with_last xs y.tree) (max d y.height) y.rest) sound k
    (λ y l e. others_sound sub b n (max d y.height) (with_last xs y.tree) y.rest g sound l e) (peek ts) refl h

arguments_sound : (sub : Parser) (b : ℕ) (ts : List Token) (g : GotList) → IsSound b sub → (f : Lookahead) → peek ts ≡ f → arguments_by sub f ts ≡ Some g → ArgumentsTo b ts g
unfolding IsSound ArgumentsTo OthersTo
arguments_sound sub b ts g sound (see.Mark mark.RoundClose) e h = subst (ArgumentsTo b ts) (same_Some (got_list none 0 (drop 1 ts)) g h) (omega arith, no_arguments e)
arguments_sound sub b ts g sound _ e h =
    let (y, p, q) = bind_some (sub any ts) (λ y. others sub (length ts) (more y.tree none) y.height y.rest) g h in
    let part = sound any ts y p in
    let rest = others_sound sub b (length ts) y.height (more y.tree none) y.rest g sound part.0 q in
    (rest.0, some_arguments part.1 rest.1)

alone_sound : (b : ℕ) (ts : List Token) (g : Got) (o : Option Ex) → leaf ts ≡ o → leaf_parse o ts ≡ Some g → AtomTo b ts g
unfolding AtomTo
alone_sound b ts g None e h = absurd cc
alone_sound b ts g (Some x) e h = subst (AtomTo b ts) (same_Some (got x 1 (drop 1 ts)) g h) (omega arith, token e)

named_sound : (sub : Parser) (b : ℕ) (ts : List Token) (g : Got) → IsSound b sub → peek ts ≡ see.Name → (f : Lookahead) → peek (drop 1 ts) ≡ f → name_by sub f ts ≡ Some g → AtomTo b ts g
unfolding AtomTo ArgumentsTo arguments
named_sound sub b ts g sound p (see.Mark mark.RoundOpen) e h =
    let (y, q, i) = bind_some (arguments sub (drop 2 ts)) (λ y. Some (got (Call (name_of ts) y.trees) (suc y.height) y.rest)) g h in
    let args = arguments_sound sub b (drop 2 ts) y sound (peek (drop 2 ts)) refl q in
    let n = args.0 in
    subst (AtomTo b ts) (same_Some (got (Call (name_of ts) y.trees) (suc y.height) y.rest) g i) (omega (arith, n), call p e args.1)
named_sound sub b ts g sound p _ e h = alone_sound b ts g (leaf ts) refl h

atom_sound : (sub : Parser) (b : ℕ) (ts : List Token) (g : Got) → IsSound b sub → (f : Lookahead) → peek ts ≡ f → atom_by sub f ts ≡ Some g → AtomTo b ts g
unfolding AtomTo IsSound
atom_sound sub b ts g sound (see.Mark mark.RoundOpen) e h =
    let (y, p, q) = bind_some (sub any (drop 1 ts)) (λ y. round_by (peek y.rest) y) g h in
    let i = bracketed_is (peek y.rest) y g q in
    let part = sound any (drop 1 ts) y p in
    let n = part.0 in
    subst (AtomTo b ts) i.1 (omega (arith, n), brackets e part.1 i.0)
atom_sound sub b ts g sound see.Name e h = named_sound sub b ts g sound e (peek (drop 1 ts)) refl h
atom_sound sub b ts g sound _ e h = alone_sound b ts g (leaf ts) refl h

minus_sound : (sub : Parser) (b : ℕ) (ts : List Token) (g : Got) → IsSound b sub → peek ts ≡ see.Mark (mark.Binary Sub) → (o : Option ℤ) → minus_number ts ≡ o → minus_by sub o ts ≡ Some g → UnaryTo b ts g
unfolding UnaryTo IsSound
minus_sound sub b ts g sound e (Some z) i h = subst (UnaryTo b ts) (same_Some (got (Int (spot_of ts) (neg_ℤ z)) 1 (drop 2 ts)) g h) (omega arith, negative e i)
minus_sound sub b ts g sound e None i h =
    let (y, p, q) = bind_some (sub 0 (drop 1 ts)) (unary_node (spot_of ts) Neg) g h in
    let part = sound 0 (drop 1 ts) y p in
    let n = part.0 in
    subst (UnaryTo b ts) (same_Some (got (Unary (spot_of ts) Neg y.tree) (suc y.height) y.rest) g q) (omega (arith, n), minus e i part.1)

unary_sound : (sub : Parser) (b : ℕ) (ts : List Token) (g : Got) → IsSound b sub → (f : Lookahead) → peek ts ≡ f → unary_by sub b f ts ≡ Some g → UnaryTo b ts g
unfolding UnaryTo AtomTo IndexedTo IsSound atom
unary_sound sub b ts g sound (see.Mark mark.Bang) e h =
    let (y, p, q) = bind_some (sub 0 (drop 1 ts)) (unary_node (spot_of ts) Not) g h in
    let part = sound 0 (drop 1 ts) y p in
    let n = part.0 in
    subst (UnaryTo b ts) (same_Some (got (Unary (spot_of ts) Not y.tree) (suc y.height) y.rest) g q) (omega (arith, n), not_ e part.1)
unary_sound sub b ts g sound (see.Mark (mark.Binary Sub)) e h = minus_sound sub b ts g sound e (minus_number ts) refl h
unary_sound sub b ts g sound _ e h =
    let (y, p, q) = bind_some (atom sub ts) (indices sub b (suc b) (spot_of ts)) g h in
    let a = atom_sound sub b ts y sound (peek ts) refl p in
    let i = indexed_sound sub b (suc b) (spot_of ts) y.height y.tree y.rest g sound a.0 q in
    (i.0, postfix a.1 i.1)

ranked_sound : (sub : Parser) (b r : ℕ) (ts : List Token) (g : Got) → IsSound b sub → rank_parse sub b r ts ≡ Some g → (g.height ≤ suc b) × Spells r g.height ts g.tree g.rest
unfolding rank_parse unary UnaryTo ChainTo
ranked_sound sub b zero ts g sound h = unary_sound sub b ts g sound (peek ts) refl h
ranked_sound sub b (suc r) ts g sound h =
    let (y, p, q) = bind_some (rank_parse sub b r ts) (chain sub b (suc b) (suc r) (spot_of ts)) g h in
    let part = ranked_sound sub b r ts y sound p in
    let rest = chain_sound sub b (suc b) (suc r) (spot_of ts) y.height y.tree y.rest g sound part.0 q in
    (rest.0, operations part.1 rest.1)

-- what is found is spelled, with a depth within the limit
pub sound : (b r : ℕ) (ts : List Token) (g : Got) → parse b r ts ≡ Some g → (g.height ≤ b) × Spells r g.height ts g.tree g.rest
unfolding parse IsSound
sound zero r ts g h = absurd cc
sound (suc b) r ts g h = ranked_sound (parse b) b r ts g (sound b) h
