-- Arguments that are spelled are found.
use Rattle.std.proofs.Common.{◌≡◌, ℕ, suc, ◌<◌, ◌≤◌, Bool, true, false, cond, List, length, drop, length-drop, Some, refl, sym, ◌∙◌, ap, subst, arith}
use Rattle.std.specs.Prelude.{◌&&◌}
use Rattle.std.specs.List.{list_all}
use Rattle.std.proofs.lemmas.Bool.{and_parts, false≢true}
use Rattle.vale_syntax.specs.declared.token.Token.{Token}
use Rattle.vale_syntax.specs.declared.mark.Mark.TheVariants as mark
use Rattle.vale_syntax.specs.declared.lookahead.Lookahead.{Lookahead}
use Rattle.vale_syntax.specs.declared.lookahead.Lookahead.TheVariants as see
use Rattle.vale_syntax.specs.declared.spot.Spot.{Spot}
use Rattle.vale_syntax.specs.Operators.{any}
use Rattle.vale_syntax.specs.Peek.{peek}
use Rattle.vale_syntax.specs.Trees.{Ex}
use Rattle.vale_syntax.specs.Expressions.{name_of, leaf_by, leaf, Spells, not_, negative, minus, postfix, operations, Chain, chain_end, operation, Indices, index_end, index, token, call, brackets}
use Rattle.vale_syntax.specs.Programs.{Ar, Memory, Value}
use Rattle.vale_syntax.specs.Statements.{is_plain, tokens_before, Expression, Argument, memory, value}
use Rattle.vale_syntax.proofs.Complete.{loose}
use Rattle.vale_syntax.proofs.Grows.{chain_grows, indexed_grows}
use Rattle.vale_parser.specs.inner.Productions.{expression}
use Rattle.vale_syntax.specs.inner.Marks.{is_mark}
use Rattle.vale_parser.specs.inner.Parts.{bind as and_then, expect, before, comma_list}
use Rattle.vale_parser.specs.inner.Productions.{only_if, is_name, memory_at, value_at, argument_by, argument}
use Rattle.vale_parser.proofs.Sound.{is_name_is}
use Rattle.vale_syntax.proofs.MarkTests.{peek_is}
use Rattle.vale_parser.proofs.Parts.{bound, expect_found, separated_found, separated_short}
use Rattle.vale_parser.proofs.Found.{dd, Ends, expression_front_found, expression_found, expression_short}

leaf_starts : (f : Lookahead) (ts : List Token) (x : Ex) → leaf_by f ts ≡ Some x → is_mark mark.RoundClose f ≡ false
leaf_starts (see.Mark m) ts x h = absurd cc
leaf_starts _ ts x h = refl

spelled_starts : {r d : ℕ} {ts : List Token} {x : Ex} {rest : List Token} → Spells r d ts x rest → is_mark mark.RoundClose (peek ts) ≡ false
unfolding leaf
spelled_starts (not_ p h) = ap (is_mark mark.RoundClose) p
spelled_starts (negative p q) = ap (is_mark mark.RoundClose) p
spelled_starts (minus p q h) = ap (is_mark mark.RoundClose) p
spelled_starts (postfix (token {ts = ts} {x = x} h) i) = leaf_starts (peek ts) ts x h
spelled_starts (postfix (call p q h) i) = ap (is_mark mark.RoundClose) p
spelled_starts (postfix (brackets p h q) i) = ap (is_mark mark.RoundClose) p
spelled_starts (operations h t) = spelled_starts h

pub expression_starts : (ts : List Token) (x : Ex) (rest : List Token) → Expression ts x rest → is_mark mark.RoundClose (peek ts) ≡ false
expression_starts ts x rest e = spelled_starts e.spelled

-- the index behind a name, and that no `@` follows it
record IndexAt (ts : List Token) (d : ℕ) : Type 0 where
  depth : ℕ
  shallow : depth ≤ d
  tree : Ex
  mid : List Token
  spelled : Spells any depth (drop 2 ts) tree mid
  closes : peek mid ≡ see.Mark mark.SquareClose
  no_at : is_mark mark.At (peek (drop 1 mid)) ≡ false

next_no_at : {s : Spot} {d : ℕ} {x : Ex} {ts : List Token} {e : ℕ} {y : Ex} {rest : List Token} → Indices s d x ts e y rest → is_mark mark.At (peek rest) ≡ false → is_mark mark.At (peek ts) ≡ false
next_no_at index_end h = h
next_no_at (index p k q t) h = ap (is_mark mark.At) p

chain_follows : {r : ℕ} {s : Spot} {d : ℕ} {x : Ex} {ts : List Token} {e : ℕ} {y : Ex} {rest : List Token} → Chain r s d x ts e y rest → is_mark mark.At (peek rest) ≡ false → is_mark mark.SquareOpen (peek rest) ≡ false
    → (is_mark mark.At (peek ts) ≡ false) × (is_mark mark.SquareOpen (peek ts) ≡ false)
chain_follows chain_end h k = (h, k)
chain_follows (operation o p q g t) h k = (ap (is_mark mark.At) p, ap (is_mark mark.SquareOpen) p)

first_index : {r d : ℕ} {ts : List Token} {x : Ex} {rest : List Token} → Spells r d ts x rest → peek ts ≡ see.Name → peek (drop 1 ts) ≡ see.Mark mark.SquareOpen → is_mark mark.At (peek rest) ≡ false → is_mark mark.SquareOpen (peek rest) ≡ false → IndexAt ts d
first_index {ts = ts} (not_ p h) a b c e = absurd (clash (peek ts) _ p a)
  where
    clash : (f : Lookahead) (m : _) → f ≡ see.Mark m → f ≡ see.Name → ⊥
    clash f m p a = cc
first_index {ts = ts} (negative p q) a b c e = absurd (clash (peek ts) _ p a)
  where
    clash : (f : Lookahead) (m : _) → f ≡ see.Mark m → f ≡ see.Name → ⊥
    clash f m p a = cc
first_index {ts = ts} (minus p q h) a b c e = absurd (clash (peek ts) _ p a)
  where
    clash : (f : Lookahead) (m : _) → f ≡ see.Mark m → f ≡ see.Name → ⊥
    clash f m p a = cc
first_index {ts = ts} (postfix (token h) index_end) a b c e = absurd (false≢true (sym e ∙ ap (is_mark mark.SquareOpen) b))
first_index {ts = ts} (postfix (token h) (index {mid = mid} {e = k} {i = i} p g q t)) a b c e =
    let deep = indexed_grows t in
    record { depth = k; shallow = omega (arith, deep); tree = i; mid = mid; spelled = subst (λ l. Spells any k l i mid) (dd 1 1 ts) g; closes = q; no_at = next_no_at t c }
first_index {ts = ts} (postfix (call p q h) i) a b c e = absurd (clash (peek (drop 1 ts)) q b)
  where
    clash : (f : Lookahead) → f ≡ see.Mark mark.RoundOpen → f ≡ see.Mark mark.SquareOpen → ⊥
    clash f p a = cc
first_index {ts = ts} (postfix (brackets p h q) i) a b c e = absurd (clash (peek ts) p a)
  where
    clash : (f : Lookahead) → f ≡ see.Mark mark.RoundOpen → f ≡ see.Name → ⊥
    clash f p a = cc
first_index (operations h t) a b c e =
    let f = chain_follows t c e in
    let i = first_index h a b f.0 f.1 in
    let deep = chain_grows t in
    let low = i.shallow in
    record { depth = i.depth; shallow = omega (arith, deep, low); tree = i.tree; mid = i.mid; spelled = i.spelled; closes = i.closes; no_at = i.no_at }

-- what may follow an argument
unfoldable pub Follows : Lookahead → Type 0
Follows f = (Ends f) × (is_mark mark.At f ≡ false) × (is_mark mark.SquareOpen f ≡ false)

value_found : (ts : List Token) (x : Ex) (rest : List Token) → Expression ts x rest → Ends (peek rest) → value_at ts ≡ Some (Value x, rest)
value_found ts x rest e f = bound (expression ts) (x, rest) (λ x. Some (Value x.0, x.1)) _ (expression_found ts x rest e f) refl

pub argument_found : (ts : List Token) (a : Ar) (rest : List Token) → Argument ts a rest → Follows (peek rest) → argument ts ≡ Some (a, rest)
unfolding argument Follows Ends loose
argument_found ts a rest (memory {mid = mid} {rest = r} {i = i} {a = xs} p q h s t u v w) f =
    ap (λ b. cond (b && is_mark mark.SquareOpen (peek (drop 1 ts))) (argument_by (expression (drop 2 ts)) ts) (value_at ts)) (ap is_name p)
    ∙ ap (λ b. cond b (argument_by (expression (drop 2 ts)) ts) (value_at ts)) (ap (is_mark mark.SquareOpen) q)
    ∙ ap (λ o. argument_by o ts) (expression_found (drop 2 ts) i mid h (subst (λ f. suc any < loose f) (sym s) (omega arith)))
    ∙ ap (λ b. cond (b && is_mark mark.At (peek (drop 1 mid))) (memory_at (name_of ts) i (drop 2 mid)) (value_at ts)) (ap (is_mark mark.SquareClose) s)
    ∙ ap (λ b. cond b (memory_at (name_of ts) i (drop 2 mid)) (value_at ts)) (ap (is_mark mark.At) t)
    ∙ bound (expect mark.RoundOpen (drop 2 mid)) (drop 1 (drop 2 mid)) (λ l. and_then (before mark.RoundClose (comma_list expression l)) (λ a. Some (Memory (name_of ts) i a.0, a.1))) _ (expect_found mark.RoundOpen (drop 2 mid) refl u)
    (ap (λ l. and_then (before mark.RoundClose (comma_list expression l)) (λ a. Some (Memory (name_of ts) i a.0, a.1))) (dd 2 1 mid)
    ∙ bound (before mark.RoundClose (comma_list expression (drop 3 mid))) (xs, drop 1 r) (λ a. Some (Memory (name_of ts) i a.0, a.1)) _
    (bound (comma_list expression (drop 3 mid)) (xs, r) (λ p. and_then (expect mark.RoundClose p.1) (λ l. Some (p.0, l))) _
    (separated_found Expression expression Ends expression_found expression_short (omega arith) (drop 3 mid) xs r v (ap (is_mark mark.Comma) w) (subst (λ f. suc any < loose f) (sym w) (omega arith)))
    (bound (expect mark.RoundClose r) (drop 1 r) (λ l. Some (xs, l)) _ (expect_found mark.RoundClose r refl w) refl))
    refl)
argument_found ts a rest (value {x = x} e) f = by_test (is_name (peek ts) && is_mark mark.SquareOpen (peek (drop 1 ts))) refl
  where
    -- whether the index has stamped names or not, no memory operand follows
    by_plain : {d : ℕ} (i : IndexAt ts d) (b : Bool) → argument_by (only_if b (Some (i.tree, i.mid))) ts ≡ Some (Value x, rest)
    by_plain i false = value_found ts x rest e f.0
    by_plain i true =
        ap (λ b. cond (b && is_mark mark.At (peek (drop 1 i.mid))) (memory_at (name_of ts) i.tree (drop 2 i.mid)) (value_at ts)) (ap (is_mark mark.SquareClose) i.closes)
        ∙ ap (λ b. cond b (memory_at (name_of ts) i.tree (drop 2 i.mid)) (value_at ts)) i.no_at
        ∙ value_found ts x rest e f.0

    by_index : is_name (peek ts) ≡ true → is_mark mark.SquareOpen (peek (drop 1 ts)) ≡ true → argument_by (expression (drop 2 ts)) ts ≡ Some (Value x, rest)
    by_index a b =
        let i = first_index e.spelled (is_name_is (peek ts) a) (peek_is mark.SquareOpen (peek (drop 1 ts)) b) f.1 f.2 in
        let low = i.shallow in
        let high = e.shallow in
        ap (λ o. argument_by o ts) (expression_front_found i.spelled (omega (arith, low, high)) (subst (λ f. suc any < loose f) (sym i.closes) (omega arith)))
        ∙ by_plain i (list_all is_plain (tokens_before i.mid (drop 2 ts)))

    by_test : (t : Bool) → (is_name (peek ts) && is_mark mark.SquareOpen (peek (drop 1 ts))) ≡ t → cond t (argument_by (expression (drop 2 ts)) ts) (value_at ts) ≡ Some (Value x, rest)
    by_test false h = value_found ts x rest e f.0
    by_test true h = let p = and_parts _ _ h in by_index p.0 p.1

pub argument_short : (ts : List Token) (a : Ar) (rest : List Token) → Argument ts a rest → length rest ≤ length ts
argument_short ts a rest (value e) = expression_short ts _ rest e
argument_short ts a rest (memory {mid = mid} {rest = r} {i = i} {a = xs} p q h s t u v w) =
    let x = expression_short (drop 2 ts) i mid h in
    let y = separated_short Expression expression Ends expression_found expression_short (drop 3 mid) xs r v in
    let c = length-drop 2 ts in
    let d = length-drop 3 mid in
    let e = length-drop 1 r in
    omega (arith, x, y, c, d, e)

pub argument_starts : (ts : List Token) (a : Ar) (rest : List Token) → Argument ts a rest → is_mark mark.RoundClose (peek ts) ≡ false
argument_starts ts a rest (value e) = spelled_starts e.spelled
argument_starts ts a rest (memory p q h s t u v w) = ap (is_mark mark.RoundClose) p
