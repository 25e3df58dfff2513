-- What is found is spelled: statements of procedures.
use Rattle.std.proofs.Common.{◌≡◌, ℕ, zero, suc, ◌≤◌, max, Bool, true, false, cond, List, [], length, drop, Some, refl, sym, subst, arith}
use Rattle.std.proofs.lemmas.Bool.{false≢true}
use Rattle.std.proofs.lemmas.Option.{same_Some}
use Rattle.x64_syntax.specs.declared.keywords.Keyword.TheVariants as word
use Rattle.vale_syntax.specs.declared.token.Token.{Token}
use Rattle.vale_syntax.specs.declared.mark.Mark.TheVariants as mark
use Rattle.vale_syntax.specs.declared.lookahead.Lookahead.{Lookahead}
use Rattle.vale_syntax.specs.declared.lookahead.Lookahead.TheVariants as see
use Rattle.vale_syntax.specs.Peek.{peek, spot_of}
use Rattle.vale_syntax.specs.Expressions.{name_of}
use Rattle.vale_syntax.specs.Programs.{St, Sts, no_sts, no_arm, arm, CallStatement, Assert, Ghost, Assign, If, While, InlineIf}
use Rattle.vale_syntax.specs.Statements.{sts_last, Argument, Invariant, Simple, simple_call, simple_assert, simple_ghost, simple_assign, Statement, simple as is_simple, if_, while_, inline_if, Block, block as is_block, Body, statements_end, statements_next, Else, no_else, some_else}
use Rattle.vale_parser.specs.inner.Productions.{expression}
use Rattle.vale_syntax.specs.inner.Marks.{is_mark}
use Rattle.vale_parser.specs.inner.Parts.{bind as and_then, expect, before, closed_list, many}
use Rattle.vale_parser.specs.inner.Productions.{only_if, is_if, is_else, is_invariant, is_decreases, sort_behind, expression_end, argument, invariant_, test, call_or_assign, simple_by, simple, StatementParse, BodyParse, ElseParse, Branches, statement_parse, body_parse, else_parse, branches, Statements, body, block, else_by, arms, if_at, inline_if_at, loop_at, shallow_statement, statement_by, statement}
use Rattle.vale_syntax.proofs.MarkTests.{peek_is}
use Rattle.vale_parser.proofs.Parts.{bind_some, closed_sound, many_sound}
use Rattle.vale_parser.proofs.Sound.{finish, on_asked, on_name, on_expect, on_sort, on_before, before_is, expression_sound, argument_sound, invariant_sound, test_sound}

named_sound : (ts : List Token) (x : St) (rest : List Token) → peek ts ≡ see.Name → (f : Lookahead) → peek (drop 1 ts) ≡ f → call_or_assign f ts ≡ Some (x, rest) → Simple ts x rest
named_sound ts x rest p (see.Mark mark.RoundOpen) e h =
    let (a, mid, r, s, t) = on_before mark.Semicolon (closed_list argument (drop 2 ts)) (λ a. Some (CallStatement (name_of ts) a.0, a.1)) (x, rest) h in
    finish Simple ts _ (x, rest) t (simple_call p e (closed_sound Argument argument argument_sound (drop 2 ts) a mid r) s)
named_sound ts x rest p (see.Mark mark.Assign) e h =
    let (y, mid, r, s, t) = on_before mark.Semicolon (expression (drop 2 ts)) (λ x. Some (Assign (name_of ts) x.0, x.1)) (x, rest) h in
    finish Simple ts _ (x, rest) t (simple_assign p e (expression_sound (drop 2 ts) y mid r) s)
named_sound ts x rest p _ e h = absurd cc

simple_sound : (ts : List Token) (x : St) (rest : List Token) → (f : Lookahead) → peek ts ≡ f → simple_by f ts ≡ Some (x, rest) → Simple ts x rest
simple_sound ts x rest see.Name e h = named_sound ts x rest e (peek (drop 1 ts)) refl h
simple_sound ts x rest (see.Keyword word.Assert) e h =
    let (y, mid, r, s, t) = on_before mark.Semicolon (expression (drop 1 ts)) (λ x. Some (Assert (spot_of ts) x.0, x.1)) (x, rest) h in
    finish Simple ts _ (x, rest) t (simple_assert e (expression_sound (drop 1 ts) y mid r) s)
simple_sound ts x rest (see.Keyword word.Ghost) e h =
    let a = on_name 1 ts (λ n. and_then (sort_behind n.1) (λ s. and_then (expect mark.Equals s.1) (λ rest. and_then (before mark.Semicolon (expression rest)) (λ x. Some (Ghost (spot_of ts) n.0 s.0 x.0, x.1))))) (x, rest) h in
    let (s, b, c, d) = on_sort 2 ts (λ s. and_then (expect mark.Equals s.1) (λ rest. and_then (before mark.Semicolon (expression rest)) (λ x. Some (Ghost (spot_of ts) (name_of (drop 1 ts)) s.0 x.0, x.1)))) (x, rest) a.1 in
    let f = on_expect mark.Equals 4 ts (λ rest. and_then (before mark.Semicolon (expression rest)) (λ x. Some (Ghost (spot_of ts) (name_of (drop 1 ts)) s x.0, x.1))) (x, rest) d in
    let (y, mid, r, g, t) = on_before mark.Semicolon (expression (drop 5 ts)) (λ x. Some (Ghost (spot_of ts) (name_of (drop 1 ts)) s x.0, x.1)) (x, rest) f.1 in
    finish Simple ts _ (x, rest) t (simple_ghost e a.0 b c f.0 (expression_sound (drop 5 ts) y mid r) g)
simple_sound ts x rest _ e h = absurd cc

if_is : (f : Lookahead) → is_if f ≡ true → f ≡ see.Keyword word.If
if_is (see.Keyword word.If) h = refl
if_is _ h = absurd (false≢true h)

pub else_is : (f : Lookahead) → is_else f ≡ true → f ≡ see.Keyword word.Else
else_is (see.Keyword word.Else) h = refl
else_is _ h = absurd (false≢true h)

decreases_is : (f : Lookahead) → is_decreases f ≡ true → f ≡ see.Keyword word.Decreases
decreases_is (see.Keyword word.Decreases) h = refl
decreases_is _ h = absurd (false≢true h)

-- over statements that are found with a depth of at most b, and spelled
IsSound : ℕ → Statements → Type 0
IsSound b sub = (ts : List Token) (s : StatementParse) → sub ts ≡ Some s → (s.height ≤ b) × Statement s.height ts s.tree s.rest

record BodyTo (b d : ℕ) (xs : Sts) (ts : List Token) (r : BodyParse) : Type 0 where
  mid : List Token
  low : r.height ≤ b
  spelled : Body d xs ts r.height r.trees mid
  closes : peek mid ≡ see.Mark mark.BraceClose
  behind : drop 1 mid ≡ r.rest

body_sound : (sub : Statements) (b n d : ℕ) (xs : Sts) (ts : List Token) (r : BodyParse) → IsSound b sub → d ≤ b → body sub n xs d ts ≡ Some r → BodyTo b d xs ts r
unfolding body IsSound
body_sound sub b zero d xs ts r sound k h = absurd cc
body_sound sub b (suc n) d xs ts r sound k h =
    by_test (is_mark mark.BraceClose (peek ts)) refl (λ s l g. body_sound sub b n (max d s.height) (sts_last xs s.tree) s.rest r sound l g) h
  where
    by_test : (t : Bool) → is_mark mark.BraceClose (peek ts) ≡ t
        → ((s : StatementParse) → max d s.height ≤ b → body sub n (sts_last xs s.tree) (max d s.height) s.rest ≡ Some r → BodyTo b (max d s.height) (sts_last xs s.tree) s.rest r)
        → cond t (Some (body_parse xs d (drop 1 ts))) (and_then (sub ts) (λ s. body sub n (sts_last xs s.tree) (max d s.height) s.rest)) ≡ Some r → BodyTo b d xs ts r
    by_test true e go h = subst (BodyTo b d xs ts) (same_Some (body_parse xs d (drop 1 ts)) r h) (record { mid = ts; low = k; spelled = statements_end; closes = peek_is mark.BraceClose (peek ts) e; behind = refl })
    by_test false e go h =
        let (s, p, q) = bind_some (sub ts) (λ s. body sub n (sts_last xs s.tree) (max d s.height) s.rest) r h in
        let one = sound ts s p in
        let low = one.0 in
        let t = go s (omega (arith, k, low)) q in
        record { mid = t.mid; low = t.low; spelled = statements_next one.1 t.spelled; closes = t.closes; behind = t.behind }

block_sound : (sub : Statements) (b : ℕ) (ts : List Token) (r : BodyParse) → IsSound b sub → block sub ts ≡ Some r → (r.height ≤ b) × Block r.height ts r.trees r.rest
block_sound sub b ts r sound h =
    let a = on_expect mark.BraceOpen 0 ts (λ rest. body sub (length rest) no_sts 0 rest) r h in
    let t = body_sound sub b (length (drop 1 ts)) 0 no_sts (drop 1 ts) r sound (omega arith) a.1 in
    (t.low, subst (λ l. Block r.height ts r.trees l) t.behind (is_block a.0 t.spelled t.closes))

ElseTo : ℕ → List Token → ElseParse → Type 0
ElseTo b ts r = (r.height ≤ b) × Else r.height ts r.arm r.rest

else_sound : (sub : Statements) (b : ℕ) (ts : List Token) (r : ElseParse) → IsSound b sub → else_by sub ts ≡ Some r → ElseTo b ts r
unfolding ElseTo
else_sound sub b ts r sound h = by_test (is_else (peek ts)) refl h
  where
    by_test : (t : Bool) → is_else (peek ts) ≡ t → cond t (and_then (block sub (drop 1 ts)) (λ b. Some (else_parse (arm b.trees) b.height b.rest))) (Some (else_parse no_arm 0 ts)) ≡ Some r → ElseTo b ts r
    by_test true e h =
        let (l, p, q) = bind_some (block sub (drop 1 ts)) (λ b. Some (else_parse (arm b.trees) b.height b.rest)) r h in
        let a = block_sound sub b (drop 1 ts) l sound p in
        subst (ElseTo b ts) (same_Some _ r q) (a.0, some_else (else_is (peek ts) e) a.1)
    by_test false e h = subst (ElseTo b ts) (same_Some (else_parse no_arm 0 ts) r h) (omega arith, no_else)

record ArmsTo (b : ℕ) (ts : List Token) (r : Branches) : Type 0 where
  first_depth : ℕ
  second_depth : ℕ
  mid : List Token
  first : Block first_depth ts r.first mid
  second : Else second_depth mid r.second r.rest
  depth : r.height ≡ suc (max first_depth second_depth)
  low : r.height ≤ suc b

arms_sound : (sub : Statements) (b : ℕ) (ts : List Token) (r : Branches) → IsSound b sub → arms sub ts ≡ Some r → ArmsTo b ts r
unfolding ElseTo
arms_sound sub b ts r sound h =
    let (f, p, q) = bind_some (block sub ts) (λ b. and_then (else_by sub b.rest) (λ e. Some (branches b.trees e.arm (suc (max b.height e.height)) e.rest))) r h in
    let (s, t, u) = bind_some (else_by sub f.rest) (λ e. Some (branches f.trees e.arm (suc (max f.height e.height)) e.rest)) r q in
    let a = block_sound sub b ts f sound p in
    let c = else_sound sub b f.rest s sound t in
    let x = a.0 in
    let y = c.0 in
    subst (ArmsTo b ts) (same_Some _ r u) (record { first_depth = f.height; second_depth = s.height; mid = f.rest; first = a.1; second = c.1; depth = refl; low = omega (arith, x, y) })

StatementTo : ℕ → List Token → StatementParse → Type 0
StatementTo b ts s = (s.height ≤ suc b) × Statement s.height ts s.tree s.rest

if_sound : (sub : Statements) (b : ℕ) (ts : List Token) (s : StatementParse) → IsSound b sub → peek ts ≡ see.Keyword word.If → if_at sub (spot_of ts) (test (drop 1 ts)) ≡ Some s → StatementTo b ts s
unfolding StatementTo
if_sound sub b ts s sound e h =
    let (t, p, q) = bind_some (test (drop 1 ts)) (λ t. and_then (arms sub t.1) (λ a. Some (statement_parse (If (spot_of ts) t.0 a.first a.second) a.height a.rest))) s h in
    let (a, r, u) = bind_some (arms sub t.1) (λ a. Some (statement_parse (If (spot_of ts) t.0 a.first a.second) a.height a.rest)) s q in
    let c = arms_sound sub b t.1 a sound r in
    subst (StatementTo b ts) (same_Some _ s u) (c.low, subst (λ d. Statement d ts (If (spot_of ts) t.0 a.first a.second) a.rest) (sym c.depth) (if_ e (test_sound (drop 1 ts) t.0 t.1 p) c.first c.second))

inline_sound : (sub : Statements) (b : ℕ) (ts : List Token) (s : StatementParse) → IsSound b sub → peek ts ≡ see.Keyword word.Inline → inline_if_at sub (spot_of ts) (only_if (is_if (peek (drop 1 ts))) (test (drop 2 ts))) ≡ Some s → StatementTo b ts s
unfolding StatementTo
inline_sound sub b ts s sound e h =
    let (t, p, q) = bind_some (only_if (is_if (peek (drop 1 ts))) (test (drop 2 ts))) (λ t. and_then (arms sub t.1) (λ a. Some (statement_parse (InlineIf (spot_of ts) t.0 a.first a.second) a.height a.rest))) s h in
    let g = on_asked (is_if (peek (drop 1 ts))) (test (drop 2 ts)) t p in
    let (a, r, u) = bind_some (arms sub t.1) (λ a. Some (statement_parse (InlineIf (spot_of ts) t.0 a.first a.second) a.height a.rest)) s q in
    let c = arms_sound sub b t.1 a sound r in
    subst (StatementTo b ts) (same_Some _ s u) (c.low, subst (λ d. Statement d ts (InlineIf (spot_of ts) t.0 a.first a.second) a.rest) (sym c.depth) (inline_if e (if_is (peek (drop 1 ts)) g.0) (test_sound (drop 2 ts) t.0 t.1 g.1) c.first c.second))

while_sound : (sub : Statements) (b : ℕ) (ts : List Token) (s : StatementParse) → IsSound b sub → peek ts ≡ see.Keyword word.While → and_then (test (drop 1 ts)) (loop_at sub (spot_of ts)) ≡ Some s → StatementTo b ts s
unfolding StatementTo
while_sound sub b ts s sound e h =
    let (t, p, q) = bind_some (test (drop 1 ts)) (loop_at sub (spot_of ts)) s h in
    let (is, r, u) = bind_some (many is_invariant invariant_ (length t.1) [] t.1) (λ is. and_then (only_if (is_decreases (peek is.1)) (expression_end is.1)) (λ m.
    and_then (block sub m.1) (λ b. Some (statement_parse (While (spot_of ts) t.0 is.0 m.0 b.trees) (suc b.height) b.rest)))) s q in
    let (m, v, w) = bind_some (only_if (is_decreases (peek is.1)) (expression_end is.1)) (λ m. and_then (block sub m.1) (λ b. Some (statement_parse (While (spot_of ts) t.0 is.0 m.0 b.trees) (suc b.height) b.rest))) s u in
    let (l, x, y) = bind_some (block sub m.1) (λ b. Some (statement_parse (While (spot_of ts) t.0 is.0 m.0 b.trees) (suc b.height) b.rest)) s w in
    let g = on_asked (is_decreases (peek is.1)) (expression_end is.1) m v in
    let (c, i, j, k) = before_is mark.Semicolon (expression (drop 1 is.1)) m.0 m.1 g.1 in
    let blk = block_sound sub b m.1 l sound x in
    let low = blk.0 in
    subst (StatementTo b ts) (same_Some _ s y) (
      omega (arith, low),
      while_ e (test_sound (drop 1 ts) t.0 t.1 p) (many_sound Invariant invariant_ invariant_sound is_invariant (length t.1) [] t.1 is.0 is.1 r) (decreases_is (peek is.1) g.0)
          (expression_sound (drop 1 is.1) m.0 c i) j (subst (λ z. Block l.height z l.trees l.rest) (sym k) blk.1),
    )

simple_statement : (sub : Statements) (b : ℕ) (ts : List Token) (s : StatementParse) → shallow_statement (simple ts) ≡ Some s → StatementTo b ts s
unfolding StatementTo simple
simple_statement sub b ts s h =
    let (x, p, q) = bind_some (simple ts) (λ x. Some (statement_parse x.0 1 x.1)) s h in
    subst (StatementTo b ts) (same_Some _ s q) (omega arith, is_simple (simple_sound ts x.0 x.1 (peek ts) refl p))

statement_by_sound : (sub : Statements) (b : ℕ) (ts : List Token) (s : StatementParse) → IsSound b sub → (f : Lookahead) → peek ts ≡ f → statement_by sub f ts ≡ Some s → StatementTo b ts s
statement_by_sound sub b ts s sound (see.Keyword word.If) e h = if_sound sub b ts s sound e h
statement_by_sound sub b ts s sound (see.Keyword word.While) e h = while_sound sub b ts s sound e h
statement_by_sound sub b ts s sound (see.Keyword word.Inline) e h = inline_sound sub b ts s sound e h
statement_by_sound sub b ts s sound _ e h = simple_statement sub b ts s h

statement_sound : (b : ℕ) (ts : List Token) (s : StatementParse) → statement b ts ≡ Some s → (s.height ≤ b) × Statement s.height ts s.tree s.rest
unfolding statement StatementTo IsSound
statement_sound zero ts s h = absurd cc
statement_sound (suc b) ts s h = statement_by_sound (statement b) b ts s (statement_sound b) (peek ts) refl h

pub statements_sound : (b : ℕ) (ts : List Token) (r : BodyParse) → block (statement b) ts ≡ Some r → (r.height ≤ b) × Block r.height ts r.trees r.rest
unfolding IsSound
statements_sound b ts r h = block_sound (statement b) b ts r (statement_sound b) h
