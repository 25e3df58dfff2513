-- What is found is spelled: statements of lemmas.
use Rattle.std.proofs.Common.{◌≡◌, ℕ, zero, suc, ◌≤◌, max, Bool, true, false, cond, List, length, drop, Some, refl, sym, subst, arith}
use Rattle.std.proofs.lemmas.Option.{same_Some}
use Rattle.x64_syntax.specs.declared.keywords.Keyword.TheVariants as word
use Rattle.vale_syntax.specs.declared.token.Token.{Token}
use Rattle.vale_syntax.specs.declared.mark.Mark.TheVariants as mark
use Rattle.vale_syntax.specs.declared.lookahead.Lookahead.{Lookahead}
use Rattle.vale_syntax.specs.declared.lookahead.Lookahead.TheVariants as see
use Rattle.vale_syntax.specs.Peek.{peek, spot_of}
use Rattle.vale_syntax.specs.Expressions.{name_of}
use Rattle.vale_syntax.specs.Programs.{LSts, no_lsts, no_larm, larm, LCall, LAssert, LIf}
use Rattle.vale_syntax.specs.Statements.{Expression, lsts_last, LStatement, lcall as is_lcall, lassert, lif, LBlock, lblock as is_lblock, LBody, lstatements_end, lstatements_next, LElse, no_lelse, some_lelse}
use Rattle.vale_parser.specs.inner.Productions.{expression}
use Rattle.vale_syntax.specs.inner.Marks.{is_mark}
use Rattle.vale_parser.specs.inner.Parts.{bind as and_then, before, closed_list}
use Rattle.vale_parser.specs.inner.Productions.{is_else, test, lcall, LStatementParse, LBodyParse, LElseParse, LBranches, lstatement_parse, lbody_parse, lelse_parse, lbranches, LStatements, lbody, lblock, lelse_by, larms, lif_at, lstatement_by, lstatement}
use Rattle.vale_syntax.proofs.MarkTests.{peek_is}
use Rattle.vale_parser.proofs.Parts.{bind_some, closed_sound}
use Rattle.vale_parser.proofs.Sound.{on_expect, on_before, expression_sound, test_sound}
use Rattle.vale_parser.proofs.SoundStatements.{else_is}

-- over statements that are found with a depth of at most b, and spelled
IsSound : ℕ → LStatements → Type 0
IsSound b sub = (ts : List Token) (s : LStatementParse) → sub ts ≡ Some s → (s.height ≤ b) × LStatement s.height ts s.tree s.rest

record BodyTo (b d : ℕ) (xs : LSts) (ts : List Token) (r : LBodyParse) : Type 0 where
  mid : List Token
  low : r.height ≤ b
  spelled : LBody d xs ts r.height r.trees mid
  closes : peek mid ≡ see.Mark mark.BraceClose
  behind : drop 1 mid ≡ r.rest

body_sound : (sub : LStatements) (b n d : ℕ) (xs : LSts) (ts : List Token) (r : LBodyParse) → IsSound b sub → d ≤ b → lbody sub n xs d ts ≡ Some r → BodyTo b d xs ts r
unfolding lbody IsSound
body_sound sub b zero d xs ts r sound k h = absurd cc
body_sound sub b (suc n) d xs ts r sound k h =
    by_test (is_mark mark.BraceClose (peek ts)) refl (λ s l g. body_sound sub b n (max d s.height) (lsts_last xs s.tree) s.rest r sound l g) h
  where
    by_test : (t : Bool) → is_mark mark.BraceClose (peek ts) ≡ t
        → ((s : LStatementParse) → max d s.height ≤ b → lbody sub n (lsts_last xs s.tree) (max d s.height) s.rest ≡ Some r → BodyTo b (max d s.height) (lsts_last xs s.tree) s.rest r)
        → cond t (Some (lbody_parse xs d (drop 1 ts))) (and_then (sub ts) (λ s. lbody sub n (lsts_last xs s.tree) (max d s.height) s.rest)) ≡ Some r → BodyTo b d xs ts r
    by_test true e go h = subst (BodyTo b d xs ts) (same_Some (lbody_parse xs d (drop 1 ts)) r h) (record { mid = ts; low = k; spelled = lstatements_end; closes = peek_is mark.BraceClose (peek ts) e; behind = refl })
    by_test false e go h =
        let (s, p, q) = bind_some (sub ts) (λ s. lbody sub n (lsts_last xs s.tree) (max d s.height) s.rest) r h in
        let one = sound ts s p in
        let low = one.0 in
        let t = go s (omega (arith, k, low)) q in
        record { mid = t.mid; low = t.low; spelled = lstatements_next one.1 t.spelled; closes = t.closes; behind = t.behind }

block_sound : (sub : LStatements) (b : ℕ) (ts : List Token) (r : LBodyParse) → IsSound b sub → lblock sub ts ≡ Some r → (r.height ≤ b) × LBlock r.height ts r.trees r.rest
block_sound sub b ts r sound h =
    let a = on_expect mark.BraceOpen 0 ts (λ rest. lbody sub (length rest) no_lsts 0 rest) r h in
    let t = body_sound sub b (length (drop 1 ts)) 0 no_lsts (drop 1 ts) r sound (omega arith) a.1 in
    (t.low, subst (λ l. LBlock r.height ts r.trees l) t.behind (is_lblock a.0 t.spelled t.closes))

ElseTo : ℕ → List Token → LElseParse → Type 0
ElseTo b ts r = (r.height ≤ b) × LElse r.height ts r.arm r.rest

else_sound : (sub : LStatements) (b : ℕ) (ts : List Token) (r : LElseParse) → IsSound b sub → lelse_by sub ts ≡ Some r → ElseTo b ts r
unfolding ElseTo
else_sound sub b ts r sound h = by_test (is_else (peek ts)) refl h
  where
    by_test : (t : Bool) → is_else (peek ts) ≡ t → cond t (and_then (lblock sub (drop 1 ts)) (λ b. Some (lelse_parse (larm b.trees) b.height b.rest))) (Some (lelse_parse no_larm 0 ts)) ≡ Some r → ElseTo b ts r
    by_test true e h =
        let (l, p, q) = bind_some (lblock sub (drop 1 ts)) (λ b. Some (lelse_parse (larm b.trees) b.height b.rest)) r h in
        let a = block_sound sub b (drop 1 ts) l sound p in
        subst (ElseTo b ts) (same_Some _ r q) (a.0, some_lelse (else_is (peek ts) e) a.1)
    by_test false e h = subst (ElseTo b ts) (same_Some (lelse_parse no_larm 0 ts) r h) (omega arith, no_lelse)

record ArmsTo (b : ℕ) (ts : List Token) (r : LBranches) : Type 0 where
  first_depth : ℕ
  second_depth : ℕ
  mid : List Token
  first : LBlock first_depth ts r.first mid
  second : LElse second_depth mid r.second r.rest
  depth : r.height ≡ suc (max first_depth second_depth)
  low : r.height ≤ suc b

arms_sound : (sub : LStatements) (b : ℕ) (ts : List Token) (r : LBranches) → IsSound b sub → larms sub ts ≡ Some r → ArmsTo b ts r
unfolding ElseTo
arms_sound sub b ts r sound h =
    let (f, p, q) = bind_some (lblock sub ts) (λ b. and_then (lelse_by sub b.rest) (λ e. Some (lbranches b.trees e.arm (suc (max b.height e.height)) e.rest))) r h in
    let (s, t, u) = bind_some (lelse_by sub f.rest) (λ e. Some (lbranches f.trees e.arm (suc (max f.height e.height)) e.rest)) r q in
    let a = block_sound sub b ts f sound p in
    let c = else_sound sub b f.rest s sound t in
    let x = a.0 in
    let y = c.0 in
    subst (ArmsTo b ts) (same_Some _ r u) (record { first_depth = f.height; second_depth = s.height; mid = f.rest; first = a.1; second = c.1; depth = refl; low = omega (arith, x, y) })

StatementTo : ℕ → List Token → LStatementParse → Type 0
StatementTo b ts s = (s.height ≤ suc b) × LStatement s.height ts s.tree s.rest

if_sound : (sub : LStatements) (b : ℕ) (ts : List Token) (s : LStatementParse) → IsSound b sub → peek ts ≡ see.Keyword word.If → lif_at sub (spot_of ts) (test (drop 1 ts)) ≡ Some s → StatementTo b ts s
unfolding StatementTo
if_sound sub b ts s sound e h =
    let (t, p, q) = bind_some (test (drop 1 ts)) (λ t. and_then (larms sub t.1) (λ a. Some (lstatement_parse (LIf (spot_of ts) t.0 a.first a.second) a.height a.rest))) s h in
    let (a, r, u) = bind_some (larms sub t.1) (λ a. Some (lstatement_parse (LIf (spot_of ts) t.0 a.first a.second) a.height a.rest)) s q in
    let c = arms_sound sub b t.1 a sound r in
    subst (StatementTo b ts) (same_Some _ s u) (c.low, subst (λ d. LStatement d ts (LIf (spot_of ts) t.0 a.first a.second) a.rest) (sym c.depth) (lif e (test_sound (drop 1 ts) t.0 t.1 p) c.first c.second))

call_sound : (b : ℕ) (ts : List Token) (s : LStatementParse) → peek ts ≡ see.Name → lcall ts ≡ Some s → StatementTo b ts s
unfolding StatementTo
call_sound b ts s e h =
    let a = on_expect mark.RoundOpen 1 ts (λ rest. and_then (before mark.Semicolon (closed_list expression rest)) (λ a. Some (lstatement_parse (LCall (name_of ts) a.0) 1 a.1))) s h in
    let (xs, mid, r, q, t) = on_before mark.Semicolon (closed_list expression (drop 2 ts)) (λ a. Some (lstatement_parse (LCall (name_of ts) a.0) 1 a.1)) s a.1 in
    subst (StatementTo b ts) (same_Some _ s t) (omega arith, is_lcall e a.0 (closed_sound Expression expression expression_sound (drop 2 ts) xs mid r) q)

assert_sound : (b : ℕ) (ts : List Token) (s : LStatementParse) → peek ts ≡ see.Keyword word.Assert → and_then (before mark.Semicolon (expression (drop 1 ts))) (λ x. Some (lstatement_parse (LAssert (spot_of ts) x.0) 1 x.1)) ≡ Some s → StatementTo b ts s
unfolding StatementTo
assert_sound b ts s e h =
    let (y, mid, r, q, t) = on_before mark.Semicolon (expression (drop 1 ts)) (λ x. Some (lstatement_parse (LAssert (spot_of ts) x.0) 1 x.1)) s h in
    subst (StatementTo b ts) (same_Some _ s t) (omega arith, lassert e (expression_sound (drop 1 ts) y mid r) q)

statement_by_sound : (sub : LStatements) (b : ℕ) (ts : List Token) (s : LStatementParse) → IsSound b sub → (f : Lookahead) → peek ts ≡ f → lstatement_by sub f ts ≡ Some s → StatementTo b ts s
statement_by_sound sub b ts s sound see.Name e h = call_sound b ts s e h
statement_by_sound sub b ts s sound (see.Keyword word.Assert) e h = assert_sound b ts s e h
statement_by_sound sub b ts s sound (see.Keyword word.If) e h = if_sound sub b ts s sound e h
statement_by_sound sub b ts s sound _ e h = absurd cc

statement_sound : (b : ℕ) (ts : List Token) (s : LStatementParse) → lstatement b ts ≡ Some s → (s.height ≤ b) × LStatement s.height ts s.tree s.rest
unfolding lstatement StatementTo IsSound
statement_sound zero ts s h = absurd cc
statement_sound (suc b) ts s h = statement_by_sound (lstatement b) b ts s (statement_sound b) (peek ts) refl h

pub statements_sound : (b : ℕ) (ts : List Token) (r : LBodyParse) → lblock (lstatement b) ts ≡ Some r → (r.height ≤ b) × LBlock r.height ts r.trees r.rest
unfolding IsSound
statements_sound b ts r h = block_sound (lstatement b) b ts r (statement_sound b) h
