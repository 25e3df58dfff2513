-- Statements that are spelled are found.
use Rattle.std.proofs.Common.{◌≡◌, ℕ, zero, suc, ◌+◌, ◌≤◌, max, true, false, cond, List, [], length, drop, length-drop, Option, Some, refl, ◌∙◌, ap, arith}
use Rattle.x64_syntax.specs.declared.keywords.Keyword.TheVariants as word
use Rattle.vale_syntax.specs.declared.token.Token.{Token}
use Rattle.vale_syntax.specs.declared.mark.Mark.{Mark}
use Rattle.vale_syntax.specs.declared.mark.Mark.TheVariants as mark
use Rattle.vale_syntax.specs.declared.lookahead.Lookahead.TheVariants as see
use Rattle.vale_syntax.specs.declared.statement.SortName.{SortName}
use Rattle.vale_syntax.specs.Peek.{peek, spot_of}
use Rattle.vale_syntax.specs.Trees.{Ex}
use Rattle.vale_syntax.specs.Expressions.{name_of}
use Rattle.vale_syntax.specs.Lists.{Many}
use Rattle.vale_syntax.specs.Programs.{St, Sts, no_sts, Arm, no_arm, arm, CallStatement, Assert, Ghost, Assign, If, While, InlineIf}
use Rattle.vale_syntax.specs.Statements.{sort_at, sts_last, Argument, Invariant, invariant_ as is_invariant_, Simple, simple_call, simple_assert, simple_ghost, simple_assign, Test, test as is_test, Statement, simple as is_simple, if_, while_, inline_if, Block, block as is_block, Body, statements_end, statements_next, Else, no_else, some_else}
use Rattle.vale_syntax.proofs.Complete.{loose}
use Rattle.vale_parser.specs.inner.Productions.{expression}
use Rattle.vale_syntax.specs.inner.Marks.{mark_eq, is_mark}
use Rattle.vale_parser.specs.inner.Parts.{bind as and_then, expect, before, closed_list, many}
use Rattle.vale_parser.specs.inner.Productions.{only_if, is_if, is_else, is_invariant, is_decreases, name, sort_behind, expression_end, argument, invariant_, test, call_or_assign, simple_by, simple, StatementParse, statement_parse, body_parse, else_parse, branches, Statements, body, block, else_by, arms, inline_if_at, loop_at, shallow_statement, statement_by, statement}
use Rattle.vale_parser.proofs.Parts.{bound, expect_found, mark_left, word_left, closed_found, closed_short, many_found, many_short}
use Rattle.vale_parser.proofs.Found.{dd, Ends, expression_short, semicolon_found, round_found, name_found, sort_behind_found}
use Rattle.vale_parser.proofs.FoundArguments.{Follows, argument_found, argument_short, argument_starts}

-- what stands some tokens behind
pub name_at : (k : ℕ) (ts : List Token) → peek (drop k ts) ≡ see.Name → name (drop k ts) ≡ Some (name_of (drop k ts), drop (k + 1) ts)
name_at k ts p = name_found (drop k ts) p ∙ ap (λ l. Some (name_of (drop k ts), l)) (dd k 1 ts)

pub sort_behind_at : (k : ℕ) (ts : List Token) (s : SortName) → peek (drop k ts) ≡ see.Mark mark.Colon → sort_at (drop (k + 1) ts) ≡ Some s → sort_behind (drop k ts) ≡ Some (s, drop (k + 2) ts)
sort_behind_at k ts s p q = sort_behind_found (drop k ts) s p (ap sort_at (dd k 1 ts) ∙ q) ∙ ap (λ l. Some (s, l)) (dd k 2 ts)

pub expect_at : (m : Mark) (k : ℕ) (ts : List Token) → mark_eq m m ≡ true → peek (drop k ts) ≡ see.Mark m → expect m (drop k ts) ≡ Some (drop (k + 1) ts)
expect_at m k ts e p = expect_found m (drop k ts) e p ∙ ap Some (dd k 1 ts)

pub before_of : {A : Type 0} (m : Mark) (o : Option (A × List Token)) (x : A) (rest : List Token) → o ≡ Some (x, rest) → mark_eq m m ≡ true → peek rest ≡ see.Mark m → before m o ≡ Some (x, drop 1 rest)
before_of m o x rest h e p = bound o (x, rest) (λ p. and_then (expect m p.1) (λ rest. Some (p.0, rest))) _ h (bound (expect m rest) (drop 1 rest) (λ l. Some (x, l)) _ (expect_found m rest e p) refl)

pub ends_comma : Ends (see.Mark mark.Comma)
unfolding Ends loose
ends_comma = omega arith

pub ends_close : Ends (see.Mark mark.RoundClose)
unfolding Ends loose
ends_close = omega arith

follows_comma : Follows (see.Mark mark.Comma)
unfolding Follows Ends loose
follows_comma = (omega arith, refl, refl)

follows_close : Follows (see.Mark mark.RoundClose)
unfolding Follows Ends loose
follows_close = (omega arith, refl, refl)

pub simple_found : (ts : List Token) (x : St) (rest : List Token) → Simple ts x rest → simple ts ≡ Some (x, rest)
unfolding simple
simple_found ts x rest (simple_call {mid = mid} {a = a} p q c s) =
    ap (λ f. simple_by f ts) p ∙ ap (λ f. call_or_assign f ts) q
    ∙ bound (before mark.Semicolon (closed_list argument (drop 2 ts))) (a, drop 1 mid) (λ a. Some (CallStatement (name_of ts) a.0, a.1)) _
    (before_of mark.Semicolon (closed_list argument (drop 2 ts)) a mid (closed_found Argument argument Follows argument_found argument_short follows_comma follows_close argument_starts (drop 2 ts) a mid c) refl s) refl
simple_found ts x rest (simple_assert {mid = mid} {x = y} p e s) =
    ap (λ f. simple_by f ts) p ∙ bound (expression_end ts) (y, drop 1 mid) (λ x. Some (Assert (spot_of ts) x.0, x.1)) _ (semicolon_found (drop 1 ts) y mid e s) refl
simple_found ts x rest (simple_ghost {mid = mid} {s = t} {x = y} p a b c d e s) =
    ap (λ f. simple_by f ts) p
    ∙ bound (name (drop 1 ts)) (name_of (drop 1 ts), drop 2 ts) (λ n. and_then (sort_behind n.1) (λ s. and_then (expect mark.Equals s.1) (λ rest.
    and_then (before mark.Semicolon (expression rest)) (λ x. Some (Ghost (spot_of ts) n.0 s.0 x.0, x.1))))) _ (name_at 1 ts a)
    (bound (sort_behind (drop 2 ts)) (t, drop 4 ts) (λ s. and_then (expect mark.Equals s.1) (λ rest.
    and_then (before mark.Semicolon (expression rest)) (λ x. Some (Ghost (spot_of ts) (name_of (drop 1 ts)) s.0 x.0, x.1)))) _ (sort_behind_at 2 ts t b c)
    (bound (expect mark.Equals (drop 4 ts)) (drop 5 ts) (λ rest. and_then (before mark.Semicolon (expression rest)) (λ x. Some (Ghost (spot_of ts) (name_of (drop 1 ts)) t x.0, x.1))) _ (expect_at mark.Equals 4 ts refl d)
    (bound (before mark.Semicolon (expression (drop 5 ts))) (y, drop 1 mid) (λ x. Some (Ghost (spot_of ts) (name_of (drop 1 ts)) t x.0, x.1)) _ (semicolon_found (drop 5 ts) y mid e s) refl)))
simple_found ts x rest (simple_assign {mid = mid} {x = y} p q e s) =
    ap (λ f. simple_by f ts) p ∙ ap (λ f. call_or_assign f ts) q
    ∙ bound (before mark.Semicolon (expression (drop 2 ts))) (y, drop 1 mid) (λ x. Some (Assign (name_of ts) x.0, x.1)) _ (semicolon_found (drop 2 ts) y mid e s) refl

-- a statement that has none inside is found as such
simple_statement : (sub : Statements) (ts : List Token) (x : St) (rest : List Token) → Simple ts x rest → statement_by sub (peek ts) ts ≡ shallow_statement (simple ts)
simple_statement sub ts x rest (simple_call p q c s) = ap (λ f. statement_by sub f ts) p
simple_statement sub ts x rest (simple_assert p e s) = ap (λ f. statement_by sub f ts) p
simple_statement sub ts x rest (simple_ghost p a b c d e s) = ap (λ f. statement_by sub f ts) p
simple_statement sub ts x rest (simple_assign p q e s) = ap (λ f. statement_by sub f ts) p

pub test_found : (ts : List Token) (x : Ex) (rest : List Token) → Test ts x rest → test ts ≡ Some (x, rest)
test_found ts x rest (is_test {mid = mid} p e q) =
    bound (expect mark.RoundOpen ts) (drop 1 ts) (λ rest. before mark.RoundClose (expression rest)) _ (expect_found mark.RoundOpen ts refl p) (round_found (drop 1 ts) x mid e q)

pub test_short : (ts : List Token) (x : Ex) (rest : List Token) → Test ts x rest → length rest ≤ length ts
test_short ts x rest (is_test {mid = mid} p e q) = let a = expression_short (drop 1 ts) x mid e in let b = length-drop 1 ts in let c = length-drop 1 mid in omega (arith, a, b, c)

invariant_found : (ts : List Token) (x : Ex) (rest : List Token) → Invariant ts x rest → invariant_ ts ≡ Some (x, rest)
unfolding invariant_
invariant_found ts x rest (is_invariant_ {mid = mid} p e q) = ap (λ f. only_if (is_invariant f) (expression_end ts)) p ∙ semicolon_found (drop 1 ts) x mid e q

invariant_begins : (ts : List Token) (x : Ex) (rest : List Token) → Invariant ts x rest → is_invariant (peek ts) ≡ true
invariant_begins ts x rest (is_invariant_ p e q) = ap is_invariant p

invariant_shorter : (ts : List Token) (x : Ex) (rest : List Token) → Invariant ts x rest → suc (length rest) ≤ length ts
invariant_shorter ts x rest (is_invariant_ {mid = mid} p e q) =
    let a = expression_short (drop 1 ts) x mid e in
    let b = length-drop 1 ts in
    let c = length-drop 1 mid in
    let d = mark_left mid mark.Semicolon q in
    omega (arith, a, b, c, d)

simple_shorter : (ts : List Token) (x : St) (rest : List Token) → Simple ts x rest → suc (length rest) ≤ length ts
simple_shorter ts x rest (simple_call {mid = mid} {a = a} p q c s) =
    let f = closed_short Argument argument Follows argument_found argument_short (drop 2 ts) a mid c in
    let g = length-drop 2 ts in
    let h = length-drop 1 mid in
    let i = mark_left mid mark.Semicolon s in
    omega (arith, f, g, h, i)
simple_shorter ts x rest (simple_assert {mid = mid} {x = y} p e s) =
    let a = expression_short (drop 1 ts) y mid e in let b = length-drop 1 ts in let c = length-drop 1 mid in let d = mark_left mid mark.Semicolon s in omega (arith, a, b, c, d)
simple_shorter ts x rest (simple_ghost {mid = mid} {x = y} p a b c d e s) =
    let f = expression_short (drop 5 ts) y mid e in let g = length-drop 5 ts in let h = length-drop 1 mid in let i = mark_left mid mark.Semicolon s in omega (arith, f, g, h, i)
simple_shorter ts x rest (simple_assign {mid = mid} {x = y} p q e s) =
    let f = expression_short (drop 2 ts) y mid e in let g = length-drop 2 ts in let h = length-drop 1 mid in let i = mark_left mid mark.Semicolon s in omega (arith, f, g, h, i)

-- a statement begins neither with a closing brace nor with `else`
simple_starts : (ts : List Token) (x : St) (rest : List Token) → Simple ts x rest → (is_mark mark.BraceClose (peek ts) ≡ false) × (is_else (peek ts) ≡ false)
simple_starts ts x rest (simple_call p q c s) = (ap (is_mark mark.BraceClose) p, ap is_else p)
simple_starts ts x rest (simple_assert p e s) = (ap (is_mark mark.BraceClose) p, ap is_else p)
simple_starts ts x rest (simple_ghost p a b c d e s) = (ap (is_mark mark.BraceClose) p, ap is_else p)
simple_starts ts x rest (simple_assign p q e s) = (ap (is_mark mark.BraceClose) p, ap is_else p)

pub statement_starts : {d : ℕ} {ts : List Token} {x : St} {rest : List Token} → Statement d ts x rest → (is_mark mark.BraceClose (peek ts) ≡ false) × (is_else (peek ts) ≡ false)
statement_starts (is_simple {ts = ts} {rest = rest} {x = x} s) = simple_starts ts x rest s
statement_starts (if_ p t b e) = (ap (is_mark mark.BraceClose) p, ap is_else p)
statement_starts (while_ p t is q m s b) = (ap (is_mark mark.BraceClose) p, ap is_else p)
statement_starts (inline_if p q t b e) = (ap (is_mark mark.BraceClose) p, ap is_else p)

invariants_found : (ts : List Token) (xs : List Ex) (rest : List Token) → Many Invariant [] ts xs rest → is_invariant (peek rest) ≡ false → many is_invariant invariant_ (length ts) [] ts ≡ Some (xs, rest)
invariants_found ts xs rest h e = many_found Invariant invariant_ is_invariant invariant_found invariant_begins invariant_shorter [] ts xs rest h (length ts) (omega arith) e

invariants_short : (ts : List Token) (xs : List Ex) (rest : List Token) → Many Invariant [] ts xs rest → length rest ≤ length ts
invariants_short ts xs rest h = many_short Invariant invariant_ is_invariant invariant_found invariant_begins invariant_shorter [] ts xs rest h

pub body_grows : {d : ℕ} {xs : Sts} {ts : List Token} {e : ℕ} {ys : Sts} {rest : List Token} → Body d xs ts e ys rest → d ≤ e
body_grows statements_end = omega arith
body_grows (statements_next h t) = let g = body_grows t in omega (arith, g)

statement_deep : {d : ℕ} {ts : List Token} {x : St} {rest : List Token} → Statement d ts x rest → 1 ≤ d
statement_deep (is_simple s) = omega arith
statement_deep (if_ p t b e) = omega arith
statement_deep (while_ p t is q m s b) = omega arith
statement_deep (inline_if p q t b e) = omega arith

mutual
  statement_shorter : {d : ℕ} {ts : List Token} {x : St} {rest : List Token} → Statement d ts x rest → suc (length rest) ≤ length ts
  statement_shorter (is_simple {ts = ts} {rest = rest} {x = x} s) = simple_shorter ts x rest s
  statement_shorter (if_ {ts = ts} {a = a} {t = t} p tested b e) =
      let f = test_short (drop 1 ts) t a tested in let g = block_short b in let h = else_short e in let i = length-drop 1 ts in let j = word_left ts word.If p in omega (arith, f, g, h, i, j)
  statement_shorter (while_ {ts = ts} {a = a} {b = b} {c = c} {t = t} {m = m} {is = is} p tested invariants q measure s body) =
      let f = test_short (drop 1 ts) t a tested in
      let g = invariants_short a is b invariants in
      let h = expression_short (drop 1 b) m c measure in
      let i = block_short body in
      let j = length-drop 1 ts in
      let k = length-drop 1 b in
      let l = length-drop 1 c in
      let n = word_left ts word.While p in
      omega (arith, f, g, h, i, j, k, l, n)
  statement_shorter (inline_if {ts = ts} {a = a} {t = t} p q tested b e) =
      let f = test_short (drop 2 ts) t a tested in let g = block_short b in let h = else_short e in let i = length-drop 2 ts in let j = word_left ts word.Inline p in omega (arith, f, g, h, i, j)

  pub block_short : {d : ℕ} {ts : List Token} {xs : Sts} {rest : List Token} → Block d ts xs rest → length rest ≤ length ts
  block_short (is_block {ts = ts} {mid = mid} p b q) = let f = body_short b in let g = length-drop 1 ts in let h = length-drop 1 mid in omega (arith, f, g, h)

  body_short : {d : ℕ} {xs : Sts} {ts : List Token} {e : ℕ} {ys : Sts} {rest : List Token} → Body d xs ts e ys rest → length rest ≤ length ts
  body_short statements_end = omega arith
  body_short (statements_next h t) = let f = statement_shorter h in let g = body_short t in omega (arith, f, g)

  else_short : {d : ℕ} {ts : List Token} {y : Arm} {rest : List Token} → Else d ts y rest → length rest ≤ length ts
  else_short no_else = omega arith
  else_short (some_else {ts = ts} p b) = let f = block_short b in let g = length-drop 1 ts in omega (arith, f, g)

-- behind a statement of a list there is no `else`
body_follows : {d : ℕ} {xs : Sts} {ts : List Token} {e : ℕ} {ys : Sts} {rest : List Token} → Body d xs ts e ys rest → peek rest ≡ see.Mark mark.BraceClose → is_else (peek ts) ≡ false
body_follows statements_end p = ap is_else p
body_follows (statements_next h t) p = (statement_starts h).1

-- a part, with a limit one lower
statement_part : {d : ℕ} (ts : List Token) {x : St} {rest : List Token} → 1 ≤ d → ((b : ℕ) → d ≤ suc b → is_else (peek rest) ≡ false → statement_by (statement b) (peek ts) ts ≡ Some (statement_parse x d rest))
    → (b : ℕ) → d ≤ b → is_else (peek rest) ≡ false → statement b ts ≡ Some (statement_parse x d rest)
unfolding statement
statement_part ts deep go zero k l = absurd (omega (arith, deep, k))
statement_part ts deep go (suc b) k l = go b k l

body_next : (sub : Statements) (n : ℕ) (xs : Sts) (d : ℕ) (ts : List Token) (s : StatementParse) → is_mark mark.BraceClose (peek ts) ≡ false → sub ts ≡ Some s → body sub (suc n) xs d ts ≡ body sub n (sts_last xs s.tree) (max d s.height) s.rest
unfolding body
body_next sub n xs d ts s p e = rw (p, e) refl

body_end : (sub : Statements) (n : ℕ) (xs : Sts) (d : ℕ) (ts : List Token) → peek ts ≡ see.Mark mark.BraceClose → body sub (suc n) xs d ts ≡ Some (body_parse xs d (drop 1 ts))
unfolding body
body_end sub n xs d ts p = rw p refl

arms_of : {d e : ℕ} (a c : List Token) {xs : Sts} {y : Arm} {rest : List Token} (b : ℕ) → block (statement b) a ≡ Some (body_parse xs d c) → else_by (statement b) c ≡ Some (else_parse y e rest) → arms (statement b) a ≡ Some (branches xs y (suc (max d e)) rest)
arms_of {d = d} {e = e} a c {xs = xs} {y = y} {rest = rest} b first second =
    bound (block (statement b) a) (body_parse xs d c) (λ b'. and_then (else_by (statement b) b'.rest) (λ e. Some (branches b'.trees e.arm (suc (max b'.height e.height)) e.rest))) _ first
    (bound (else_by (statement b) c) (else_parse y e rest) (λ e. Some (branches xs e.arm (suc (max d e.height)) e.rest)) _ second refl)

mutual
  statement_of : {d : ℕ} {ts : List Token} {x : St} {rest : List Token} → Statement d ts x rest → (b : ℕ) → d ≤ suc b → is_else (peek rest) ≡ false → statement_by (statement b) (peek ts) ts ≡ Some (statement_parse x d rest)
  statement_of (is_simple {ts = ts} {rest = rest} {x = x} s) b k l =
      simple_statement (statement b) ts x rest s ∙ bound (simple ts) (x, rest) (λ x. Some (statement_parse x.0 1 x.1)) _ (simple_found ts x rest s) refl
  statement_of (if_ {d = d} {e = e} {ts = ts} {a = a} {rest = rest} {t = t} {xs = xs} {y = y} p tested first second) b k l =
      ap (λ f. statement_by (statement b) f ts) p
      ∙ bound (test (drop 1 ts)) (t, a) (λ t. and_then (arms (statement b) t.1) (λ a. Some (statement_parse (If (spot_of ts) t.0 a.first a.second) a.height a.rest))) _ (test_found (drop 1 ts) t a tested)
      (bound (arms (statement b) a) (branches xs y (suc (max d e)) rest) (λ a. Some (statement_parse (If (spot_of ts) t a.first a.second) a.height a.rest)) _ (arms_of a _ b (block_of first b (omega (arith, k))) (else_of second b (omega (arith, k)) l)) refl)
  statement_of (inline_if {d = d} {e = e} {ts = ts} {a = a} {rest = rest} {t = t} {xs = xs} {y = y} p q tested first second) b k l =
      ap (λ f. statement_by (statement b) f ts) p
      ∙ ap (λ f. inline_if_at (statement b) (spot_of ts) (only_if (is_if f) (test (drop 2 ts)))) q
      ∙ bound (test (drop 2 ts)) (t, a) (λ t. and_then (arms (statement b) t.1) (λ a. Some (statement_parse (InlineIf (spot_of ts) t.0 a.first a.second) a.height a.rest))) _ (test_found (drop 2 ts) t a tested)
      (bound (arms (statement b) a) (branches xs y (suc (max d e)) rest) (λ a. Some (statement_parse (InlineIf (spot_of ts) t a.first a.second) a.height a.rest)) _ (arms_of a _ b (block_of first b (omega (arith, k))) (else_of second b (omega (arith, k)) l)) refl)
  statement_of (while_ {d = d} {ts = ts} {a = a} {b = c} {c = u} {rest = rest} {t = t} {m = m} {is = is} {xs = xs} p tested invariants q measure s inner) b k l =
      ap (λ f. statement_by (statement b) f ts) p
      ∙ bound (test (drop 1 ts)) (t, a) (loop_at (statement b) (spot_of ts)) _ (test_found (drop 1 ts) t a tested)
      (bound (many is_invariant invariant_ (length a) [] a) (is, c) (λ is. and_then (only_if (is_decreases (peek is.1)) (expression_end is.1)) (λ m.
      and_then (block (statement b) m.1) (λ b. Some (statement_parse (While (spot_of ts) t is.0 m.0 b.trees) (suc b.height) b.rest)))) _ (invariants_found a is c invariants (ap is_invariant q))
      (bound (only_if (is_decreases (peek c)) (expression_end c)) (m, drop 1 u) (λ m. and_then (block (statement b) m.1) (λ b. Some (statement_parse (While (spot_of ts) t is m.0 b.trees) (suc b.height) b.rest))) _
      (ap (λ f. only_if (is_decreases f) (expression_end c)) q ∙ semicolon_found (drop 1 c) m u measure s)
      (bound (block (statement b) (drop 1 u)) (body_parse xs d rest) (λ b. Some (statement_parse (While (spot_of ts) t is m b.trees) (suc b.height) b.rest)) _ (block_of inner b (omega (arith, k))) refl)))

  pub block_of : {d : ℕ} {ts : List Token} {xs : Sts} {rest : List Token} → Block d ts xs rest → (b : ℕ) → d ≤ b → block (statement b) ts ≡ Some (body_parse xs d rest)
  block_of (is_block {d = d} {ts = ts} {mid = mid} {xs = xs} p inner q) b k =
      bound (expect mark.BraceOpen ts) (drop 1 ts) (λ rest. body (statement b) (length rest) no_sts 0 rest) _ (expect_found mark.BraceOpen ts refl p) (body_of inner b (length (drop 1 ts)) k (omega arith) q)

  body_of : {d : ℕ} {xs : Sts} {ts : List Token} {e : ℕ} {ys : Sts} {rest : List Token} → Body d xs ts e ys rest → (b n : ℕ) → e ≤ b → length ts ≤ n → peek rest ≡ see.Mark mark.BraceClose → body (statement b) n xs d ts ≡ Some (body_parse ys e (drop 1 rest))
  body_of {ts = ts} statements_end b zero k m p = let s = mark_left ts mark.BraceClose p in absurd (omega (arith, s, m))
  body_of {d = d} {xs = xs} {ts = ts} statements_end b (suc n) k m p = body_end (statement b) n xs d ts p
  body_of {ts = ts} (statements_next h t) b zero k m p = let s = statement_shorter h in absurd (omega (arith, s, m))
  body_of {d = d} {xs = xs} {ts = ts} (statements_next {e = e} {y = y} {mid = mid} h t) b (suc n) k m p =
      let g = body_grows t in
      let s = statement_shorter h in
      body_next (statement b) n xs d ts (statement_parse y e mid) (statement_starts h).0 (statement_part ts (statement_deep h) (statement_of h) b (omega (arith, g, k)) (body_follows t p))
      ∙ body_of t b n k (omega (arith, s, m)) p

  else_of : {d : ℕ} {ts : List Token} {y : Arm} {rest : List Token} → Else d ts y rest → (b : ℕ) → d ≤ b → is_else (peek rest) ≡ false → else_by (statement b) ts ≡ Some (else_parse y d rest)
  else_of {ts = ts} no_else b k l = ap (λ t. cond t (and_then (block (statement b) (drop 1 ts)) (λ b. Some (else_parse (arm b.trees) b.height b.rest))) (Some (else_parse no_arm 0 ts))) l
  else_of {ts = ts} (some_else {d = d} {rest = rest} {xs = xs} p inner) b k l =
      ap (λ f. cond (is_else f) (and_then (block (statement b) (drop 1 ts)) (λ b. Some (else_parse (arm b.trees) b.height b.rest))) (Some (else_parse no_arm 0 ts))) p
      ∙ bound (block (statement b) (drop 1 ts)) (body_parse xs d rest) (λ b. Some (else_parse (arm b.trees) b.height b.rest)) _ (block_of inner b k) refl
