-- Statements of lemmas that are spelled are found.
use Rattle.std.proofs.Common.{◌≡◌, ℕ, zero, suc, ◌≤◌, max, false, cond, List, length, drop, length-drop, Some, refl, ◌∙◌, ap, arith}
use Rattle.x64_syntax.specs.declared.keywords.Keyword.TheVariants as word
use Rattle.vale_syntax.specs.declared.token.Token.{Token}
use Rattle.vale_syntax.specs.declared.mark.Mark.TheVariants as mark
use Rattle.vale_syntax.specs.declared.lookahead.Lookahead.TheVariants as see
use Rattle.vale_syntax.specs.Peek.{peek, spot_of}
use Rattle.vale_syntax.specs.Trees.{Ex}
use Rattle.vale_syntax.specs.Expressions.{name_of}
use Rattle.vale_syntax.specs.Lists.{ClosedList}
use Rattle.vale_syntax.specs.Programs.{LSt, LSts, no_lsts, LArm, no_larm, larm, LCall, LAssert, LIf}
use Rattle.vale_syntax.specs.Statements.{Expression, lsts_last, LStatement, lcall as is_lcall, lassert, lif, LBlock, lblock as is_lblock, LBody, lstatements_end, lstatements_next, LElse, no_lelse, some_lelse}
use Rattle.vale_parser.specs.inner.Productions.{expression}
use Rattle.vale_syntax.specs.inner.Marks.{is_mark}
use Rattle.vale_parser.specs.inner.Parts.{bind as and_then, expect, before, closed_list}
use Rattle.vale_parser.specs.inner.Productions.{is_else, expression_end, test, LStatementParse, LStatements, lstatement_parse, lbody_parse, lelse_parse, lbranches, lbody, lblock, lelse_by, larms, lstatement_by, lstatement}
use Rattle.vale_parser.proofs.Parts.{bound, expect_found, mark_left, word_left, closed_found, closed_short}
use Rattle.vale_parser.proofs.Found.{Ends, expression_found, expression_short, semicolon_found}
use Rattle.vale_parser.proofs.FoundArguments.{expression_starts}
use Rattle.vale_parser.proofs.FoundStatements.{expect_at, before_of, test_found, test_short, ends_comma, ends_close}

pub expressions_found : (ts : List Token) (xs : List Ex) (rest : List Token) → ClosedList Expression ts xs rest → closed_list expression ts ≡ Some (xs, rest)
expressions_found = closed_found Expression expression Ends expression_found expression_short ends_comma ends_close expression_starts

pub statement_starts : {d : ℕ} {ts : List Token} {x : LSt} {rest : List Token} → LStatement d ts x rest → (is_mark mark.BraceClose (peek ts) ≡ false) × (is_else (peek ts) ≡ false)
statement_starts (is_lcall p q c s) = (ap (is_mark mark.BraceClose) p, ap is_else p)
statement_starts (lassert p e s) = (ap (is_mark mark.BraceClose) p, ap is_else p)
statement_starts (lif p t b e) = (ap (is_mark mark.BraceClose) p, ap is_else p)

body_grows : {d : ℕ} {xs : LSts} {ts : List Token} {e : ℕ} {ys : LSts} {rest : List Token} → LBody d xs ts e ys rest → d ≤ e
body_grows lstatements_end = omega arith
body_grows (lstatements_next h t) = let g = body_grows t in omega (arith, g)

statement_deep : {d : ℕ} {ts : List Token} {x : LSt} {rest : List Token} → LStatement d ts x rest → 1 ≤ d
statement_deep (is_lcall p q c s) = omega arith
statement_deep (lassert p e s) = omega arith
statement_deep (lif p t b e) = omega arith

mutual
  statement_shorter : {d : ℕ} {ts : List Token} {x : LSt} {rest : List Token} → LStatement d ts x rest → suc (length rest) ≤ length ts
  statement_shorter (is_lcall {ts = ts} {mid = mid} {a = a} p q c s) =
      let f = closed_short Expression expression Ends expression_found expression_short (drop 2 ts) a mid c in let g = length-drop 2 ts in let h = length-drop 1 mid in let i = mark_left mid mark.Semicolon s in omega (arith, f, g, h, i)
  statement_shorter (lassert {ts = ts} {mid = mid} {x = x} p e s) =
      let f = expression_short (drop 1 ts) x mid e in let g = length-drop 1 ts in let h = length-drop 1 mid in let i = mark_left mid mark.Semicolon s in omega (arith, f, g, h, i)
  statement_shorter (lif {ts = ts} {a = a} {t = t} p tested b e) =
      let f = test_short (drop 1 ts) t a tested in let g = block_short b in let h = else_short e in let i = length-drop 1 ts in let j = word_left ts word.If p in omega (arith, f, g, h, i, j)

  pub block_short : {d : ℕ} {ts : List Token} {xs : LSts} {rest : List Token} → LBlock d ts xs rest → length rest ≤ length ts
  block_short (is_lblock {ts = ts} {mid = mid} p b q) = let f = body_short b in let g = length-drop 1 ts in let h = length-drop 1 mid in omega (arith, f, g, h)

  body_short : {d : ℕ} {xs : LSts} {ts : List Token} {e : ℕ} {ys : LSts} {rest : List Token} → LBody d xs ts e ys rest → length rest ≤ length ts
  body_short lstatements_end = omega arith
  body_short (lstatements_next h t) = let f = statement_shorter h in let g = body_short t in omega (arith, f, g)

  else_short : {d : ℕ} {ts : List Token} {y : LArm} {rest : List Token} → LElse d ts y rest → length rest ≤ length ts
  else_short no_lelse = omega arith
  else_short (some_lelse {ts = ts} p b) = let f = block_short b in let g = length-drop 1 ts in omega (arith, f, g)

body_follows : {d : ℕ} {xs : LSts} {ts : List Token} {e : ℕ} {ys : LSts} {rest : List Token} → LBody d xs ts e ys rest → peek rest ≡ see.Mark mark.BraceClose → is_else (peek ts) ≡ false
body_follows lstatements_end p = ap is_else p
body_follows (lstatements_next h t) p = (statement_starts h).1

statement_part : {d : ℕ} (ts : List Token) {x : LSt} {rest : List Token} → 1 ≤ d → ((b : ℕ) → d ≤ suc b → is_else (peek rest) ≡ false → lstatement_by (lstatement b) (peek ts) ts ≡ Some (lstatement_parse x d rest))
    → (b : ℕ) → d ≤ b → is_else (peek rest) ≡ false → lstatement b ts ≡ Some (lstatement_parse x d rest)
unfolding lstatement
statement_part ts deep go zero k l = absurd (omega (arith, deep, k))
statement_part ts deep go (suc b) k l = go b k l

body_next : (sub : LStatements) (n : ℕ) (xs : LSts) (d : ℕ) (ts : List Token) (s : LStatementParse) → is_mark mark.BraceClose (peek ts) ≡ false → sub ts ≡ Some s → lbody sub (suc n) xs d ts ≡ lbody sub n (lsts_last xs s.tree) (max d s.height) s.rest
unfolding lbody
body_next sub n xs d ts s p e = rw (p, e) refl

body_end : (sub : LStatements) (n : ℕ) (xs : LSts) (d : ℕ) (ts : List Token) → peek ts ≡ see.Mark mark.BraceClose → lbody sub (suc n) xs d ts ≡ Some (lbody_parse xs d (drop 1 ts))
unfolding lbody
body_end sub n xs d ts p = rw p refl

arms_of : {d e : ℕ} (a c : List Token) {xs : LSts} {y : LArm} {rest : List Token} (b : ℕ) → lblock (lstatement b) a ≡ Some (lbody_parse xs d c) → lelse_by (lstatement b) c ≡ Some (lelse_parse y e rest) → larms (lstatement b) a ≡ Some (lbranches xs y (suc (max d e)) rest)
arms_of {d = d} {e = e} a c {xs = xs} {y = y} {rest = rest} b first second =
    bound (lblock (lstatement b) a) (lbody_parse xs d c) (λ b'. and_then (lelse_by (lstatement b) b'.rest) (λ e. Some (lbranches b'.trees e.arm (suc (max b'.height e.height)) e.rest))) _ first
    (bound (lelse_by (lstatement b) c) (lelse_parse y e rest) (λ e. Some (lbranches xs e.arm (suc (max d e.height)) e.rest)) _ second refl)

mutual
  statement_of : {d : ℕ} {ts : List Token} {x : LSt} {rest : List Token} → LStatement d ts x rest → (b : ℕ) → d ≤ suc b → is_else (peek rest) ≡ false → lstatement_by (lstatement b) (peek ts) ts ≡ Some (lstatement_parse x d rest)
  statement_of (is_lcall {ts = ts} {mid = mid} {a = a} p q c s) b k l =
      ap (λ f. lstatement_by (lstatement b) f ts) p
      ∙ bound (expect mark.RoundOpen (drop 1 ts)) (drop 2 ts) (λ rest. and_then (before mark.Semicolon (closed_list expression rest)) (λ a. Some (lstatement_parse (LCall (name_of ts) a.0) 1 a.1))) _ (expect_at mark.RoundOpen 1 ts refl q)
      (bound (before mark.Semicolon (closed_list expression (drop 2 ts))) (a, drop 1 mid) (λ a. Some (lstatement_parse (LCall (name_of ts) a.0) 1 a.1)) _ (before_of mark.Semicolon (closed_list expression (drop 2 ts)) a mid (expressions_found (drop 2 ts) a mid c) refl s) refl)
  statement_of (lassert {ts = ts} {mid = mid} {x = x} p e s) b k l =
      ap (λ f. lstatement_by (lstatement b) f ts) p ∙ bound (expression_end ts) (x, drop 1 mid) (λ x. Some (lstatement_parse (LAssert (spot_of ts) x.0) 1 x.1)) _ (semicolon_found (drop 1 ts) x mid e s) refl
  statement_of (lif {d = d} {e = e} {ts = ts} {a = a} {rest = rest} {t = t} {xs = xs} {y = y} p tested first second) b k l =
      ap (λ f. lstatement_by (lstatement b) f ts) p
      ∙ bound (test (drop 1 ts)) (t, a) (λ t. and_then (larms (lstatement b) t.1) (λ a. Some (lstatement_parse (LIf (spot_of ts) t.0 a.first a.second) a.height a.rest))) _ (test_found (drop 1 ts) t a tested)
      (bound (larms (lstatement b) a) (lbranches xs y (suc (max d e)) rest) (λ a. Some (lstatement_parse (LIf (spot_of ts) t a.first a.second) a.height a.rest)) _
      (arms_of a _ b (block_of first b (omega (arith, k))) (else_of second b (omega (arith, k)) l)) refl)

  pub block_of : {d : ℕ} {ts : List Token} {xs : LSts} {rest : List Token} → LBlock d ts xs rest → (b : ℕ) → d ≤ b → lblock (lstatement b) ts ≡ Some (lbody_parse xs d rest)
  block_of (is_lblock {d = d} {ts = ts} {mid = mid} {xs = xs} p inner q) b k =
      bound (expect mark.BraceOpen ts) (drop 1 ts) (λ rest. lbody (lstatement b) (length rest) no_lsts 0 rest) _ (expect_found mark.BraceOpen ts refl p) (body_of inner b (length (drop 1 ts)) k (omega arith) q)

  body_of : {d : ℕ} {xs : LSts} {ts : List Token} {e : ℕ} {ys : LSts} {rest : List Token} → LBody d xs ts e ys rest → (b n : ℕ) → e ≤ b → length ts ≤ n → peek rest ≡ see.Mark mark.BraceClose → lbody (lstatement b) n xs d ts ≡ Some (lbody_parse ys e (drop 1 rest))
  body_of {ts = ts} lstatements_end b zero k m p = let s = mark_left ts mark.BraceClose p in absurd (omega (arith, s, m))
  body_of {d = d} {xs = xs} {ts = ts} lstatements_end b (suc n) k m p = body_end (lstatement b) n xs d ts p
  body_of {ts = ts} (lstatements_next h t) b zero k m p = let s = statement_shorter h in absurd (omega (arith, s, m))
  body_of {d = d} {xs = xs} {ts = ts} (lstatements_next {e = e} {y = y} {mid = mid} h t) b (suc n) k m p =
      let g = body_grows t in
      let s = statement_shorter h in
      body_next (lstatement b) n xs d ts (lstatement_parse y e mid) (statement_starts h).0 (statement_part ts (statement_deep h) (statement_of h) b (omega (arith, g, k)) (body_follows t p))
      ∙ body_of t b n k (omega (arith, s, m)) p

  else_of : {d : ℕ} {ts : List Token} {y : LArm} {rest : List Token} → LElse d ts y rest → (b : ℕ) → d ≤ b → is_else (peek rest) ≡ false → lelse_by (lstatement b) ts ≡ Some (lelse_parse y d rest)
  else_of {ts = ts} no_lelse b k l = ap (λ t. cond t (and_then (lblock (lstatement b) (drop 1 ts)) (λ b. Some (lelse_parse (larm b.trees) b.height b.rest))) (Some (lelse_parse no_larm 0 ts))) l
  else_of {ts = ts} (some_lelse {d = d} {rest = rest} {xs = xs} p inner) b k l =
      ap (λ f. cond (is_else f) (and_then (lblock (lstatement b) (drop 1 ts)) (λ b. Some (lelse_parse (larm b.trees) b.height b.rest))) (Some (lelse_parse no_larm 0 ts))) p
      ∙ bound (lblock (lstatement b) (drop 1 ts)) (lbody_parse xs d rest) (λ b. Some (lelse_parse (larm b.trees) b.height b.rest)) _ (block_of inner b k) refl
