-- One turn of the statements in braces.
use Rattle.std.proofs.Common.{◌≡◌, ◌≤◌, ◌-◌, ℕ, zero, suc, max, Bool, true, false, cond, List, [], ◌∷◌, ◌++◌, map, drop, Some, None, refl, ◌∙◌, ap, arith}
use Rattle.vale_syntax.specs.declared.token.Token.{Token}
use Rattle.vale_syntax.specs.declared.statement.Stmt.{Stmt}
use Rattle.vale_syntax.specs.declared.statement.LemmaStmt.{LemmaStmt}
use Rattle.vale_syntax.specs.declared.mark.Mark.TheVariants as mark
use Rattle.vale_syntax.specs.Peek.{peek}
use Rattle.vale_syntax.specs.Programs.{Sts, more_sts, LSts, more_lsts}
use Rattle.vale_syntax.specs.inner.CodeTrees.{stmt_tree, sts, lstmt_tree, lsts}
use Rattle.vale_syntax.specs.Statements.{sts_last, lsts_last}
use Rattle.vale_syntax.specs.inner.Marks.{is_mark}
use Rattle.vale_parser.specs.inner.Parts.{bind}
use Rattle.vale_parser.specs.inner.Productions.{StatementParse, body_parse, Statements, statement_by, statement, body, LStatementParse, lbody_parse, LStatements, lstatement_by, lstatement, lbody}

body_turn : (sub : Statements) (n m : ℕ) (xs : Sts) (d : ℕ) (ts : List Token) (b : Bool) → n ≡ suc m → b ≡ is_mark mark.BraceClose (peek ts)
    → body sub n xs d ts ≡ cond b (Some (body_parse xs d (drop 1 ts))) (bind (sub ts) (λ s. body sub m (sts_last xs s.tree) (max d s.height) s.rest))
unfolding body
body_turn sub n m xs d ts b e p = ap (λ k. body sub k xs d ts) e ∙ rw p refl

pub body_stop : (sub : Statements) (n m : ℕ) (xs : Sts) (d : ℕ) (ts : List Token) (b : Bool) → n ≡ suc m → b ≡ is_mark mark.BraceClose (peek ts) → b ≡ true → body sub n xs d ts ≡ Some (body_parse xs d (drop 1 ts))
body_stop sub n m xs d ts b e p q = body_turn sub n m xs d ts b e p ∙ rw q refl

pub body_fail : (sub : Statements) (n m : ℕ) (xs : Sts) (d : ℕ) (ts : List Token) (b : Bool) → n ≡ suc m → b ≡ is_mark mark.BraceClose (peek ts) → b ≡ false → sub ts ≡ None → body sub n xs d ts ≡ None
body_fail sub n m xs d ts b e p q h = body_turn sub n m xs d ts b e p ∙ rw (q, h) refl

pub body_go_on : (sub : Statements) (n m : ℕ) (xs : Sts) (d : ℕ) (ts : List Token) (b : Bool) (s : StatementParse) → n ≡ suc m → b ≡ is_mark mark.BraceClose (peek ts) → b ≡ false → sub ts ≡ Some s
    → body sub n xs d ts ≡ body sub m (sts_last xs s.tree) (max d s.height) s.rest
body_go_on sub n m xs d ts b s e p q h = body_turn sub n m xs d ts b e p ∙ rw (q, h) refl

pub body_done : (sub : Statements) (n : ℕ) (xs : Sts) (d : ℕ) (ts : List Token) → n ≡ 0 → body sub n xs d ts ≡ None
unfolding body
body_done sub n xs d ts e = ap (λ k. body sub k xs d ts) e

pub sts_last_is : (xs : List Stmt) (y : Stmt) → sts (map stmt_tree (xs ++ y ∷ [])) ≡ sts_last (sts (map stmt_tree xs)) (stmt_tree y)
sts_last_is [] y = refl
sts_last_is (x ∷ xs) y = ap (more_sts (stmt_tree x)) (sts_last_is xs y)

pub statement_is : (n : ℕ) (ts : List Token) → 1 ≤ n → statement n ts ≡ statement_by (statement (n - 1)) (peek ts) ts
unfolding statement
statement_is zero ts h = absurd (omega (arith, h))
statement_is (suc n) ts h = ap (λ k. statement_by (statement k) (peek ts) ts) (less n)
  where
    less : (n : ℕ) → n ≡ suc n - 1
    less n = omega arith

-- the same for lemmas
lbody_turn : (sub : LStatements) (n m : ℕ) (xs : LSts) (d : ℕ) (ts : List Token) (b : Bool) → n ≡ suc m → b ≡ is_mark mark.BraceClose (peek ts)
    → lbody sub n xs d ts ≡ cond b (Some (lbody_parse xs d (drop 1 ts))) (bind (sub ts) (λ s. lbody sub m (lsts_last xs s.tree) (max d s.height) s.rest))
unfolding lbody
lbody_turn sub n m xs d ts b e p = ap (λ k. lbody sub k xs d ts) e ∙ rw p refl

pub lbody_stop : (sub : LStatements) (n m : ℕ) (xs : LSts) (d : ℕ) (ts : List Token) (b : Bool) → n ≡ suc m → b ≡ is_mark mark.BraceClose (peek ts) → b ≡ true → lbody sub n xs d ts ≡ Some (lbody_parse xs d (drop 1 ts))
lbody_stop sub n m xs d ts b e p q = lbody_turn sub n m xs d ts b e p ∙ rw q refl

pub lbody_fail : (sub : LStatements) (n m : ℕ) (xs : LSts) (d : ℕ) (ts : List Token) (b : Bool) → n ≡ suc m → b ≡ is_mark mark.BraceClose (peek ts) → b ≡ false → sub ts ≡ None → lbody sub n xs d ts ≡ None
lbody_fail sub n m xs d ts b e p q h = lbody_turn sub n m xs d ts b e p ∙ rw (q, h) refl

pub lbody_go_on : (sub : LStatements) (n m : ℕ) (xs : LSts) (d : ℕ) (ts : List Token) (b : Bool) (s : LStatementParse) → n ≡ suc m → b ≡ is_mark mark.BraceClose (peek ts) → b ≡ false → sub ts ≡ Some s
    → lbody sub n xs d ts ≡ lbody sub m (lsts_last xs s.tree) (max d s.height) s.rest
lbody_go_on sub n m xs d ts b s e p q h = lbody_turn sub n m xs d ts b e p ∙ rw (q, h) refl

pub lbody_done : (sub : LStatements) (n : ℕ) (xs : LSts) (d : ℕ) (ts : List Token) → n ≡ 0 → lbody sub n xs d ts ≡ None
unfolding lbody
lbody_done sub n xs d ts e = ap (λ k. lbody sub k xs d ts) e

pub lsts_last_is : (xs : List LemmaStmt) (y : LemmaStmt) → lsts (map lstmt_tree (xs ++ y ∷ [])) ≡ lsts_last (lsts (map lstmt_tree xs)) (lstmt_tree y)
lsts_last_is [] y = refl
lsts_last_is (x ∷ xs) y = ap (more_lsts (lstmt_tree x)) (lsts_last_is xs y)

pub lstatement_is : (n : ℕ) (ts : List Token) → 1 ≤ n → lstatement n ts ≡ lstatement_by (lstatement (n - 1)) (peek ts) ts
unfolding lstatement
lstatement_is zero ts h = absurd (omega (arith, h))
lstatement_is (suc n) ts h = ap (λ k. lstatement_by (lstatement k) (peek ts) ts) (less n)
  where
    less : (n : ℕ) → n ≡ suc n - 1
    less n = omega arith
