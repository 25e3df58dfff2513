-- What is found is spelled: clauses and declarations.
use Rattle.std.proofs.Common.{◌≡◌, ℕ, ◌+◌, true, List, [], length, drop, Option, Some, None, refl, sym, ◌∙◌, ap, subst, arith}
use Rattle.std.proofs.lemmas.Bool.{false≢true}
use Rattle.x64_syntax.specs.declared.keywords.Keyword.TheVariants as word
use Rattle.vale_syntax.specs.declared.token.Token.{Token}
use Rattle.vale_syntax.specs.declared.mark.Mark.{Mark}
use Rattle.vale_syntax.specs.declared.mark.Mark.TheVariants as mark
use Rattle.vale_syntax.specs.declared.lookahead.Lookahead.{Lookahead}
use Rattle.vale_syntax.specs.declared.lookahead.Lookahead.TheVariants as see
use Rattle.vale_syntax.specs.declared.expr.Name.{Name}
use Rattle.vale_syntax.specs.declared.statement.SortName.{SortName}
use Rattle.vale_syntax.specs.declared.declaration.Bind.{Bind}
use Rattle.vale_syntax.specs.Peek.{peek, spot_of}
use Rattle.vale_syntax.specs.Expressions.{name_of}
use Rattle.vale_syntax.specs.Lists.{ClosedList}
use Rattle.vale_syntax.specs.Programs.{Cl, Reads, Modifies, Requires, Ensures, Stack, Abi, LCl, LRequires, LEnsures, LDecreases, De, Procedure, Lemma, Function, Export}
use Rattle.vale_syntax.specs.Statements.{Expression, sort_at, statement_limit}
use Rattle.vale_syntax.specs.Declarations.{IsName, IsBind, IsPlace, IsParam, abi_at, IsClause, reads, modifies, requires_, ensures_, stack, abi_, IsLClause, lrequires, lensures, ldecreases, Head, Declaration, procedure_ as is_procedure, lemma_ as is_lemma, function_ as is_function, recursive, export_ as is_export}
use Rattle.vale_parser.specs.inner.Productions.{expression}
use Rattle.vale_parser.specs.inner.Parts.{bind as and_then, expect, before, comma_list, closed_list, many}
use Rattle.vale_parser.specs.inner.Productions.{only_if, is_zero, is_step, name, sort_behind, bind, place, parameter, expression_end, clause_by, clause, begins_clause, lclause_by, lclause, begins_lclause, head, block, statement, lblock, lstatement, procedure_, lemma_, header, result_by, result_at, function_, export_, declaration_by, declaration}
use Rattle.vale_parser.proofs.Parts.{bind_some, separated_sound, closed_sound, many_sound}
use Rattle.vale_parser.proofs.Found.{dd}
use Rattle.vale_parser.proofs.Sound.{pair_of, finish, on_asked, on_name, on_expect, on_sort, on_before, before_is, expression_sound, name_sound, bind_sound, place_sound, parameter_sound}
use Rattle.vale_parser.proofs.SoundStatements.{statements_sound}
use Rattle.vale_parser.proofs.SoundLemmas.{statements_sound as lstatements_sound}

clause_by_sound : (ts : List Token) (c : Cl) (rest : List Token) (f : Lookahead) → peek ts ≡ f → clause_by f ts ≡ Some (c, rest) → IsClause ts c rest
clause_by_sound ts c rest (see.Keyword word.Reads) e h =
    let (ps, mid, r, s, t) = on_before mark.Semicolon (comma_list place (drop 1 ts)) (λ p. Some (Reads (spot_of ts) p.0, p.1)) (c, rest) h in
    finish IsClause ts _ (c, rest) t (reads e (separated_sound IsPlace place place_sound (drop 1 ts) ps mid r) s)
clause_by_sound ts c rest (see.Keyword word.Modifies) e h =
    let (ns, mid, r, s, t) = on_before mark.Semicolon (comma_list name (drop 1 ts)) (λ p. Some (Modifies (spot_of ts) p.0, p.1)) (c, rest) h in
    finish IsClause ts _ (c, rest) t (modifies e (separated_sound IsName name name_sound (drop 1 ts) ns mid r) s)
clause_by_sound ts c rest (see.Keyword word.Requires) e h =
    let (y, mid, r, s, t) = on_before mark.Semicolon (expression (drop 1 ts)) (λ x. Some (Requires (spot_of ts) x.0, x.1)) (c, rest) h in
    finish IsClause ts _ (c, rest) t (requires_ e (expression_sound (drop 1 ts) y mid r) s)
clause_by_sound ts c rest (see.Keyword word.Ensures) e h =
    let (y, mid, r, s, t) = on_before mark.Semicolon (expression (drop 1 ts)) (λ x. Some (Ensures (spot_of ts) x.0, x.1)) (c, rest) h in
    finish IsClause ts _ (c, rest) t (ensures_ e (expression_sound (drop 1 ts) y mid r) s)
clause_by_sound ts c rest (see.Keyword word.Stack) e h =
    let (y, mid, r, s, t) = on_before mark.Semicolon (expression (drop 1 ts)) (λ x. Some (Stack (spot_of ts) x.0, x.1)) (c, rest) h in
    finish IsClause ts _ (c, rest) t (stack e (expression_sound (drop 1 ts) y mid r) s)
clause_by_sound ts c rest (see.Keyword word.Abi) e h =
    let (a, p, q) = bind_some (abi_at (drop 1 ts)) (λ a. and_then (expect mark.Semicolon (drop 1 (drop 1 ts))) (λ rest. Some (Abi (spot_of ts) a, rest))) (c, rest) h in
    let r = on_expect mark.Semicolon 2 ts (λ rest. Some (Abi (spot_of ts) a, rest)) (c, rest) (ap (λ l. and_then (expect mark.Semicolon l) (λ rest. Some (Abi (spot_of ts) a, rest))) (sym (dd 1 1 ts)) ∙ q) in
    finish IsClause ts _ (c, rest) r.1 (abi_ e p r.0)
clause_by_sound ts c rest _ e h = absurd cc

clause_sound : (ts : List Token) (c : Cl) (rest : List Token) → clause ts ≡ Some (c, rest) → IsClause ts c rest
unfolding clause
clause_sound ts c rest h = clause_by_sound ts c rest (peek ts) refl h

lclause_by_sound : (ts : List Token) (c : LCl) (rest : List Token) (f : Lookahead) → peek ts ≡ f → lclause_by f ts ≡ Some (c, rest) → IsLClause ts c rest
lclause_by_sound ts c rest (see.Keyword word.Requires) e h =
    let (y, mid, r, s, t) = on_before mark.Semicolon (expression (drop 1 ts)) (λ x. Some (LRequires (spot_of ts) x.0, x.1)) (c, rest) h in
    finish IsLClause ts _ (c, rest) t (lrequires e (expression_sound (drop 1 ts) y mid r) s)
lclause_by_sound ts c rest (see.Keyword word.Ensures) e h =
    let (y, mid, r, s, t) = on_before mark.Semicolon (expression (drop 1 ts)) (λ x. Some (LEnsures (spot_of ts) x.0, x.1)) (c, rest) h in
    finish IsLClause ts _ (c, rest) t (lensures e (expression_sound (drop 1 ts) y mid r) s)
lclause_by_sound ts c rest (see.Keyword word.Decreases) e h =
    let (y, mid, r, s, t) = on_before mark.Semicolon (expression (drop 1 ts)) (λ x. Some (LDecreases (spot_of ts) x.0, x.1)) (c, rest) h in
    finish IsLClause ts _ (c, rest) t (ldecreases e (expression_sound (drop 1 ts) y mid r) s)
lclause_by_sound ts c rest _ e h = absurd cc

lclause_sound : (ts : List Token) (c : LCl) (rest : List Token) → lclause ts ≡ Some (c, rest) → IsLClause ts c rest
unfolding lclause
lclause_sound ts c rest h = lclause_by_sound ts c rest (peek ts) refl h

zero_is : (f : Lookahead) → is_zero f ≡ true → f ≡ see.Keyword word.Zero
zero_is (see.Keyword word.Zero) h = refl
zero_is _ h = absurd (false≢true h)

step_is : (f : Lookahead) → is_step f ≡ true → f ≡ see.Keyword word.Step
step_is (see.Keyword word.Step) h = refl
step_is _ h = absurd (false≢true h)

-- a name and the mark behind it, some tokens behind
on_name_before : {B : Type 0} (m : Mark) (k : ℕ) (ts : List Token) (F : Name × List Token → Option B) (y : B) → and_then (before m (name (drop k ts))) F ≡ Some y
    → (peek (drop k ts) ≡ see.Name) × (peek (drop (k + 1) ts) ≡ see.Mark m) × (F (name_of (drop k ts), drop (k + 2) ts) ≡ Some y)
on_name_before m k ts F y h =
    let (p, q, r) = bind_some (before m (name (drop k ts))) F y h in
    let (mid, a, b, c) = before_is m (name (drop k ts)) p.0 p.1 q in
    let s = on_name k ts Some (p.0, mid) (same_option (name (drop k ts)) ∙ a) in
    let t = pair_of (name_of (drop k ts), drop (k + 1) ts) (p.0, mid) s.1 in
    let behind = sym c ∙ ap (λ l. drop 1 l) (sym t.1) ∙ dd (k + 1) 1 ts ∙ ap (λ n. drop n ts) (two k) in
    (s.0, ap peek t.1 ∙ b, subst (λ l. F (name_of (drop k ts), l) ≡ Some y) behind (subst (λ n. F (n, p.1) ≡ Some y) (sym t.0) r))
  where
    same_option : {A : Type 0} (o : Option A) → and_then o Some ≡ o
    same_option None = refl
    same_option (Some x) = refl

    two : (k : ℕ) → k + 1 + 1 ≡ k + 2
    two k = omega arith

-- a keyword's declaration, behind its head
on_head : {B : Type 0} (k : Lookahead) (ts : List Token) (F : Name × List Token → Option B) (y : B) → peek ts ≡ k → and_then (head ts) F ≡ Some y → Head k ts × (F (name_of (drop 1 ts), drop 3 ts) ≡ Some y)
on_head k ts F y e h = let a = on_name_before mark.RoundOpen 1 ts F y h in (record { keyword = e; is_name = a.0; opens = a.1 }, a.2)

procedure_sound : (ts : List Token) (x : De) (rest : List Token) → peek ts ≡ see.Keyword word.Procedure → procedure_ ts ≡ Some (x, rest) → Declaration ts x rest
procedure_sound ts x rest e h =
    let a = on_head (see.Keyword word.Procedure) ts (λ n. and_then (closed_list parameter n.1) (λ ps. and_then (many begins_clause clause (length ps.1) [] ps.1) (λ cs.
    and_then (block (statement statement_limit) cs.1) (λ b. Some (Procedure (spot_of ts) n.0 ps.0 cs.0 b.trees, b.rest))))) (x, rest) e h in
    let (ps, p, q) = bind_some (closed_list parameter (drop 3 ts)) (λ ps. and_then (many begins_clause clause (length ps.1) [] ps.1) (λ cs.
    and_then (block (statement statement_limit) cs.1) (λ b. Some (Procedure (spot_of ts) (name_of (drop 1 ts)) ps.0 cs.0 b.trees, b.rest)))) (x, rest) a.1 in
    let (cs, r, s) = bind_some (many begins_clause clause (length ps.1) [] ps.1) (λ cs. and_then (block (statement statement_limit) cs.1) (λ b. Some (Procedure (spot_of ts) (name_of (drop 1 ts)) ps.0 cs.0 b.trees, b.rest))) (x, rest) q in
    let (b, t, u) = bind_some (block (statement statement_limit) cs.1) (λ b. Some (Procedure (spot_of ts) (name_of (drop 1 ts)) ps.0 cs.0 b.trees, b.rest)) (x, rest) s in
    let c = statements_sound statement_limit cs.1 b t in
    finish Declaration ts _ (x, rest) u (is_procedure a.0 (closed_sound IsParam parameter parameter_sound (drop 3 ts) ps.0 ps.1 p) (many_sound IsClause clause clause_sound begins_clause (length ps.1) [] ps.1 cs.0 cs.1 r) c.1 c.0)

lemma_sound : (ts : List Token) (x : De) (rest : List Token) → peek ts ≡ see.Keyword word.Lemma → lemma_ ts ≡ Some (x, rest) → Declaration ts x rest
lemma_sound ts x rest e h =
    let a = on_head (see.Keyword word.Lemma) ts (λ n. and_then (closed_list bind n.1) (λ bs. and_then (many begins_lclause lclause (length bs.1) [] bs.1) (λ cs.
    and_then (lblock (lstatement statement_limit) cs.1) (λ b. Some (Lemma (spot_of ts) n.0 bs.0 cs.0 b.trees, b.rest))))) (x, rest) e h in
    let (bs, p, q) = bind_some (closed_list bind (drop 3 ts)) (λ bs. and_then (many begins_lclause lclause (length bs.1) [] bs.1) (λ cs.
    and_then (lblock (lstatement statement_limit) cs.1) (λ b. Some (Lemma (spot_of ts) (name_of (drop 1 ts)) bs.0 cs.0 b.trees, b.rest)))) (x, rest) a.1 in
    let (cs, r, s) = bind_some (many begins_lclause lclause (length bs.1) [] bs.1) (λ cs. and_then (lblock (lstatement statement_limit) cs.1) (λ b. Some (Lemma (spot_of ts) (name_of (drop 1 ts)) bs.0 cs.0 b.trees, b.rest))) (x, rest) q in
    let (b, t, u) = bind_some (lblock (lstatement statement_limit) cs.1) (λ b. Some (Lemma (spot_of ts) (name_of (drop 1 ts)) bs.0 cs.0 b.trees, b.rest)) (x, rest) s in
    let c = lstatements_sound statement_limit cs.1 b t in
    finish Declaration ts _ (x, rest) u (is_lemma a.0 (closed_sound IsBind bind bind_sound (drop 3 ts) bs.0 bs.1 p) (many_sound IsLClause lclause lclause_sound begins_lclause (length bs.1) [] bs.1 cs.0 cs.1 r) c.1 c.0)

result_sound : (ts a : List Token) (bs : List Bind) (s : SortName) (x : De) (rest : List Token) → Head (see.Keyword word.Function) ts → ClosedList IsBind (drop 3 ts) bs a → peek a ≡ see.Mark mark.Colon → sort_at (drop 1 a) ≡ Some s
    → (f : Lookahead) → peek (drop 2 a) ≡ f → result_by (header (spot_of ts) (name_of (drop 1 ts)) bs s) f (drop 2 a) ≡ Some (x, rest) → Declaration ts x rest
result_sound ts a bs s x rest hd c p q (see.Mark mark.Equals) e h =
    let (y, mid, r, t, u) = on_before mark.Semicolon (expression (drop 1 (drop 2 a))) (λ y. Some (Function (spot_of ts) (name_of (drop 1 ts)) bs s None y.0, y.1)) (x, rest) h in
    finish Declaration ts _ (x, rest) u (is_function hd c p q e (subst (λ l. Expression l y mid) (dd 2 1 a) (expression_sound (drop 1 (drop 2 a)) y mid r)) t)
result_sound ts a bs s x rest hd c p q (see.Mark mark.BraceOpen) e h =
    let us = drop 1 (drop 2 a) in
    let (y, r, t) = bind_some (only_if (is_zero (peek us)) (expression_end us)) (λ x. and_then (only_if (is_step (peek x.1)) (expression_end x.1)) (λ y.
    and_then (expect mark.BraceClose y.1) (λ rest. Some (Function (spot_of ts) (name_of (drop 1 ts)) bs s (Some x.0) y.0, rest)))) (x, rest) h in
    let (z, u, v) = bind_some (only_if (is_step (peek y.1)) (expression_end y.1)) (λ z. and_then (expect mark.BraceClose z.1) (λ rest. Some (Function (spot_of ts) (name_of (drop 1 ts)) bs s (Some y.0) z.0, rest))) (x, rest) t in
    let g = on_asked (is_zero (peek us)) (expression_end us) y r in
    let i = on_asked (is_step (peek y.1)) (expression_end y.1) z u in
    let (b, j, k, l) = before_is mark.Semicolon (expression (drop 1 us)) y.0 y.1 g.1 in
    let (d, m, n, o) = before_is mark.Semicolon (expression (drop 1 y.1)) z.0 z.1 i.1 in
    let w = on_expect mark.BraceClose 1 d (λ rest. Some (Function (spot_of ts) (name_of (drop 1 ts)) bs s (Some y.0) z.0, rest)) (x, rest) (ap (λ l. and_then (expect mark.BraceClose l) (λ rest. Some (Function (spot_of ts) (name_of (drop 1 ts)) bs s (Some y.0) z.0, rest))) o ∙ v) in
    finish Declaration ts _ (x, rest) w.1
    (recursive hd c p q e (ap peek (sym (dd 2 1 a)) ∙ zero_is (peek us) g.0) (subst (λ l. Expression l y.0 b) (dd 1 1 (drop 2 a) ∙ dd 2 2 a) (expression_sound (drop 1 us) y.0 b j)) k
    (ap peek l ∙ step_is (peek y.1) i.0) (subst (λ l. Expression l z.0 d) (ap (λ l. drop 1 l) (sym l) ∙ dd 1 1 b) (expression_sound (drop 1 y.1) z.0 d m)) n w.0)
result_sound ts a bs s x rest hd c p q _ e h = absurd cc

function_sound : (ts : List Token) (x : De) (rest : List Token) → peek ts ≡ see.Keyword word.Function → function_ ts ≡ Some (x, rest) → Declaration ts x rest
function_sound ts x rest e h =
    let a = on_head (see.Keyword word.Function) ts (λ n. and_then (closed_list bind n.1) (λ bs. and_then (sort_behind bs.1) (λ s. result_at (header (spot_of ts) n.0 bs.0 s.0) s.1))) (x, rest) e h in
    let (bs, p, q) = bind_some (closed_list bind (drop 3 ts)) (λ bs. and_then (sort_behind bs.1) (λ s. result_at (header (spot_of ts) (name_of (drop 1 ts)) bs.0 s.0) s.1)) (x, rest) a.1 in
    let (s, b, c, d) = on_sort 0 bs.1 (λ s. result_at (header (spot_of ts) (name_of (drop 1 ts)) bs.0 s.0) s.1) (x, rest) q in
    result_sound ts bs.1 bs.0 s x rest a.0 (closed_sound IsBind bind bind_sound (drop 3 ts) bs.0 bs.1 p) b c (peek (drop 2 bs.1)) refl d

export_sound : (ts : List Token) (x : De) (rest : List Token) → peek ts ≡ see.Keyword word.Export → export_ ts ≡ Some (x, rest) → Declaration ts x rest
export_sound ts x rest e h =
    let a = on_name_before mark.Equals 1 ts (λ n. and_then (before mark.RoundOpen (name n.1)) (λ p. and_then (before mark.Semicolon (closed_list expression p.1)) (λ xs. Some (Export (spot_of ts) n.0 p.0 xs.0, xs.1)))) (x, rest) h in
    let b = on_name_before mark.RoundOpen 3 ts (λ p. and_then (before mark.Semicolon (closed_list expression p.1)) (λ xs. Some (Export (spot_of ts) (name_of (drop 1 ts)) p.0 xs.0, xs.1))) (x, rest) a.2 in
    let (xs, mid, r, s, t) = on_before mark.Semicolon (closed_list expression (drop 5 ts)) (λ xs. Some (Export (spot_of ts) (name_of (drop 1 ts)) (name_of (drop 3 ts)) xs.0, xs.1)) (x, rest) b.2 in
    finish Declaration ts _ (x, rest) t (is_export e a.0 a.1 b.0 b.1 (closed_sound Expression expression expression_sound (drop 5 ts) xs mid r) s)

declaration_by_sound : (ts : List Token) (x : De) (rest : List Token) (f : Lookahead) → peek ts ≡ f → declaration_by f ts ≡ Some (x, rest) → Declaration ts x rest
declaration_by_sound ts x rest (see.Keyword word.Procedure) e h = procedure_sound ts x rest e h
declaration_by_sound ts x rest (see.Keyword word.Lemma) e h = lemma_sound ts x rest e h
declaration_by_sound ts x rest (see.Keyword word.Function) e h = function_sound ts x rest e h
declaration_by_sound ts x rest (see.Keyword word.Export) e h = export_sound ts x rest e h
declaration_by_sound ts x rest _ e h = absurd cc

pub declaration_sound : (ts : List Token) (x : De) (rest : List Token) → declaration ts ≡ Some (x, rest) → Declaration ts x rest
unfolding declaration
declaration_sound ts x rest h = declaration_by_sound ts x rest (peek ts) refl h
