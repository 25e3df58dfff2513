-- Clauses and declarations that are spelled are found.
use Rattle.std.proofs.Common.{◌≡◌, ℕ, suc, ◌≤◌, Bool, true, false, List, [], length, drop, length-drop, Some, None, refl, sym, ◌∙◌, ap, subst, arith}
use Rattle.x64_syntax.specs.declared.keywords.Keyword.{Keyword}
use Rattle.x64_syntax.specs.declared.keywords.Keyword.TheVariants as word
use Rattle.vale_syntax.specs.declared.token.Token.{Token}
use Rattle.vale_syntax.specs.declared.mark.Mark.TheVariants as mark
use Rattle.vale_syntax.specs.declared.lookahead.Lookahead.{Lookahead}
use Rattle.vale_syntax.specs.declared.lookahead.Lookahead.TheVariants as see
use Rattle.vale_syntax.specs.declared.expr.Name.{Name}
use Rattle.vale_syntax.specs.declared.statement.SortName.{SortName}
use Rattle.vale_syntax.specs.declared.declaration.Bind.{Bind}
use Rattle.vale_syntax.specs.declared.declaration.Param.{Param}
use Rattle.vale_syntax.specs.declared.declaration.ReadPlace.{ReadPlace}
use Rattle.vale_syntax.specs.Peek.{peek, spot_of}
use Rattle.vale_syntax.specs.Trees.{Ex}
use Rattle.vale_syntax.specs.Expressions.{name_of}
use Rattle.vale_syntax.specs.Lists.{ClosedList, CommaList, Many}
use Rattle.vale_syntax.specs.Programs.{Sts, LSts, Cl, Reads, Modifies, Requires, Ensures, Stack, Abi, LCl, LRequires, LEnsures, LDecreases, De, Procedure, Lemma, Function, Export}
use Rattle.vale_syntax.specs.Statements.{Expression, sort_at, Block, block as st_block, LBlock, lblock as st_lblock, statement_limit}
use Rattle.vale_syntax.specs.Declarations.{IsName, name as is_name_, IsBind, bind as is_bind, IsSecret, secret, open_, IsPlace, place as is_place, IsParam, operand_param, out_param, inline_param, ghost_param, block_param as is_block, direction_by, abi_at, IsClause, reads, modifies, requires_, ensures_, stack, abi_, IsLClause, lrequires, lensures, ldecreases, Head, Declaration, procedure_ as is_procedure, lemma_ as is_lemma, function_ as is_function, recursive, export_ as is_export}
use Rattle.vale_parser.specs.inner.Productions.{expression}
use Rattle.vale_syntax.specs.inner.Marks.{is_mark}
use Rattle.vale_parser.specs.inner.Parts.{bind as and_then, expect, before, comma_list, closed_list, many}
use Rattle.vale_parser.specs.inner.Productions.{only_if, is_zero, is_step, name, sort_behind, bind, place, parameter, expression_end, clause_by, clause, begins_clause, lclause_by, lclause, begins_lclause, head, block, statement, lblock, lstatement, body_parse, lbody_parse, Header, header, result_by, result_at, declaration_by, declaration}
use Rattle.vale_parser.proofs.Parts.{bound, word_left, separated_found, separated_short, closed_found, closed_short, many_found, many_short}
use Rattle.vale_parser.proofs.Found.{dd, Ends, expression_found, expression_short, semicolon_found, is_name_found, sort_behind_found, bind_found, place_found, parameter_found}
use Rattle.vale_parser.proofs.FoundStatements.{name_at, expect_at, before_of, block_of, block_short}
use Rattle.vale_parser.proofs.FoundLemmas.{expressions_found, block_of as lblock_of, block_short as lblock_short}

-- nothing has to follow a name, a place or a parameter
Any : Lookahead → Type 0
Any f = Unit {0}

name_short : (ts : List Token) (n : Name) (rest : List Token) → IsName ts n rest → length rest ≤ length ts
name_short ts n rest (is_name_ p) = let a = length-drop 1 ts in omega (arith, a)

secret_short : (ts : List Token) (b : Bool) (rest : List Token) → IsSecret ts b rest → length rest ≤ length ts
secret_short ts b rest (secret p) = let a = length-drop 1 ts in omega (arith, a)
secret_short ts b rest open_ = omega arith

place_short : (ts : List Token) (r : ReadPlace) (rest : List Token) → IsPlace ts r rest → length rest ≤ length ts
place_short ts r rest (is_place {mid = mid} {b = b} s p) = let a = secret_short ts b mid s in let c = length-drop 1 mid in omega (arith, a, c)

bind_short : (ts : List Token) (b : Bind) (rest : List Token) → IsBind ts b rest → length rest ≤ length ts
bind_short ts b rest (is_bind p q r) = let a = length-drop 3 ts in omega (arith, a)

bind_starts : (ts : List Token) (b : Bind) (rest : List Token) → IsBind ts b rest → is_mark mark.RoundClose (peek ts) ≡ false
bind_starts ts b rest (is_bind p q r) = ap (is_mark mark.RoundClose) p

parameter_short : (ts : List Token) (p : Param) (rest : List Token) → IsParam ts p rest → length rest ≤ length ts
parameter_short ts p rest (operand_param {mid = mid} {b = b} s d q c k) = let a = secret_short ts b mid s in let e = length-drop 4 mid in omega (arith, a, e)
parameter_short ts p rest (out_param q a b c) = let d = length-drop 4 ts in omega (arith, d)
parameter_short ts p rest (inline_param q a b c) = let d = length-drop 4 ts in omega (arith, d)
parameter_short ts p rest (ghost_param q a b c) = let d = length-drop 4 ts in omega (arith, d)
parameter_short ts p rest (is_block {mid = mid} {b = b} s q c) = let a = secret_short ts b mid s in let e = length-drop 2 mid in omega (arith, a, e)

direction_starts : (f : Lookahead) (d : _) → direction_by f ≡ Some d → is_mark mark.RoundClose f ≡ false
direction_starts (see.Mark m) d e = absurd cc
direction_starts _ d e = refl

parameter_starts : (ts : List Token) (p : Param) (rest : List Token) → IsParam ts p rest → is_mark mark.RoundClose (peek ts) ≡ false
parameter_starts ts p rest (operand_param (secret q) d a b c) = ap (is_mark mark.RoundClose) q
parameter_starts ts p rest (operand_param {d = d} open_ e a b c) = direction_starts (peek ts) d e
parameter_starts ts p rest (out_param q a b c) = ap (is_mark mark.RoundClose) q
parameter_starts ts p rest (inline_param q a b c) = ap (is_mark mark.RoundClose) q
parameter_starts ts p rest (ghost_param q a b c) = ap (is_mark mark.RoundClose) q
parameter_starts ts p rest (is_block (secret q) e a) = ap (is_mark mark.RoundClose) q
parameter_starts ts p rest (is_block open_ e a) = ap (is_mark mark.RoundClose) e

binds_found : (ts : List Token) (xs : List Bind) (rest : List Token) → ClosedList IsBind ts xs rest → closed_list bind ts ≡ Some (xs, rest)
unfolding Any
binds_found = closed_found IsBind bind Any (λ ts x rest h f. bind_found ts x rest h) bind_short tt tt bind_starts

parameters_found : (ts : List Token) (xs : List Param) (rest : List Token) → ClosedList IsParam ts xs rest → closed_list parameter ts ≡ Some (xs, rest)
unfolding Any
parameters_found = closed_found IsParam parameter Any (λ ts x rest h f. parameter_found ts x rest h) parameter_short tt tt parameter_starts

places_found : (ts : List Token) (xs : List ReadPlace) (rest : List Token) → CommaList IsPlace ts xs rest → peek rest ≡ see.Mark mark.Semicolon → comma_list place ts ≡ Some (xs, rest)
unfolding Any
places_found ts xs rest h p = separated_found IsPlace place Any (λ ts x rest h f. place_found ts x rest h) place_short tt ts xs rest h (ap (is_mark mark.Comma) p) tt

names_found : (ts : List Token) (xs : List Name) (rest : List Token) → CommaList IsName ts xs rest → peek rest ≡ see.Mark mark.Semicolon → comma_list name ts ≡ Some (xs, rest)
unfolding Any
names_found ts xs rest h p = separated_found IsName name Any (λ ts x rest h f. is_name_found ts x rest h) name_short tt ts xs rest h (ap (is_mark mark.Comma) p) tt

places_short : (ts : List Token) (xs : List ReadPlace) (rest : List Token) → CommaList IsPlace ts xs rest → length rest ≤ length ts
unfolding Any
places_short = separated_short IsPlace place Any (λ ts x rest h f. place_found ts x rest h) place_short

names_short : (ts : List Token) (xs : List Name) (rest : List Token) → CommaList IsName ts xs rest → length rest ≤ length ts
unfolding Any
names_short = separated_short IsName name Any (λ ts x rest h f. is_name_found ts x rest h) name_short

-- clauses
clause_found : (ts : List Token) (c : Cl) (rest : List Token) → IsClause ts c rest → clause ts ≡ Some (c, rest)
unfolding clause
clause_found ts c rest (reads {mid = mid} {ps = ps} p h s) =
    ap (λ f. clause_by f ts) p ∙ bound (before mark.Semicolon (comma_list place (drop 1 ts))) (ps, drop 1 mid) (λ p. Some (Reads (spot_of ts) p.0, p.1)) _ (before_of mark.Semicolon (comma_list place (drop 1 ts)) ps mid (places_found (drop 1 ts) ps mid h s) refl s) refl
clause_found ts c rest (modifies {mid = mid} {ns = ns} p h s) =
    ap (λ f. clause_by f ts) p ∙ bound (before mark.Semicolon (comma_list name (drop 1 ts))) (ns, drop 1 mid) (λ p. Some (Modifies (spot_of ts) p.0, p.1)) _ (before_of mark.Semicolon (comma_list name (drop 1 ts)) ns mid (names_found (drop 1 ts) ns mid h s) refl s) refl
clause_found ts c rest (requires_ {mid = mid} {x = x} p e s) = ap (λ f. clause_by f ts) p ∙ bound (expression_end ts) (x, drop 1 mid) (λ x. Some (Requires (spot_of ts) x.0, x.1)) _ (semicolon_found (drop 1 ts) x mid e s) refl
clause_found ts c rest (ensures_ {mid = mid} {x = x} p e s) = ap (λ f. clause_by f ts) p ∙ bound (expression_end ts) (x, drop 1 mid) (λ x. Some (Ensures (spot_of ts) x.0, x.1)) _ (semicolon_found (drop 1 ts) x mid e s) refl
clause_found ts c rest (stack {mid = mid} {x = x} p e s) = ap (λ f. clause_by f ts) p ∙ bound (expression_end ts) (x, drop 1 mid) (λ x. Some (Stack (spot_of ts) x.0, x.1)) _ (semicolon_found (drop 1 ts) x mid e s) refl
clause_found ts c rest (abi_ {a = a} p q s) =
    ap (λ f. clause_by f ts) p
    ∙ bound (abi_at (drop 1 ts)) a (λ a. and_then (expect mark.Semicolon (drop 1 (drop 1 ts))) (λ rest. Some (Abi (spot_of ts) a, rest))) _ q
    (ap (λ l. and_then (expect mark.Semicolon l) (λ rest. Some (Abi (spot_of ts) a, rest))) (dd 1 1 ts) ∙ bound (expect mark.Semicolon (drop 2 ts)) (drop 3 ts) (λ rest. Some (Abi (spot_of ts) a, rest)) _ (expect_at mark.Semicolon 2 ts refl s) refl)

clause_begins : (ts : List Token) (c : Cl) (rest : List Token) → IsClause ts c rest → begins_clause (peek ts) ≡ true
clause_begins ts c rest (reads p h s) = ap begins_clause p
clause_begins ts c rest (modifies p h s) = ap begins_clause p
clause_begins ts c rest (requires_ p e s) = ap begins_clause p
clause_begins ts c rest (ensures_ p e s) = ap begins_clause p
clause_begins ts c rest (stack p e s) = ap begins_clause p
clause_begins ts c rest (abi_ p q s) = ap begins_clause p

end_shorter : (k : Keyword) (ts : List Token) (x : Ex) (mid : List Token) → peek ts ≡ see.Keyword k → Expression (drop 1 ts) x mid → suc (length (drop 1 mid)) ≤ length ts
end_shorter k ts x mid p e = let a = expression_short (drop 1 ts) x mid e in let b = length-drop 1 ts in let c = length-drop 1 mid in let d = word_left ts k p in omega (arith, a, b, c, d)

clause_shorter : (ts : List Token) (c : Cl) (rest : List Token) → IsClause ts c rest → suc (length rest) ≤ length ts
clause_shorter ts c rest (reads {mid = mid} {ps = ps} p h s) = let a = places_short (drop 1 ts) ps mid h in let b = length-drop 1 ts in let e = length-drop 1 mid in let d = word_left ts word.Reads p in omega (arith, a, b, e, d)
clause_shorter ts c rest (modifies {mid = mid} {ns = ns} p h s) = let a = names_short (drop 1 ts) ns mid h in let b = length-drop 1 ts in let e = length-drop 1 mid in let d = word_left ts word.Modifies p in omega (arith, a, b, e, d)
clause_shorter ts c rest (requires_ {mid = mid} {x = x} p e s) = end_shorter word.Requires ts x mid p e
clause_shorter ts c rest (ensures_ {mid = mid} {x = x} p e s) = end_shorter word.Ensures ts x mid p e
clause_shorter ts c rest (stack {mid = mid} {x = x} p e s) = end_shorter word.Stack ts x mid p e
clause_shorter ts c rest (abi_ p q s) = let a = length-drop 3 ts in let d = word_left ts word.Abi p in omega (arith, a, d)

lclause_found : (ts : List Token) (c : LCl) (rest : List Token) → IsLClause ts c rest → lclause ts ≡ Some (c, rest)
unfolding lclause
lclause_found ts c rest (lrequires {mid = mid} {x = x} p e s) = ap (λ f. lclause_by f ts) p ∙ bound (expression_end ts) (x, drop 1 mid) (λ x. Some (LRequires (spot_of ts) x.0, x.1)) _ (semicolon_found (drop 1 ts) x mid e s) refl
lclause_found ts c rest (lensures {mid = mid} {x = x} p e s) = ap (λ f. lclause_by f ts) p ∙ bound (expression_end ts) (x, drop 1 mid) (λ x. Some (LEnsures (spot_of ts) x.0, x.1)) _ (semicolon_found (drop 1 ts) x mid e s) refl
lclause_found ts c rest (ldecreases {mid = mid} {x = x} p e s) = ap (λ f. lclause_by f ts) p ∙ bound (expression_end ts) (x, drop 1 mid) (λ x. Some (LDecreases (spot_of ts) x.0, x.1)) _ (semicolon_found (drop 1 ts) x mid e s) refl

lclause_begins : (ts : List Token) (c : LCl) (rest : List Token) → IsLClause ts c rest → begins_lclause (peek ts) ≡ true
lclause_begins ts c rest (lrequires p e s) = ap begins_lclause p
lclause_begins ts c rest (lensures p e s) = ap begins_lclause p
lclause_begins ts c rest (ldecreases p e s) = ap begins_lclause p

lclause_shorter : (ts : List Token) (c : LCl) (rest : List Token) → IsLClause ts c rest → suc (length rest) ≤ length ts
lclause_shorter ts c rest (lrequires {mid = mid} {x = x} p e s) = end_shorter word.Requires ts x mid p e
lclause_shorter ts c rest (lensures {mid = mid} {x = x} p e s) = end_shorter word.Ensures ts x mid p e
lclause_shorter ts c rest (ldecreases {mid = mid} {x = x} p e s) = end_shorter word.Decreases ts x mid p e

clauses_found : (ts : List Token) (xs : List Cl) (rest : List Token) → Many IsClause [] ts xs rest → peek rest ≡ see.Mark mark.BraceOpen → many begins_clause clause (length ts) [] ts ≡ Some (xs, rest)
clauses_found ts xs rest h p = many_found IsClause clause begins_clause clause_found clause_begins clause_shorter [] ts xs rest h (length ts) (omega arith) (ap begins_clause p)

lclauses_found : (ts : List Token) (xs : List LCl) (rest : List Token) → Many IsLClause [] ts xs rest → peek rest ≡ see.Mark mark.BraceOpen → many begins_lclause lclause (length ts) [] ts ≡ Some (xs, rest)
lclauses_found ts xs rest h p = many_found IsLClause lclause begins_lclause lclause_found lclause_begins lclause_shorter [] ts xs rest h (length ts) (omega arith) (ap begins_lclause p)

-- declarations
head_found : (k : Lookahead) (ts : List Token) → Head k ts → head ts ≡ Some (name_of (drop 1 ts), drop 3 ts)
head_found k ts h = before_of mark.RoundOpen (name (drop 1 ts)) (name_of (drop 1 ts)) (drop 2 ts) (name_at 1 ts h.is_name) refl h.opens ∙ ap (λ l. Some (name_of (drop 1 ts), l)) (dd 2 1 ts)

block_opens : {d : ℕ} {ts : List Token} {xs : Sts} {rest : List Token} → Block d ts xs rest → peek ts ≡ see.Mark mark.BraceOpen
block_opens (st_block p b q) = p

lblock_opens : {d : ℕ} {ts : List Token} {xs : LSts} {rest : List Token} → LBlock d ts xs rest → peek ts ≡ see.Mark mark.BraceOpen
lblock_opens (st_lblock p b q) = p

plain_found : (h : Header) (ts : List Token) (x : Ex) (rest : List Token) → peek ts ≡ see.Mark mark.Equals → Expression (drop 1 ts) x rest → peek rest ≡ see.Mark mark.Semicolon → result_at h ts ≡ Some (Function h.spot h.name h.binds h.sort None x, drop 1 rest)
plain_found h ts x rest p e s =
    ap (λ f. result_by h f ts) p ∙ bound (expression_end ts) (x, drop 1 rest) (λ x. Some (Function h.spot h.name h.binds h.sort None x.0, x.1)) _ (semicolon_found (drop 1 ts) x rest e s) refl

-- a keyword, an expression and a semicolon
word_found : (is : Lookahead → Bool) (ts : List Token) (x : Ex) (rest : List Token) → is (peek ts) ≡ true → Expression (drop 1 ts) x rest → peek rest ≡ see.Mark mark.Semicolon → only_if (is (peek ts)) (expression_end ts) ≡ Some (x, drop 1 rest)
word_found is ts x rest p e s = ap (λ t. only_if t (expression_end ts)) p ∙ semicolon_found (drop 1 ts) x rest e s

parts_found : (h : Header) (ts : List Token) (x y : Ex) (b c : List Token) → peek ts ≡ see.Mark mark.BraceOpen → peek (drop 1 ts) ≡ see.Keyword word.Zero → Expression (drop 2 ts) x b → peek b ≡ see.Mark mark.Semicolon
    → peek (drop 1 b) ≡ see.Keyword word.Step → Expression (drop 2 b) y c → peek c ≡ see.Mark mark.Semicolon → peek (drop 1 c) ≡ see.Mark mark.BraceClose
    → result_at h ts ≡ Some (Function h.spot h.name h.binds h.sort (Some x) y, drop 2 c)
parts_found h ts x y b c p q e s t g u v =
    ap (λ f. result_by h f ts) p
    ∙ bound (only_if (is_zero (peek (drop 1 ts))) (expression_end (drop 1 ts))) (x, drop 1 b) (λ x. and_then (only_if (is_step (peek x.1)) (expression_end x.1)) (λ y.
    and_then (expect mark.BraceClose y.1) (λ rest. Some (Function h.spot h.name h.binds h.sort (Some x.0) y.0, rest)))) _
    (word_found is_zero (drop 1 ts) x b (ap is_zero q) (subst (λ l. Expression l x b) (sym (dd 1 1 ts)) e) s)
    (bound (only_if (is_step (peek (drop 1 b))) (expression_end (drop 1 b))) (y, drop 1 c) (λ y. and_then (expect mark.BraceClose y.1) (λ rest. Some (Function h.spot h.name h.binds h.sort (Some x) y.0, rest))) _
    (word_found is_step (drop 1 b) y c (ap is_step t) (subst (λ l. Expression l y c) (sym (dd 1 1 b)) g) u)
    (bound (expect mark.BraceClose (drop 1 c)) (drop 2 c) (λ rest. Some (Function h.spot h.name h.binds h.sort (Some x) y, rest)) _ (expect_at mark.BraceClose 1 c refl v) refl))

function_found : (ts a : List Token) (bs : List Bind) (s : SortName) (x : De) (rest : List Token) → Head (see.Keyword word.Function) ts → ClosedList IsBind (drop 3 ts) bs a → peek a ≡ see.Mark mark.Colon → sort_at (drop 1 a) ≡ Some s
    → result_at (header (spot_of ts) (name_of (drop 1 ts)) bs s) (drop 2 a) ≡ Some (x, rest) → declaration ts ≡ Some (x, rest)
unfolding declaration
function_found ts a bs s x rest h c p q r =
    ap (λ f. declaration_by f ts) h.keyword
    ∙ bound (head ts) (name_of (drop 1 ts), drop 3 ts) (λ n. and_then (closed_list bind n.1) (λ bs. and_then (sort_behind bs.1) (λ s. result_at (header (spot_of ts) n.0 bs.0 s.0) s.1))) _ (head_found (see.Keyword word.Function) ts h)
    (bound (closed_list bind (drop 3 ts)) (bs, a) (λ bs. and_then (sort_behind bs.1) (λ s. result_at (header (spot_of ts) (name_of (drop 1 ts)) bs.0 s.0) s.1)) _ (binds_found (drop 3 ts) bs a c)
    (bound (sort_behind a) (s, drop 2 a) (λ s. result_at (header (spot_of ts) (name_of (drop 1 ts)) bs s.0) s.1) _ (sort_behind_found a s p q) r))

pub declaration_found : (ts : List Token) (x : De) (rest : List Token) → Declaration ts x rest → declaration ts ≡ Some (x, rest)
unfolding declaration
declaration_found ts x rest (is_procedure {d = d} {a = a} {b = b} {ps = ps} {cs = cs} {body = body} h c m blk k) =
    ap (λ f. declaration_by f ts) h.keyword
    ∙ bound (head ts) (name_of (drop 1 ts), drop 3 ts) (λ n. and_then (closed_list parameter n.1) (λ ps. and_then (many begins_clause clause (length ps.1) [] ps.1) (λ cs.
    and_then (block (statement statement_limit) cs.1) (λ b. Some (Procedure (spot_of ts) n.0 ps.0 cs.0 b.trees, b.rest))))) _ (head_found (see.Keyword word.Procedure) ts h)
    (bound (closed_list parameter (drop 3 ts)) (ps, a) (λ ps. and_then (many begins_clause clause (length ps.1) [] ps.1) (λ cs.
    and_then (block (statement statement_limit) cs.1) (λ b. Some (Procedure (spot_of ts) (name_of (drop 1 ts)) ps.0 cs.0 b.trees, b.rest)))) _ (parameters_found (drop 3 ts) ps a c)
    (bound (many begins_clause clause (length a) [] a) (cs, b) (λ cs. and_then (block (statement statement_limit) cs.1) (λ b. Some (Procedure (spot_of ts) (name_of (drop 1 ts)) ps cs.0 b.trees, b.rest))) _ (clauses_found a cs b m (block_opens blk))
    (bound (block (statement statement_limit) b) (body_parse body d rest) (λ b. Some (Procedure (spot_of ts) (name_of (drop 1 ts)) ps cs b.trees, b.rest)) _ (block_of blk statement_limit k) refl)))
declaration_found ts x rest (is_lemma {d = d} {a = a} {b = b} {bs = bs} {cs = cs} {body = body} h c m blk k) =
    ap (λ f. declaration_by f ts) h.keyword
    ∙ bound (head ts) (name_of (drop 1 ts), drop 3 ts) (λ n. and_then (closed_list bind n.1) (λ bs. and_then (many begins_lclause lclause (length bs.1) [] bs.1) (λ cs.
    and_then (lblock (lstatement statement_limit) cs.1) (λ b. Some (Lemma (spot_of ts) n.0 bs.0 cs.0 b.trees, b.rest))))) _ (head_found (see.Keyword word.Lemma) ts h)
    (bound (closed_list bind (drop 3 ts)) (bs, a) (λ bs. and_then (many begins_lclause lclause (length bs.1) [] bs.1) (λ cs.
    and_then (lblock (lstatement statement_limit) cs.1) (λ b. Some (Lemma (spot_of ts) (name_of (drop 1 ts)) bs.0 cs.0 b.trees, b.rest)))) _ (binds_found (drop 3 ts) bs a c)
    (bound (many begins_lclause lclause (length a) [] a) (cs, b) (λ cs. and_then (lblock (lstatement statement_limit) cs.1) (λ b. Some (Lemma (spot_of ts) (name_of (drop 1 ts)) bs cs.0 b.trees, b.rest))) _ (lclauses_found a cs b m (lblock_opens blk))
    (bound (lblock (lstatement statement_limit) b) (lbody_parse body d rest) (λ b. Some (Lemma (spot_of ts) (name_of (drop 1 ts)) bs cs b.trees, b.rest)) _ (lblock_of blk statement_limit k) refl)))
declaration_found ts x rest (is_function {a = a} {b = b} {bs = bs} {s = s} {x = y} h c p q r e u) =
    function_found ts a bs s _ _ h c p q (plain_found (header (spot_of ts) (name_of (drop 1 ts)) bs s) (drop 2 a) y b r (subst (λ l. Expression l y b) (sym (dd 2 1 a)) e) u)
declaration_found ts x rest (recursive {a = a} {b = b} {c = c} {bs = bs} {s = s} {x = y} {y = z} h l p q r t e u v g w i) =
    function_found ts a bs s _ _ h l p q
    (parts_found (header (spot_of ts) (name_of (drop 1 ts)) bs s) (drop 2 a) y z b c r (ap peek (dd 2 1 a) ∙ t) (subst (λ l. Expression l y b) (sym (dd 2 2 a)) e) u v g w i)
declaration_found ts x rest (is_export {a = a} {xs = xs} p q r s t c u) =
    ap (λ f. declaration_by f ts) p
    ∙ bound (before mark.Equals (name (drop 1 ts))) (name_of (drop 1 ts), drop 3 ts) (λ n. and_then (before mark.RoundOpen (name n.1)) (λ p.
    and_then (before mark.Semicolon (closed_list expression p.1)) (λ xs. Some (Export (spot_of ts) n.0 p.0 xs.0, xs.1)))) _
    (before_of mark.Equals (name (drop 1 ts)) (name_of (drop 1 ts)) (drop 2 ts) (name_at 1 ts q) refl r ∙ ap (λ l. Some (name_of (drop 1 ts), l)) (dd 2 1 ts))
    (bound (before mark.RoundOpen (name (drop 3 ts))) (name_of (drop 3 ts), drop 5 ts) (λ p. and_then (before mark.Semicolon (closed_list expression p.1)) (λ xs. Some (Export (spot_of ts) (name_of (drop 1 ts)) p.0 xs.0, xs.1))) _
    (before_of mark.RoundOpen (name (drop 3 ts)) (name_of (drop 3 ts)) (drop 4 ts) (name_at 3 ts s) refl t ∙ ap (λ l. Some (name_of (drop 3 ts), l)) (dd 4 1 ts))
    (bound (before mark.Semicolon (closed_list expression (drop 5 ts))) (xs, drop 1 a) (λ xs. Some (Export (spot_of ts) (name_of (drop 1 ts)) (name_of (drop 3 ts)) xs.0, xs.1)) _
    (before_of mark.Semicolon (closed_list expression (drop 5 ts)) xs a (expressions_found (drop 5 ts) xs a c) refl u) refl))

-- a declaration takes tokens
head_left : (k : Keyword) (ts : List Token) → Head (see.Keyword k) ts → 1 ≤ length ts
head_left k ts h = word_left ts k h.keyword

binds_short : (ts : List Token) (xs : List Bind) (rest : List Token) → ClosedList IsBind ts xs rest → length rest ≤ length ts
unfolding Any
binds_short = closed_short IsBind bind Any (λ ts x rest h f. bind_found ts x rest h) bind_short

parameters_short : (ts : List Token) (xs : List Param) (rest : List Token) → ClosedList IsParam ts xs rest → length rest ≤ length ts
unfolding Any
parameters_short = closed_short IsParam parameter Any (λ ts x rest h f. parameter_found ts x rest h) parameter_short

pub declaration_shorter : (ts : List Token) (x : De) (rest : List Token) → Declaration ts x rest → suc (length rest) ≤ length ts
declaration_shorter ts x rest (is_procedure {a = a} {b = b} {ps = ps} {cs = cs} h c m blk k) =
    let f = parameters_short (drop 3 ts) ps a c in
    let g = many_short IsClause clause begins_clause clause_found clause_begins clause_shorter [] a cs b m in
    let i = block_short blk in
    let j = length-drop 3 ts in
    let l = head_left word.Procedure ts h in
    omega (arith, f, g, i, j, l)
declaration_shorter ts x rest (is_lemma {a = a} {b = b} {bs = bs} {cs = cs} h c m blk k) =
    let f = binds_short (drop 3 ts) bs a c in
    let g = many_short IsLClause lclause begins_lclause lclause_found lclause_begins lclause_shorter [] a cs b m in
    let i = lblock_short blk in
    let j = length-drop 3 ts in
    let l = head_left word.Lemma ts h in
    omega (arith, f, g, i, j, l)
declaration_shorter ts x rest (is_function {a = a} {b = b} {bs = bs} {x = y} h c p q r e u) =
    let f = binds_short (drop 3 ts) bs a c in
    let g = expression_short (drop 3 a) y b e in
    let j = length-drop 3 ts in
    let k = length-drop 3 a in
    let i = length-drop 1 b in
    let l = head_left word.Function ts h in
    omega (arith, f, g, i, j, k, l)
declaration_shorter ts x rest (recursive {a = a} {b = b} {c = c} {bs = bs} {x = y} {y = z} h m p q r t e u v g w i) =
    let f = binds_short (drop 3 ts) bs a m in
    let n = expression_short (drop 4 a) y b e in
    let o = expression_short (drop 2 b) z c g in
    let j = length-drop 3 ts in
    let k = length-drop 4 a in
    let s = length-drop 2 b in
    let d = length-drop 2 c in
    let l = head_left word.Function ts h in
    omega (arith, f, n, o, j, k, s, d, l)
declaration_shorter ts x rest (is_export {a = a} {xs = xs} p q r s t c u) =
    let f = closed_short Expression expression Ends expression_found expression_short (drop 5 ts) xs a c in
    let g = length-drop 5 ts in
    let h = length-drop 1 a in
    let i = word_left ts word.Export p in
    omega (arith, f, g, h, i)
