-- What is found is spelled: the productions without statements.
use Rattle.std.proofs.Common.{◌≡◌, ℕ, ◌+◌, Bool, true, false, cond, List, drop, Option, Some, None, refl, sym, ◌∙◌, ap, subst}
use Rattle.std.specs.Prelude.{◌&&◌}
use Rattle.std.proofs.lemmas.Bool.{and_parts, false≢true}
use Rattle.std.proofs.lemmas.Option.{same_Some}
use Rattle.x64_syntax.specs.declared.keywords.Keyword.TheVariants as word
use Rattle.std.specs.List.{list_all}
use Rattle.vale_syntax.specs.declared.spot.Spot.{Spot}
use Rattle.vale_syntax.specs.declared.token.Token.{Token}
use Rattle.vale_syntax.specs.declared.mark.Mark.{Mark}
use Rattle.vale_syntax.specs.declared.mark.Mark.TheVariants as mark
use Rattle.vale_syntax.specs.declared.lookahead.Lookahead.{Lookahead}
use Rattle.vale_syntax.specs.declared.lookahead.Lookahead.TheVariants as see
use Rattle.vale_syntax.specs.declared.expr.Name.{Name}
use Rattle.vale_syntax.specs.declared.statement.SortName.{SortName}
use Rattle.x64_syntax.specs.declared.type_words.Sort.{Sort}
use Rattle.x64_syntax.specs.declared.type_words.Sort.TheVariants as sort
use Rattle.vale_syntax.specs.declared.declaration.KindName.{KindName}
use Rattle.vale_syntax.specs.declared.declaration.Bind.{Bind}
use Rattle.vale_syntax.specs.declared.declaration.Param.{Param}
use Rattle.vale_syntax.specs.declared.declaration.Param.TheVariants as param
use Rattle.vale_syntax.specs.declared.declaration.Direction.TheVariants as direction
use Rattle.vale_syntax.specs.declared.declaration.ReadPlace.{ReadPlace}
use Rattle.vale_syntax.specs.Operators.{any}
use Rattle.vale_syntax.specs.Peek.{peek, spot_of}
use Rattle.vale_syntax.specs.Trees.{Ex}
use Rattle.vale_syntax.specs.Expressions.{Spells, name_of, depth_limit}
use Rattle.vale_syntax.specs.inner.Parse.{parse}
use Rattle.vale_syntax.specs.Lists.{Relation}
use Rattle.vale_syntax.specs.Programs.{Ar, Memory, Value}
use Rattle.vale_syntax.specs.Statements.{is_plain, tokens_before, Expression, sort_at, Argument, memory, value, Invariant, invariant_ as is_invariant_, Test, test as is_test}
use Rattle.vale_syntax.specs.Declarations.{IsName, name as is_name_, IsBind, bind as is_bind, IsSecret, secret, open_, IsPlace, place as is_place, IsParam, operand_param, out_param, inline_param, ghost_param, block_param as is_block, kind_at, direction_by}
use Rattle.vale_syntax.proofs.Sound.{bind_some as parse_some, sound}
use Rattle.expr_parser.specs.inner.Reads.{expression as expression_front}
use Rattle.vale_parser.specs.inner.Productions.{plain_only, expression}
use Rattle.vale_syntax.specs.inner.Marks.{is_mark}
use Rattle.vale_parser.specs.inner.Parts.{bind as and_then, expect, before, comma_list}
use Rattle.vale_parser.specs.inner.Productions.{only_if, is_name, is_secret, is_invariant, name, sort_behind, kind_behind, bind, place_at, place, inline_by, secret_param_by, param_by, parameter, memory_at, value_at, argument_by, argument, expression_end, invariant_, test}
use Rattle.vale_syntax.proofs.MarkTests.{peek_is}
use Rattle.vale_parser.proofs.Parts.{bind_some, expected, separated_sound}
use Rattle.vale_parser.proofs.Found.{dd}

pub pair_of : {A : Type 0} (p q : A × List Token) → Some p ≡ Some q → (p.0 ≡ q.0) × (p.1 ≡ q.1)
pair_of p q h = (cc, cc)

-- a spelling of what is the same
pub finish : {A : Type 0} (Item : Relation A) (ts : List Token) (p q : A × List Token) → Some p ≡ Some q → Item ts p.0 p.1 → Item ts q.0 q.1
finish Item ts p q e h = let f = pair_of p q e in subst (λ x. Item ts x q.1) f.0 (subst (λ l. Item ts p.0 l) f.1 h)

pub on_asked : {A : Type 0} (b : Bool) (o : Option A) (y : A) → only_if b o ≡ Some y → (b ≡ true) × (o ≡ Some y)
on_asked true o y h = (refl, h)
on_asked false o y h = absurd cc

pub is_name_is : (f : Lookahead) → is_name f ≡ true → f ≡ see.Name
is_name_is see.Name h = refl
is_name_is _ h = absurd (false≢true h)

-- what goes on behind a name, a mark, a sort or a kind, some tokens behind
pub on_name : {B : Type 0} (k : ℕ) (ts : List Token) (F : Name × List Token → Option B) (y : B) → and_then (name (drop k ts)) F ≡ Some y → (peek (drop k ts) ≡ see.Name) × (F (name_of (drop k ts), drop (k + 1) ts) ≡ Some y)
on_name k ts F y h = by_test (is_name (peek (drop k ts))) refl h
  where
    by_test : (b : Bool) → is_name (peek (drop k ts)) ≡ b → and_then (only_if b (Some (name_of (drop k ts), drop 1 (drop k ts)))) F ≡ Some y → (peek (drop k ts) ≡ see.Name) × (F (name_of (drop k ts), drop (k + 1) ts) ≡ Some y)
    by_test true e h = (is_name_is _ e, ap (λ l. F (name_of (drop k ts), l)) (sym (dd k 1 ts)) ∙ h)
    by_test false e h = absurd cc

pub on_expect : {B : Type 0} (m : Mark) (k : ℕ) (ts : List Token) (F : List Token → Option B) (y : B) → and_then (expect m (drop k ts)) F ≡ Some y → (peek (drop k ts) ≡ see.Mark m) × (F (drop (k + 1) ts) ≡ Some y)
on_expect m k ts F y h =
    let (r, p, q) = bind_some (expect m (drop k ts)) F y h in
    let e = expected m (drop k ts) r p in
    (e.0, ap F (sym (dd k 1 ts) ∙ e.1) ∙ q)

pub on_sort : {B : Type 0} (k : ℕ) (ts : List Token) (F : SortName × List Token → Option B) (y : B) → and_then (sort_behind (drop k ts)) F ≡ Some y
    → (s : SortName) × (peek (drop k ts) ≡ see.Mark mark.Colon) × (sort_at (drop (k + 1) ts) ≡ Some s) × (F (s, drop (k + 2) ts) ≡ Some y)
on_sort k ts F y h =
    let (p, q, r) = bind_some (sort_behind (drop k ts)) F y h in
    let (l, a, b) = bind_some (expect mark.Colon (drop k ts)) (λ rest. and_then (sort_at rest) (λ s. Some (s, drop 1 rest))) p q in
    let (s, c, d) = bind_some (sort_at l) (λ s. Some (s, drop 1 l)) p b in
    let e = expected mark.Colon (drop k ts) l a in
    (s, e.0, ap sort_at (sym (dd k 1 ts) ∙ e.1) ∙ c, ap (λ m. F (s, m)) (sym (dd k 2 ts) ∙ sym (dd 1 1 (drop k ts)) ∙ ap (λ m. drop 1 m) e.1) ∙ ap F (same_Some _ p d) ∙ r)

pub on_kind : {B : Type 0} (k : ℕ) (ts : List Token) (F : KindName × List Token → Option B) (y : B) → and_then (kind_behind (drop k ts)) F ≡ Some y
    → (s : KindName) × (peek (drop k ts) ≡ see.Mark mark.Colon) × (kind_at (drop (k + 1) ts) ≡ Some s) × (F (s, drop (k + 2) ts) ≡ Some y)
on_kind k ts F y h =
    let (p, q, r) = bind_some (kind_behind (drop k ts)) F y h in
    let (l, a, b) = bind_some (expect mark.Colon (drop k ts)) (λ rest. and_then (kind_at rest) (λ s. Some (s, drop 1 rest))) p q in
    let (s, c, d) = bind_some (kind_at l) (λ s. Some (s, drop 1 l)) p b in
    let e = expected mark.Colon (drop k ts) l a in
    (s, e.0, ap kind_at (sym (dd k 1 ts) ∙ e.1) ∙ c, ap (λ m. F (s, m)) (sym (dd k 2 ts) ∙ sym (dd 1 1 (drop k ts)) ∙ ap (λ m. drop 1 m) e.1) ∙ ap F (same_Some _ p d) ∙ r)

-- a thing and the mark behind it
pub on_before : {A B : Type 0} (m : Mark) (o : Option (A × List Token)) (F : A × List Token → Option B) (y : B) → and_then (before m o) F ≡ Some y
    → (x : A) × (mid : List Token) × (o ≡ Some (x, mid)) × (peek mid ≡ see.Mark m) × (F (x, drop 1 mid) ≡ Some y)
on_before m o F y h =
    let (p, q, r) = bind_some (before m o) F y h in
    let (u, a, b) = bind_some o (λ p. and_then (expect m p.1) (λ rest. Some (p.0, rest))) p q in
    let (l, c, d) = bind_some (expect m u.1) (λ rest. Some (u.0, rest)) p b in
    let e = expected m u.1 l c in
    (u.0, u.1, a, e.0, ap (λ l. F (u.0, l)) e.1 ∙ ap F (same_Some _ p d) ∙ r)

pub before_is : {A : Type 0} (m : Mark) (o : Option (A × List Token)) (x : A) (rest : List Token) → before m o ≡ Some (x, rest) → (mid : List Token) × (o ≡ Some (x, mid)) × (peek mid ≡ see.Mark m) × (drop 1 mid ≡ rest)
before_is m o x rest h =
    let (u, a, b) = bind_some o (λ p. and_then (expect m p.1) (λ rest. Some (p.0, rest))) (x, rest) h in
    let (l, c, d) = bind_some (expect m u.1) (λ rest. Some (u.0, rest)) (x, rest) b in
    let e = expected m u.1 l c in
    let f = pair_of (u.0, l) (x, rest) d in
    (u.1, a ∙ ap (λ z. Some (z, u.1)) f.0, e.0, e.1 ∙ f.1)

pub expression_sound : (ts : List Token) (x : Ex) (rest : List Token) → expression ts ≡ Some (x, rest) → Expression ts x rest
unfolding expression_front
expression_sound ts x rest h =
    let (u, a, b) = bind_some (expression_front ts) (plain_only ts) (x, rest) h in
    let (g, p, q) = parse_some (parse depth_limit any ts) (λ g. Some (g.tree, g.rest)) u a in
    let s = sound depth_limit any ts g p in
    let plain = on_asked (list_all is_plain (tokens_before u.1 ts)) (Some u) (x, rest) b in
    let same = pair_of (g.tree, g.rest) u q in
    finish Expression ts u (x, rest) plain.1 (record { depth = g.height; shallow = s.0; spelled = subst (λ y. Spells any g.height ts y u.1) same.0 (subst (λ l. Spells any g.height ts g.tree l) same.1 s.1); plain = plain.0 })

pub name_sound : (ts : List Token) (n : Name) (rest : List Token) → name ts ≡ Some (n, rest) → IsName ts n rest
name_sound ts n rest h = let a = on_asked (is_name (peek ts)) (Some (name_of ts, drop 1 ts)) (n, rest) h in finish IsName ts (name_of ts, drop 1 ts) (n, rest) a.1 (is_name_ (is_name_is _ a.0))

pub bind_sound : (ts : List Token) (b : Bind) (rest : List Token) → bind ts ≡ Some (b, rest) → IsBind ts b rest
unfolding bind
bind_sound ts b rest h =
    let a = on_name 0 ts (λ n. and_then (sort_behind n.1) (λ s. Some (record { name = n.0; sort = s.0 }, s.1))) (b, rest) h in
    let (s, p, q, r) = on_sort 1 ts (λ s. Some (record { name = name_of ts; sort = s.0 }, s.1)) (b, rest) a.1 in
    finish IsBind ts _ (b, rest) r (is_bind a.0 p q)

secret_is : (f : Lookahead) → is_secret f ≡ true → f ≡ see.Keyword word.Secret
secret_is (see.Keyword word.Secret) h = refl
secret_is _ h = absurd (false≢true h)

pub place_sound : (ts : List Token) (r : ReadPlace) (rest : List Token) → place ts ≡ Some (r, rest) → IsPlace ts r rest
unfolding place
place_sound ts r rest h = by_test (is_secret (peek ts)) refl h
  where
    by_test : (b : Bool) → is_secret (peek ts) ≡ b → cond b (place_at (spot_of ts) true (drop 1 ts)) (place_at (spot_of ts) false ts) ≡ Some (r, rest) → IsPlace ts r rest
    by_test true e h =
        let a = on_name 1 ts (λ n. Some (record { spot = spot_of ts; is_secret = true; name = n.0 }, n.1)) (r, rest) h in
        finish IsPlace ts _ (r, rest) a.1 (subst (λ l. IsPlace ts (record { spot = spot_of ts; is_secret = true; name = name_of (drop 1 ts) }) l) (dd 1 1 ts) (is_place (secret (secret_is (peek ts) e)) a.0))
    by_test false e h =
        let a = on_name 0 ts (λ n. Some (record { spot = spot_of ts; is_secret = false; name = n.0 }, n.1)) (r, rest) h in
        finish IsPlace ts _ (r, rest) a.1 (is_place open_ a.0)

-- parameters, behind `secret` or nothing
guarded_sound : (ts mid : List Token) (b : Bool) (p : Param) (rest : List Token) → IsSecret ts b mid → (f : Lookahead) → peek mid ≡ f → secret_param_by (spot_of ts) b f (drop 1 mid) ≡ Some (p, rest) → IsParam ts p rest
guarded_sound ts mid b p rest s (see.Keyword word.In) e h =
    let a = on_name 1 mid (λ n. and_then (kind_behind n.1) (λ k. Some (param.Operand (spot_of ts) b direction.In n.0 k.0, k.1))) (p, rest) h in
    let (k, q, r, t) = on_kind 2 mid (λ k. Some (param.Operand (spot_of ts) b direction.In (name_of (drop 1 mid)) k.0, k.1)) (p, rest) a.1 in
    finish IsParam ts _ (p, rest) t (operand_param s (ap direction_by e) a.0 q r)
guarded_sound ts mid b p rest s (see.Keyword word.InOut) e h =
    let a = on_name 1 mid (λ n. and_then (kind_behind n.1) (λ k. Some (param.Operand (spot_of ts) b direction.InOut n.0 k.0, k.1))) (p, rest) h in
    let (k, q, r, t) = on_kind 2 mid (λ k. Some (param.Operand (spot_of ts) b direction.InOut (name_of (drop 1 mid)) k.0, k.1)) (p, rest) a.1 in
    finish IsParam ts _ (p, rest) t (operand_param s (ap direction_by e) a.0 q r)
guarded_sound ts mid b p rest s (see.Keyword word.Block) e h =
    let a = on_name 1 mid (λ n. Some (param.Block (spot_of ts) b n.0, n.1)) (p, rest) h in
    finish IsParam ts _ (p, rest) a.1 (is_block s e a.0)
guarded_sound ts mid b p rest s _ e h = absurd cc

param_sound : (ts : List Token) (p : Param) (rest : List Token) (f : Lookahead) → peek ts ≡ f → param_by f ts ≡ Some (p, rest) → IsParam ts p rest
param_sound ts p rest (see.Keyword word.Secret) e h = guarded_sound ts (drop 1 ts) true p rest (secret e) (peek (drop 1 ts)) refl h
param_sound ts p rest (see.Keyword word.Out) e h =
    let a = on_name 1 ts (λ n. and_then (kind_behind n.1) (λ k. Some (param.Out (spot_of ts) n.0 k.0, k.1))) (p, rest) h in
    let (k, q, r, t) = on_kind 2 ts (λ k. Some (param.Out (spot_of ts) (name_of (drop 1 ts)) k.0, k.1)) (p, rest) a.1 in
    finish IsParam ts _ (p, rest) t (out_param e a.0 q r)
param_sound ts p rest (see.Keyword word.Inline) e h =
    let a = on_name 1 ts (λ n. and_then (sort_behind n.1) (λ t. inline_by t.0.sort (param.Inline (spot_of ts) n.0, t.1))) (p, rest) h in
    let (s, q, r, t) = on_sort 2 ts (λ t. inline_by t.0.sort (param.Inline (spot_of ts) (name_of (drop 1 ts)), t.1)) (p, rest) a.1 in
    by_sort s.sort s.spot a.0 q r t
  where
    by_sort : (o : Sort) (s : Spot) → peek (drop 1 ts) ≡ see.Name → peek (drop 2 ts) ≡ see.Mark mark.Colon → sort_at (drop 3 ts) ≡ Some (record { sort = o; spot = s }) → inline_by o (param.Inline (spot_of ts) (name_of (drop 1 ts)), drop 4 ts) ≡ Some (p, rest) → IsParam ts p rest
    by_sort sort.Int s a q r h = finish IsParam ts (param.Inline (spot_of ts) (name_of (drop 1 ts)), drop 4 ts) (p, rest) h (inline_param e a q r)
    by_sort sort.Bool s a q r h = absurd cc
    by_sort sort.W64 s a q r h = absurd cc
    by_sort sort.W128 s a q r h = absurd cc
    by_sort sort.Arr s a q r h = absurd cc
param_sound ts p rest (see.Keyword word.Ghost) e h =
    let a = on_name 1 ts (λ n. and_then (sort_behind n.1) (λ t. Some (param.Ghost (spot_of ts) n.0 t.0, t.1))) (p, rest) h in
    let (s, q, r, t) = on_sort 2 ts (λ t. Some (param.Ghost (spot_of ts) (name_of (drop 1 ts)) t.0, t.1)) (p, rest) a.1 in
    finish IsParam ts _ (p, rest) t (ghost_param e a.0 q r)
param_sound ts p rest _ e h = guarded_sound ts ts false p rest open_ (peek ts) refl h

pub parameter_sound : (ts : List Token) (p : Param) (rest : List Token) → parameter ts ≡ Some (p, rest) → IsParam ts p rest
unfolding parameter
parameter_sound ts p rest h = param_sound ts p rest (peek ts) refl h

-- arguments
value_sound : (ts : List Token) (a : Ar) (rest : List Token) → value_at ts ≡ Some (a, rest) → Argument ts a rest
value_sound ts a rest h =
    let (x, p, q) = bind_some (expression ts) (λ x. Some (Value x.0, x.1)) (a, rest) h in
    finish Argument ts _ (a, rest) q (value (expression_sound ts x.0 x.1 p))

pub argument_sound : (ts : List Token) (a : Ar) (rest : List Token) → argument ts ≡ Some (a, rest) → Argument ts a rest
unfolding argument
argument_sound ts a rest h = by_test (is_name (peek ts) && is_mark mark.SquareOpen (peek (drop 1 ts))) refl h
  where
    by_at : (i : Ex) (mid : List Token) (t : Bool) → (is_mark mark.SquareClose (peek mid) && is_mark mark.At (peek (drop 1 mid))) ≡ t → peek ts ≡ see.Name → peek (drop 1 ts) ≡ see.Mark mark.SquareOpen → Expression (drop 2 ts) i mid
        → cond t (memory_at (name_of ts) i (drop 2 mid)) (value_at ts) ≡ Some (a, rest) → Argument ts a rest
    by_at i mid false e p q x h = value_sound ts a rest h
    by_at i mid true e p q x h =
        let f = and_parts _ _ e in
        let g = on_expect mark.RoundOpen 2 mid (λ rest. and_then (before mark.RoundClose (comma_list expression rest)) (λ a. Some (Memory (name_of ts) i a.0, a.1))) (a, rest) h in
        let (xs, m, r, s, t) = on_before mark.RoundClose (comma_list expression (drop 3 mid)) (λ a. Some (Memory (name_of ts) i a.0, a.1)) (a, rest) g.1 in
        finish Argument ts _ (a, rest) t (memory p q x (peek_is mark.SquareClose (peek mid) f.0) (peek_is mark.At (peek (drop 1 mid)) f.1) g.0 (separated_sound Expression expression expression_sound (drop 3 mid) xs m r) s)

    by_index : (o : Option (Ex × List Token)) → expression (drop 2 ts) ≡ o → peek ts ≡ see.Name → peek (drop 1 ts) ≡ see.Mark mark.SquareOpen → argument_by o ts ≡ Some (a, rest) → Argument ts a rest
    by_index None e p q h = value_sound ts a rest h
    by_index (Some (i, mid)) e p q h = by_at i mid (is_mark mark.SquareClose (peek mid) && is_mark mark.At (peek (drop 1 mid))) refl p q (expression_sound (drop 2 ts) i mid e) h

    by_test : (t : Bool) → (is_name (peek ts) && is_mark mark.SquareOpen (peek (drop 1 ts))) ≡ t → cond t (argument_by (expression (drop 2 ts)) ts) (value_at ts) ≡ Some (a, rest) → Argument ts a rest
    by_test false e h = value_sound ts a rest h
    by_test true e h = let f = and_parts _ _ e in by_index (expression (drop 2 ts)) refl (is_name_is (peek ts) f.0) (peek_is mark.SquareOpen (peek (drop 1 ts)) f.1) h

invariant_is : (f : Lookahead) → is_invariant f ≡ true → f ≡ see.Keyword word.Invariant
invariant_is (see.Keyword word.Invariant) h = refl
invariant_is _ h = absurd (false≢true h)

pub invariant_sound : (ts : List Token) (x : Ex) (rest : List Token) → invariant_ ts ≡ Some (x, rest) → Invariant ts x rest
unfolding invariant_
invariant_sound ts x rest h =
    let a = on_asked (is_invariant (peek ts)) (expression_end ts) (x, rest) h in
    let (mid, p, q, r) = before_is mark.Semicolon (expression (drop 1 ts)) x rest a.1 in
    subst (λ l. Invariant ts x l) r (is_invariant_ (invariant_is (peek ts) a.0) (expression_sound (drop 1 ts) x mid p) q)

pub test_sound : (ts : List Token) (x : Ex) (rest : List Token) → test ts ≡ Some (x, rest) → Test ts x rest
test_sound ts x rest h =
    let a = on_expect mark.RoundOpen 0 ts (λ rest. before mark.RoundClose (expression rest)) (x, rest) h in
    let (mid, p, q, r) = before_is mark.RoundClose (expression (drop 1 ts)) x rest a.1 in
    subst (λ l. Test ts x l) r (is_test a.0 (expression_sound (drop 1 ts) x mid p) q)
