-- What holds of declarations without a fault.
use Rattle.std.proofs.Common.{◌≡◌, ℕ, zero, suc, ◌+◌, Bool, true, false, List, [], ◌∷◌, ◌++◌, take, Option, Some, None, refl, sym, ◌∙◌, ap, subst, append_assoc, append-nil, zero-add, arith}
use Rattle.std.specs.Prelude.{◌==◌, not, is_some, option_map, slice_get, if◌then◌else◌}
use Rattle.std.specs.Str.{bytes_eq}
use Rattle.std.specs.Cmp.Lexicographic.{bytes_decides}
use Rattle.std.proofs.lemmas.Bool.{eqb-true}
use Rattle.std.proofs.lemmas.Option.{same_Some}
use Rattle.x64_syntax.specs.Words.{is_reserved_name}
use Rattle.vale_syntax.specs.declared.expr.Name.{Name as AName}
use Rattle.vale_syntax.specs.Programs.{De, Procedure, Lemma, Function, Export}
use Rattle.name_scopes.specs.declared.fault.ScopeFault.TheVariants.{Reserved, Twice}
use Rattle.name_scopes.specs.declared.globals.GlobalKind.{GlobalKind}
use Rattle.name_scopes.specs.declared.globals.GlobalDecl.{GlobalDecl}
use Rattle.name_scopes.specs.Faults.{told_at, ◌<|>◌}
use Rattle.name_scopes.specs.Globals.{name_of, kind_of, declares, declared_from, Table, declared}
use Rattle.name_scopes.specs.Names.{Texts}
use Rattle.name_scopes.specs.Declarations.{is_another, global_at, decl_fault}
use Rattle.name_scopes.specs.Sources.{with_export, export_names, decls_fault, first_fault, IsScoped}
use Rattle.name_scopes.proofs.NewExports.{first_free, unrefused}

second_free : {F : Type 0} (a b : Option F) → (a <|> b) ≡ None → b ≡ None
second_free None b h = h
second_free (Some f) b h = absurd cc

export_behind : (es : Texts) (x : De) (ds : List De) → with_export es x ++ export_names ds ≡ es ++ export_names (x ∷ ds)
unfolding export_names
export_behind es (Procedure s n ps cs b) ds = refl
export_behind es (Lemma s n bs cs b) ds = refl
export_behind es (Function s n bs t z x) ds = refl
export_behind es (Export s n p a) ds = append_assoc es (n.text ∷ []) (export_names ds)

each_from : (of : Table) (es : Texts) (k : ℕ) (ds : List De) → decls_fault of es k ds ≡ None → (i : ℕ) (d : De) → slice_get ds i ≡ Some d → decl_fault of (es ++ export_names (take i ds)) (k + i) d ≡ None
unfolding decls_fault export_names
each_from of es k [] h i d e = absurd cc
each_from of es k (x ∷ xs) h zero d e =
    let f = unrefused (name_of x).text _ (first_free _ _ h) in
    let same = same_Some x d e in
    let here : k ≡ k + 0 = omega arith in
    subst (λ d. decl_fault of (es ++ []) (k + 0) d ≡ None) same (subst (λ k. decl_fault of (es ++ []) k x ≡ None) here (subst (λ es. decl_fault of es k x ≡ None) (sym (append-nil es)) f))
each_from of es k (x ∷ xs) h (suc i) d e =
    let f = each_from of (with_export es x) (k + 1) xs (second_free _ _ h) i d e in
    let here : (k + 1) + i ≡ k + suc i = omega arith in
    subst (λ k. decl_fault of (es ++ export_names (x ∷ take i xs)) k d ≡ None) here (subst (λ es. decl_fault of es ((k + 1) + i) d ≡ None) (export_behind es x (take i xs)) f)

pub each : (ds : List De) → IsScoped ds → (k : ℕ) (d : De) → slice_get ds k ≡ Some d → decl_fault (declared ds) (export_names (take k ds)) k d ≡ None
unfolding first_fault
each ds h k d e = subst (λ i. decl_fault (declared ds) (export_names (take k ds)) i d ≡ None) (zero-add k) (each_from (declared ds) [] 0 ds h k d e)

-- the declaration that a name stands for
record Stands (k : ℕ) (ds : List De) (n : List ℕ) (g : GlobalDecl) : Type 0 where
  at : ℕ
  decl : De
  number : g.number ≡ k + at
  here : slice_get ds at ≡ Some decl
  kind : kind_of decl ≡ Some g.kind
  name : (name_of decl).text ≡ n

declared_here : (k : ℕ) (x : De) (n : List ℕ) (g : GlobalDecl) → declares k x n ≡ Some g → (g.number ≡ k) × (kind_of x ≡ Some g.kind) × ((name_of x).text ≡ n)
declared_here k x n g h = by_name (bytes_eq n (name_of x).text) (kind_of x) refl refl h
  where
    by_name : (b : Bool) (o : Option GlobalKind) → bytes_eq n (name_of x).text ≡ b → kind_of x ≡ o → (if b then option_map (λ t. record { kind = t; number = k }) o else None) ≡ Some g → (g.number ≡ k) × (kind_of x ≡ Some g.kind) × ((name_of x).text ≡ n)
    by_name true (Some t) p q h =
        let same = same_Some _ g h in
        (sym (ap (λ g. g.number) same), q ∙ ap (λ g. Some g.kind) same, sym ((bytes_decides n (name_of x).text).0 p))
    by_name true None p q h = absurd cc
    by_name false o p q h = absurd cc

stands_from : (k : ℕ) (ds : List De) (n : List ℕ) (g : GlobalDecl) → declared_from k ds n ≡ Some g → Stands k ds n g
unfolding declared_from
stands_from k [] n g h = absurd cc
stands_from k (x ∷ xs) n g h = by_first (declares k x n) refl h (stands_from (k + 1) xs n g)
  where
    by_first : (o : Option GlobalDecl) → declares k x n ≡ o → (o <|> declared_from (k + 1) xs n) ≡ Some g → (declared_from (k + 1) xs n ≡ Some g → Stands (k + 1) xs n g) → Stands k (x ∷ xs) n g
    by_first None e h go =
        let s = go h in
        let number = s.number in
        record { at = suc s.at; decl = s.decl; number = omega (arith, number); here = s.here; kind = s.kind; name = s.name }
    by_first (Some f) e h go =
        let (number, kind, name) = declared_here k x n g (e ∙ h) in
        record { at = 0; decl = x; number = omega (arith, number); here = refl; kind = kind; name = name }

pub stands : (ds : List De) (n : List ℕ) (g : GlobalDecl) → declared ds n ≡ Some g → (d : De) × (slice_get ds g.number ≡ Some d) × (kind_of d ≡ Some g.kind) × ((name_of d).text ≡ n)
stands ds n g h =
    let s = stands_from 0 ds n g h in
    let number = s.number in
    let at : s.at ≡ g.number = omega (arith, number) in
    (s.decl, subst (λ i. slice_get ds i ≡ Some s.decl) at s.here, s.kind, s.name)

-- the name of a declaration stands for one
some_here : (j : ℕ) (x : De) (t : GlobalKind) (others : Option GlobalDecl) → kind_of x ≡ Some t → is_some (declares j x (name_of x).text <|> others) ≡ true
some_here j x t others p = by_parts (bytes_eq (name_of x).text (name_of x).text) (kind_of x) ((bytes_decides (name_of x).text (name_of x).text).1 refl) p
  where
    by_parts : (b : Bool) (o : Option GlobalKind) → b ≡ true → o ≡ Some t → is_some ((if b then option_map (λ t. record { kind = t; number = j }) o else None) <|> others) ≡ true
    by_parts true (Some s) h k = refl
    by_parts true None h k = absurd cc
    by_parts false o h k = absurd cc

some_from : (j : ℕ) (ds : List De) (k : ℕ) (d : De) (t : GlobalKind) → slice_get ds k ≡ Some d → kind_of d ≡ Some t → is_some (declared_from j ds (name_of d).text) ≡ true
unfolding declared_from
some_from j [] k d t e p = absurd cc
some_from j (x ∷ xs) zero d t e p =
    let same = same_Some x d e in
    subst (λ y. is_some (declared_from j (x ∷ xs) (name_of y).text) ≡ true) same (some_here j x t _ (subst (λ y. kind_of y ≡ Some t) (sym same) p))
some_from j (x ∷ xs) (suc k) d t e p = by_first (declares j x (name_of d).text) (some_from (j + 1) xs k d t e p)
  where
    by_first : (o : Option GlobalDecl) → is_some (declared_from (j + 1) xs (name_of d).text) ≡ true → is_some (o <|> declared_from (j + 1) xs (name_of d).text) ≡ true
    by_first None h = h
    by_first (Some g) h = refl

not_another : (of : Table) (k : ℕ) (n : AName) → global_at of k n ≡ None → is_another k (of n.text) ≡ false
not_another of k n h = by_tests (is_reserved_name n.text) (is_another k (of n.text)) h
  where
    by_tests : (b c : Bool) → told_at n.spot (if b then Some Reserved else if c then Some Twice else None) ≡ None → c ≡ false
    by_tests true c h = absurd cc
    by_tests false true h = absurd cc
    by_tests false false h = refl

names_itself : (of : Table) (es : Texts) (k : ℕ) (d : De) (t : GlobalKind) → kind_of d ≡ Some t → decl_fault of es k d ≡ None → is_another k (of (name_of d).text) ≡ false
unfolding decl_fault
names_itself of es k (Procedure s n ps cs b) t p h = not_another of k n (first_free _ _ h)
names_itself of es k (Lemma s n bs cs b) t p h = not_another of k n (first_free _ _ h)
names_itself of es k (Function s n bs r z x) t p h = not_another of k n (first_free _ _ h)
names_itself of es k (Export s n q a) t p h = absurd cc

no_other : (k : ℕ) (g : GlobalDecl) → not (g.number == k) ≡ false → g.number ≡ k
no_other k g h = eqb-true g.number k (by_test (g.number == k) h)
  where
    by_test : (b : Bool) → not b ≡ false → b ≡ true
    by_test true h = refl
    by_test false h = absurd cc

pub own : (ds : List De) → IsScoped ds → (k : ℕ) (d : De) (t : GlobalKind) → slice_get ds k ≡ Some d → kind_of d ≡ Some t → declared ds (name_of d).text ≡ Some (record { kind = t; number = k })
own ds h k d t e p = by_found (declared ds (name_of d).text) refl (some_from 0 ds k d t e p) (names_itself (declared ds) (export_names (take k ds)) k d t p (each ds h k d e))
  where
    by_found : (o : Option GlobalDecl) → declared ds (name_of d).text ≡ o → is_some o ≡ true → is_another k o ≡ false → o ≡ Some (record { kind = t; number = k })
    by_found None q a b = absurd cc
    by_found (Some g) q a b =
        let number = no_other k g b in
        let (x, here, kind, name) = stands ds (name_of d).text g q in
        let same : x ≡ d = same_Some x d (sym here ∙ ap (λ i. slice_get ds i) number ∙ e) in
        let kinds : g.kind ≡ t = same_Some g.kind t (sym kind ∙ ap (λ y. kind_of y) same ∙ p) in
        let first : Some g ≡ Some (record { kind = t; number = g.number }) = ap (λ t. Some (record { kind = t; number = g.number })) kinds in
        first ∙ ap (λ n. Some (record { kind = t; number = n })) number
