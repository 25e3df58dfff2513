-- The phases over source files, one file after another.
use Rattle.std.proofs.Common.{◌≡◌, ℕ, zero, suc, ◌+◌, ◌<◌, List, [], ◌∷◌, ◌++◌, length, drop, get_or, map, replicate, Option, Some, None, refl, sym, ap, ◌∙◌, subst, arith, inl, inr, append_assoc}
use Rattle.std.specs.Prelude.{IfSome, slice_get, Ok, Vec}
use Rattle.std.specs.declared.alloc.Global.{Global}
use Rattle.std.specs.List.{AllByRecursion}
use Rattle.std.proofs.Math.Seq.{drop-cons}
use Rattle.std.proofs.lemmas.List.{append-nil, length-replicate}
use Rattle.x64_syntax.proofs.Lists.{same_head, same_tail}
use Rattle.vale_syntax.specs.Tokens.{LexResult, All, tokens_from}
use Rattle.vale_syntax.specs.Programs.{De}
use Rattle.vale_syntax.specs.Declarations.{AreDecls}
use Rattle.straight_line.specs.declared.form.StraightLine.{StraightLine}
use Rattle.straight_line.specs.Form.{straight_line}
use Rattle.vale_driver.specs.declared.status.Refusal.{Refusal}
use Rattle.vale_driver.specs.declared.stop.Stop.{Stop}
use Rattle.vale_driver.specs.declared.stop.Stop.TheVariants.{Refused, ReadFault, NoMemory}
use Rattle.vale_driver.specs.declared.sources.Source.{Source as AFile}
use Rattle.vale_driver.specs.declared.sources.Scanned.{Scanned}
use Rattle.vale_driver.specs.Sources.{Source, sources_from, FirstOf, now, later, IsShort, IsTooLong, HasTokens, LacksToken, IsRead, LacksDeclaration, Declared, Spells, AreNoForm, Phases}
use Rattle.vale_driver.specs.Limits.{source_limit}
use Rattle.vale_driver.specs.Told.{EachAsTold}
use Rattle.vale_driver.specs.Builds.{Behind, no_form}
use Rattle.vale_driver.specs.inner.Phases.{source_views, scan, scan_view, Opened, Parsed, Parses, Unparsed}
use Rattle.vale_driver.specs.inner.Stops.{StopsBy, Fetched, SourcesSpell, SourcesRefused}
use Rattle.vale_driver.specs.Causes.{refusal_of}
use Rattle.vale_driver.proofs.Going.{bytes_of, Fetching, Scanning, Parsing}
use Rattle.vale_driver.specs.Causes as cause

-- the item of a turn, in front of the rest
pub turn : {A : Type 0} (xs : List A) (i : ℕ) (x : A) → i < length xs → x ≡ get_or xs i x → drop i xs ≡ x ∷ drop (i + 1) xs
turn xs i x lt e =
    let next : suc i ≡ i + 1 = omega arith in
    drop-cons xs i x lt ∙ ap (λ y. y ∷ drop (suc i) xs) (sym e) ∙ ap (λ k. x ∷ drop k xs) next

pub turn_or : {A : Type 0} (xs : List A) (i : ℕ) (d : A) → i < length xs → drop i xs ≡ get_or xs i d ∷ drop (i + 1) xs
turn_or xs i d lt =
    let next : suc i ≡ i + 1 = omega arith in
    drop-cons xs i d lt ∙ ap (λ k. get_or xs i d ∷ drop k xs) next

-- what holds of all holds of the item of a turn
pub at_turn : {A B : Type 0} (f : A → B) (P : B → Type 0) (xs : List A) (i : ℕ) (x : A) → AllByRecursion P (map f xs) → i < length xs → x ≡ get_or xs i x → P (f x)
at_turn f P [] i x all lt e = absurd (omega (arith, lt))
at_turn f P (y ∷ xs) zero x all lt e = subst (λ z. P (f z)) (sym e) all.0
at_turn f P (y ∷ xs) (suc i) x all lt e = at_turn f P xs i x all.1 (omega (arith, lt)) e

map_last : {A B : Type 0} (f : A → B) (xs : List A) (x : A) (ys : List B) → map f (xs ++ x ∷ []) ++ ys ≡ map f xs ++ (f x ∷ ys)
map_last f [] x ys = refl
map_last f (y ∷ xs) x ys = ap (λ l. f y ∷ l) (map_last f xs x ys)

behind : {A : Type 0} (P : A → Type 0) (R : A → Refusal → Type 0) (xs ys : List A) (r : Refusal) → AllByRecursion P xs → FirstOf P R ys r → FirstOf P R (xs ++ ys) r
behind P R [] ys r h k = k
behind P R (x ∷ xs) ys r h k = inr (h.0, behind P R xs ys r h.1 k)

-- files that weren't fetched hold something
pub told_or_nothing : Option (List ℕ) → List ℕ
told_or_nothing None = []
told_or_nothing (Some t) = t

pub is_told : (o : Option (List ℕ)) → IfSome o (λ told. told_or_nothing o ≡ told)
unfolding told_or_nothing
is_told None = tt
is_told (Some t) = refl

known : (List ℕ → Option (List ℕ)) → List (List ℕ) → List (List ℕ)
known tells ns = map (λ n. told_or_nothing (tells n)) ns

each_known : (tells : List ℕ → Option (List ℕ)) (ns : List (List ℕ)) → EachAsTold tells ns (known tells ns)
unfolding known
each_known tells [] = tt
each_known tells (n ∷ ns) = (is_told (tells n), each_known tells ns)

-- a file that is too long holds so many bytes
pub long_bytes : (limit : ℕ) (o : Option (List ℕ)) → IfSome o (λ held. limit < length held) → (bytes : List ℕ) × IfSome o (λ told. bytes ≡ told) × (limit < length bytes)
long_bytes limit None h =
    let e = length-replicate {A = ℕ} (limit + 1) 0 in
    (replicate (limit + 1) 0, tt, omega (arith, e))
long_bytes limit (Some t) h = (t, refl, h)

pub fetched_none : (told : Option (List ℕ)) (limit before after : ℕ) (o : Option (Vec ℕ Global)) → ((v : Vec ℕ Global) → o ≡ Some v → ⊥) → Fetched told limit before after (Ok o) → IfSome told (λ held. limit < length held)
fetched_none told limit before after None h f = f
fetched_none told limit before after (Some v) h f = absurd (h v refl)

pub refused_long : (tells : List ℕ → Option (List ℕ)) (ss : List AFile) (k : ℕ) (rest front all : List (List ℕ)) (n : List ℕ) (r : Refusal) → front ≡ n ∷ rest → IfSome (tells n) (λ held. source_limit < length held) → r ≡ refusal_of (cause.TooLong n) → Fetching tells ss k front all → SourcesRefused tells all r
refused_long tells ss k rest front all n r split told is h =
    let (long, holds, more) = long_bytes source_limit (tells n) told in
    let others = long ∷ known tells rest in
    let refused : FirstOf IsShort IsTooLong (sources_from k (n ∷ rest) others) r = inl record { long = more; is = is } in
    let placed = subst (λ l. FirstOf IsShort IsTooLong (sources_from k l others) r) (sym split) refused in
    let at = subst (λ l. FirstOf IsShort IsTooLong l r) (sym (h.are others)) (behind IsShort IsTooLong (source_views ss) (sources_from k front others) r h.short placed) in
    record {
      contents = bytes_of ss ++ others;
      holds = h.holds others (subst (λ l. EachAsTold tells l others) (sym split) (holds, each_known tells rest));
      first = λ name cert. now at;
    }

pub opened_all : (tells : List ℕ → Option (List ℕ)) (ss : List AFile) (k : ℕ) (rest all : List (List ℕ)) → rest ≡ [] → Fetching tells ss k rest all → Opened tells all (source_views ss)
opened_all tells ss k rest all e h = record {
  contents = bytes_of ss ++ [];
  holds = h.holds [] (subst (λ l. EachAsTold tells l []) (sym e) tt);
  are = sym (h.are [] ∙ ap (λ l. source_views ss ++ sources_from k l []) e ∙ append-nil (source_views ss));
  short = h.short;
}

-- one more file has its tokens
same_scan : (a b : List ℕ) (l m : LexResult) → ◌≡◌ {A = List ℕ × LexResult} (a, l) (b, m) → (a ≡ b) × (l ≡ m)
same_scan a b l m e = (ap (λ (p : List ℕ × LexResult). p.0) e, ap (λ (p : List ℕ × LexResult). p.1) e)

pub scanned_one : (scanned new : List Scanned) (s : Source) (t : Scanned) (rest front all : List Source) → front ≡ s ∷ rest → scan_view t ≡ scan s → new ≡ scanned ++ t ∷ [] → Scanning scanned front all → Scanning new rest all
scanned_one scanned new s t rest front all split is pushed h =
    let both = same_scan t.name.now s.name (All t.tokens.items) (tokens_from s.number 0 0 s.bytes) is in
    let has : HasTokens s = record { tokens = t.tokens.items; all = sym both.1 } in
    let short = subst (AllByRecursion IsShort) split h.short in
    subst (λ l. Scanning l rest all) (sym pushed) record {
      kept_all = map_last scan_view scanned t (map scan rest) ∙ ap (λ x. map scan_view scanned ++ (x ∷ map scan rest)) is ∙ ap (λ l. map scan_view scanned ++ map scan l) (sym split) ∙ h.kept_all;
      short = short.1;
      first = λ r f. h.first r (subst (λ l. FirstOf HasTokens LacksToken l r) (sym split) (inr (has, f)));
    }

-- one more file has its declarations
pub parsed_one : (decls new : List De) (s : Scanned) (xs : List De) (rest front all : List Scanned) → front ≡ s ∷ rest → AreDecls s.tokens.items xs → new ≡ decls ++ xs → Parsing decls front all → Parsing new rest all
parsed_one decls new s xs rest front all split are pushed h = subst (λ l. Parsing l rest all) (sym pushed) record {
  parsed = λ more m. subst (Parsed all) (sym (append_assoc decls xs more)) (h.parsed (xs ++ more) (subst (λ l. Parsed l (xs ++ more)) (sym split) (xs, more, are, m, refl)));
  first = λ r f. h.first r (subst (λ l. FirstOf Parses Unparsed l r) (sym split) (inr ((xs, are), f)));
}

pub refused_decl : (decls : List De) (s : Scanned) (rest front all : List Scanned) (r : Refusal) → front ≡ s ∷ rest → Unparsed s r → Parsing decls front all → FirstOf Parses Unparsed all r
refused_decl decls s rest front all r split none h = h.first r (subst (λ l. FirstOf Parses Unparsed l r) (sym split) (inl none))

pub parsed_all : (decls : List De) (rest all : List Scanned) → rest ≡ [] → Parsing decls rest all → Parsed all decls
parsed_all decls rest all e h = subst (Parsed all) (append-nil decls) (h.parsed [] (subst (λ l. Parsed l []) (sym e) refl))

-- What is known of the files as they are seen is known of the files as they are.
have_tokens : (scs : List Scanned) (ss : List Source) → map scan_view scs ≡ map scan ss → AllByRecursion HasTokens ss
have_tokens scs [] e = tt
have_tokens [] (s ∷ ss) e = absurd cc
have_tokens (t ∷ scs) (s ∷ ss) e =
    let both = same_scan t.name.now s.name (All t.tokens.items) (tokens_from s.number 0 0 s.bytes) (same_head e) in
    (record { tokens = t.tokens.items; all = sym both.1 }, have_tokens scs ss (same_tail e))

declared : (scs : List Scanned) (ss : List Source) (decls : List De) → map scan_view scs ≡ map scan ss → Parsed scs decls → Declared ss decls
declared [] [] decls e h = h
declared [] (s ∷ ss) decls e h = absurd cc
declared (t ∷ scs) [] decls e h = absurd cc
declared (t ∷ scs) (s ∷ ss) decls e h =
    let both = same_scan t.name.now s.name (All t.tokens.items) (tokens_from s.number 0 0 s.bytes) (same_head e) in
    let (xs, ys, are, more, is) = h in
    (xs, ys, record { tokens = t.tokens.items; all = sym both.1; are = are }, declared scs ss ys (same_tail e) more, is)

not_declared : (scs : List Scanned) (ss : List Source) (r : Refusal) → map scan_view scs ≡ map scan ss → FirstOf Parses Unparsed scs r → FirstOf IsRead LacksDeclaration ss r
not_declared [] ss r e h = absurd h
not_declared (t ∷ scs) [] r e h = absurd cc
not_declared (t ∷ scs) (s ∷ ss) r e (inl u) =
    let both = same_scan t.name.now s.name (All t.tokens.items) (tokens_from s.number 0 0 s.bytes) (same_head e) in
    inl record { tokens = t.tokens.items; all = sym both.1; first = u.first; stops = u.stops; is = u.is ∙ ap (λ n. refusal_of (cause.NoDeclaration n u.first.at)) both.0 }
not_declared (t ∷ scs) (s ∷ ss) r e (inr h) =
    let both = same_scan t.name.now s.name (All t.tokens.items) (tokens_from s.number 0 0 s.bytes) (same_head e) in
    let (xs, are) = h.0 in
    inr ((xs, record { tokens = t.tokens.items; all = sym both.1; are = are }), not_declared scs ss r (same_tail e) h.1)

pub are_read : (ss : List Source) (decls : List De) → Declared ss decls → AllByRecursion IsRead ss
are_read [] decls h = tt
are_read (s ∷ ss) decls h = let (xs, ys, has, more, is) = h in ((xs, has), are_read ss ys more)

pub tokens_of : (ss : List Source) (decls : List De) → Declared ss decls → AllByRecursion HasTokens ss
tokens_of [] decls h = tt
tokens_of (s ∷ ss) decls h = let (xs, ys, has, more, is) = h in (record { tokens = has.tokens; all = has.all }, tokens_of ss ys more)

-- refusals by the phases
refused_by : (tells : List ℕ → Option (List ℕ)) (files : List (List ℕ)) (ss : List Source) (r : Refusal) → Opened tells files ss → ((name : List ℕ) (cert : List ℕ) (contents : List (List ℕ)) → ss ≡ sources_from 0 files contents → Phases ss (Behind (record { cert = name; files = files }) (record { sources = contents; cert = cert })) r) → SourcesRefused tells files r
refused_by tells files ss r o f = record {
  contents = o.contents;
  holds = o.holds;
  first = λ name cert. subst (λ l. Phases l (Behind (record { cert = name; files = files }) (record { sources = o.contents; cert = cert })) r) o.are (f name cert o.contents o.are);
}

pub parse_refused : (tells : List ℕ → Option (List ℕ)) (files : List (List ℕ)) (ss : List Source) (scs : List Scanned) (r : Refusal) → Opened tells files ss → map scan_view scs ≡ map scan ss → FirstOf Parses Unparsed scs r → SourcesRefused tells files r
parse_refused tells files ss scs r o k f = refused_by tells files ss r o (λ name cert contents e. later o.short (later (have_tokens scs ss k) (now (not_declared scs ss r k f))))

pub form_refused : (tells : List ℕ → Option (List ℕ)) (files : List (List ℕ)) (ss : List Source) (scs : List Scanned) (decls : List De) (r : Refusal) → Opened tells files ss → map scan_view scs ≡ map scan ss → Parsed scs decls → straight_line decls ≡ None → r ≡ refusal_of (cause.NoForm (slice_get files 0)) → SourcesRefused tells files r
form_refused tells files ss scs decls r o k p none is =
    let d = declared scs ss decls k p in
    refused_by tells files ss r o (λ name cert contents e.
    later o.short (later (have_tokens scs ss k) (later (are_read ss decls d) (no_form (subst (λ l. AreNoForm (slice_get files 0) l r) e record { decls = decls; declared = d; none = none; is = is })))))

pub sources_spell : (tells : List ℕ → Option (List ℕ)) (files : List (List ℕ)) (ss : List Source) (scs : List Scanned) (decls : List De) (p : StraightLine) → Opened tells files ss → map scan_view scs ≡ map scan ss → Parsed scs decls → straight_line decls ≡ Some p → SourcesSpell tells files p
sources_spell tells files ss scs decls p o k h is = record {
  contents = o.contents;
  holds = o.holds;
  short = subst (AllByRecursion IsShort) o.are o.short;
  spells = subst (λ l. Spells l p) o.are record { decls = decls; declared = declared scs ss decls k h; is_form = is };
}

-- stops for other reasons
pub stops_also : (P Q : Refusal → Type 0) (A B : Type 0) (e : Stop) → ((r : Refusal) → P r → Q r) → (A → B) → StopsBy P A e → StopsBy Q B e
stops_also P Q A B (Refused r) f g h = f r h
stops_also P Q A B ReadFault f g h = g h
stops_also P Q A B NoMemory f g h = tt
