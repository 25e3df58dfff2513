-- Names are free in a term where a variable is, and none where none is.
use Rattle.std.proofs.Common.{◌≡◌, ℕ, ◌<◌, All, List, [], ◌∷◌, ◌++◌, length, length-append, Bool, true, false, not, ◌&&◌, ◌||◌, nat_eq, refl, sym, ap, ◌∙◌, arith, if◌then◌else◌, subst}
use Rattle.std.specs.List.{list_any, list_all}
use Rattle.std.proofs.Math.Seq.{get_or-append_seam}
use Rattle.std.specs.Str.{bytes_eq}
use Rattle.std.proofs.lemmas.Bool.{and_parts, and_from, false≢true}
use Rattle.std.proofs.lemmas.Slice.Eq.{bytes_eq-Decides}
use Rattle.indexmap.specs.IndexSet.{IndexSet, contains, Updates}
use Rattle.x64_syntax.specs.declared.type_words.Sort.{Sort}
use Rattle.x64_syntax.specs.declared.type_words.Sort.TheVariants as sort
use Rattle.term_core.specs.Operators.{sort_eq}
use Rattle.term_core.specs.Rules.{is_bound, free_all, all_free_all}
use Rattle.term_core.specs.Terms.{Tm, Tms, Name, Int, W64, W128, TruthTerm, Un, Bin, Ite, Put, PutDword, Clmul, Shift, Call, All as Forall, no_tms, more_tms}
use Rattle.term_core.proofs.Comparing.{sort_eq_is}
use Rattle.term_store.specs.declared.node.Node.{Node}
use Rattle.term_store.specs.declared.node.Node.TheVariants as node
use Rattle.term_store.specs.Numbers.{assemble, term_at, EachBelow, PartsBelow}
use Rattle.term_store.specs.Free.{is_free, is_free_among, has_free_names}
use Rattle.term_store.specs.inner.Walks.{is_variable, open_parts, all_parts, is_free_name, Bare}
use Rattle.term_store.proofs.Freeness.{or_left, or_right, parts-clean, clean-here, clean-insert}

either : (a b : Bool) {G : Type 0} → (a || b) ≡ true → (a ≡ true → G) → (b ≡ true → G) → G
either true b h f g = f refl
either false b h f g = g h

either_of_three : (a b c : Bool) {G : Type 0} → (a || (b || c)) ≡ true → (a ≡ true → G) → (b ≡ true → G) → (c ≡ true → G) → G
either_of_three a b c h f g k = either a (b || c) h f (λ e. either b c e g k)

all_of_three : (a b c : Bool) → (a && (b && c)) ≡ true → (a ≡ true) × (b ≡ true) × (c ≡ true)
all_of_three a b c h = let p = and_parts a (b && c) h in let q = and_parts b c p.1 in (p.0, q.0, q.1)

-- what is free below a quantifier is accepted there, and isn't what it binds
not_bound : (b f q : Bool) → (f ≡ true → (b || q) ≡ true) → (not b && f) ≡ true → q ≡ true
not_bound true f q h e = absurd (false≢true e)
not_bound false f q h e = h e

mutual
  free-within : (p : List ℕ → Sort → Bool) (x : List ℕ) (s : Sort) (t : Tm) → free_all p t ≡ true → is_free x s t ≡ true → p x s ≡ true
  free-within p x s (Name text t) a h =
      let e = and_parts (bytes_eq x text) (sort_eq s t) h in
      (λ i. p ((bytes_eq-Decides x text).0 e.0 i) (sort_eq_is s t e.1 i)) ∙ a
  free-within p x s (Int z) a h = absurd (false≢true h)
  free-within p x s (W64 n) a h = absurd (false≢true h)
  free-within p x s (W128 n) a h = absurd (false≢true h)
  free-within p x s (TruthTerm b) a h = absurd (false≢true h)
  free-within p x s (Un op t) a h = free-within p x s t a h
  free-within p x s (Bin op t u) a h =
      let q = and_parts (free_all p t) (free_all p u) a in
      either (is_free x s t) (is_free x s u) h (free-within p x s t q.0) (free-within p x s u q.1)
  free-within p x s (Ite c t u) a h =
      let q = all_of_three (free_all p c) (free_all p t) (free_all p u) a in
      either_of_three (is_free x s c) (is_free x s t) (is_free x s u) h (free-within p x s c q.0) (free-within p x s t q.1) (free-within p x s u q.2)
  free-within p x s (Put c t u) a h =
      let q = all_of_three (free_all p c) (free_all p t) (free_all p u) a in
      either_of_three (is_free x s c) (is_free x s t) (is_free x s u) h (free-within p x s c q.0) (free-within p x s t q.1) (free-within p x s u q.2)
  free-within p x s (PutDword c t u) a h =
      let q = all_of_three (free_all p c) (free_all p t) (free_all p u) a in
      either_of_three (is_free x s c) (is_free x s t) (is_free x s u) h (free-within p x s c q.0) (free-within p x s t q.1) (free-within p x s u q.2)
  free-within p x s (Clmul t u n) a h =
      let q = and_parts (free_all p t) (free_all p u) a in
      either (is_free x s t) (is_free x s u) h (free-within p x s t q.0) (free-within p x s u q.1)
  free-within p x s (Shift op n t) a h = free-within p x s t a h
  free-within p x s (Call k t args) a h = free-within-all p x s args a h
  free-within p x s (Forall name low high body) a h =
      let q = all_of_three (free_all p low) (free_all p high) (free_all (λ text t. is_bound name text t || p text t) body) a in
      either_of_three (is_free x s low) (is_free x s high) (not (is_bound name x s) && is_free x s body) h
      (free-within p x s low q.0) (free-within p x s high q.1)
      (not_bound (is_bound name x s) (is_free x s body) (p x s) (free-within (λ text t. is_bound name text t || p text t) x s body q.2))

  free-within-all : (p : List ℕ → Sort → Bool) (x : List ℕ) (s : Sort) (ts : Tms) → all_free_all p ts ≡ true → is_free_among x s ts ≡ true → p x s ≡ true
  free-within-all p x s no_tms a h = absurd (false≢true h)
  free-within-all p x s (more_tms t ts) a h =
      let q = and_parts (free_all p t) (all_free_all p ts) a in
      either (is_free x s t) (is_free_among x s ts) h (free-within p x s t q.0) (free-within-all p x s ts q.1)

same_sort : (s : Sort) → sort_eq s s ≡ true
same_sort sort.Int = refl
same_sort sort.Bool = refl
same_sort sort.W64 = refl
same_sort sort.W128 = refl
same_sort sort.Arr = refl

-- a bound variable is accepted, and another one is free around the quantifier
under_quantifier : (b f q : Bool) → ((not b && f) ≡ true → q ≡ true) → f ≡ true → (b || q) ≡ true
under_quantifier true f q h e = refl
under_quantifier false f q h e = h e

-- what is free in a part is free in the whole
first : (f g p : List ℕ → Sort → Bool) → ((x : List ℕ) (s : Sort) → (f x s || g x s) ≡ true → p x s ≡ true) → (x : List ℕ) (s : Sort) → f x s ≡ true → p x s ≡ true
first f g p h x s e = h x s (or_left (f x s) (g x s) e)

rest : (f g p : List ℕ → Sort → Bool) → ((x : List ℕ) (s : Sort) → (f x s || g x s) ≡ true → p x s ≡ true) → (x : List ℕ) (s : Sort) → g x s ≡ true → p x s ≡ true
rest f g p h x s e = h x s (or_right (f x s) (g x s) e)

mutual
  free-by : (p : List ℕ → Sort → Bool) (t : Tm) → ((x : List ℕ) (s : Sort) → is_free x s t ≡ true → p x s ≡ true) → free_all p t ≡ true
  free-by p (Name text t) h = h text t (and_from _ _ ((bytes_eq-Decides text text).1 refl) (same_sort t))
  free-by p (Int z) h = refl
  free-by p (W64 n) h = refl
  free-by p (W128 n) h = refl
  free-by p (TruthTerm b) h = refl
  free-by p (Un op t) h = free-by p t h
  free-by p (Bin op t u) h =
      and_from _ _ (free-by p t (first (λ x s. is_free x s t) (λ x s. is_free x s u) p h)) (free-by p u (rest (λ x s. is_free x s t) (λ x s. is_free x s u) p h))
  free-by p (Ite c t u) h =
      let r = rest (λ x s. is_free x s c) (λ x s. is_free x s t || is_free x s u) p h in
      and_from _ _ (free-by p c (first (λ x s. is_free x s c) (λ x s. is_free x s t || is_free x s u) p h))
      (and_from _ _ (free-by p t (first (λ x s. is_free x s t) (λ x s. is_free x s u) p r)) (free-by p u (rest (λ x s. is_free x s t) (λ x s. is_free x s u) p r)))
  free-by p (Put c t u) h =
      let r = rest (λ x s. is_free x s c) (λ x s. is_free x s t || is_free x s u) p h in
      and_from _ _ (free-by p c (first (λ x s. is_free x s c) (λ x s. is_free x s t || is_free x s u) p h))
      (and_from _ _ (free-by p t (first (λ x s. is_free x s t) (λ x s. is_free x s u) p r)) (free-by p u (rest (λ x s. is_free x s t) (λ x s. is_free x s u) p r)))
  free-by p (PutDword c t u) h =
      let r = rest (λ x s. is_free x s c) (λ x s. is_free x s t || is_free x s u) p h in
      and_from _ _ (free-by p c (first (λ x s. is_free x s c) (λ x s. is_free x s t || is_free x s u) p h))
      (and_from _ _ (free-by p t (first (λ x s. is_free x s t) (λ x s. is_free x s u) p r)) (free-by p u (rest (λ x s. is_free x s t) (λ x s. is_free x s u) p r)))
  free-by p (Clmul t u n) h =
      and_from _ _ (free-by p t (first (λ x s. is_free x s t) (λ x s. is_free x s u) p h)) (free-by p u (rest (λ x s. is_free x s t) (λ x s. is_free x s u) p h))
  free-by p (Shift op n t) h = free-by p t h
  free-by p (Call k t args) h = free-by-all p args h
  free-by p (Forall name low high body) h =
      let below : List ℕ → Sort → Bool = λ x s. not (is_bound name x s) && is_free x s body in
      let r = rest (λ x s. is_free x s low) (λ x s. is_free x s high || below x s) p h in
      let g = rest (λ x s. is_free x s high) below p r in
      and_from _ _ (free-by p low (first (λ x s. is_free x s low) (λ x s. is_free x s high || below x s) p h))
      (and_from _ _ (free-by p high (first (λ x s. is_free x s high) below p r))
      (free-by (λ text t. is_bound name text t || p text t) body (λ x s. under_quantifier (is_bound name x s) (is_free x s body) (p x s) (g x s))))

  free-by-all : (p : List ℕ → Sort → Bool) (ts : Tms) → ((x : List ℕ) (s : Sort) → is_free_among x s ts ≡ true → p x s ≡ true) → all_free_all p ts ≡ true
  free-by-all p no_tms h = refl
  free-by-all p (more_tms t ts) h =
      and_from _ _ (free-by p t (first (λ x s. is_free x s t) (λ x s. is_free_among x s ts) p h)) (free-by-all p ts (rest (λ x s. is_free x s t) (λ x s. is_free_among x s ts) p h))

pub some-free : (x : List ℕ) (s : Sort) (t : Tm) → is_free x s t ≡ true → has_free_names t ≡ true
some-free x s t h = by (free_all (λ y u. false) t) refl
  where
    by : (b : Bool) → free_all (λ y u. false) t ≡ b → not b ≡ true
    by true e = absurd (false≢true (free-within (λ y u. false) x s t e h))
    by false e = refl

pub none-free : (t : Tm) → ((x : List ℕ) (s : Sort) → is_free x s t ≡ true → is_free x s t ≡ false) → has_free_names t ≡ false
none-free t h = ap not (free-by (λ y u. false) t (λ x s e. sym (h x s e) ∙ e))

-- the name is found
pub named-free : (t : Tm) (n : Node) → is_free_name t n ≡ true → has_free_names t ≡ true
named-free t (node.Name text s) h = some-free text s t h
named-free t _ h = absurd (false≢true h)

no_variable : (x : List ℕ) (s : Sort) (t : Tm) (n : Node) → is_free x s t ≡ true → is_free_name t n ≡ false → is_variable x s n ≡ false
no_variable x s t (node.Name text u) f h = by (bytes_eq x text && sort_eq s u) refl
  where
    by : (b : Bool) → (bytes_eq x text && sort_eq s u) ≡ b → b ≡ false
    by true e =
        let p = and_parts (bytes_eq x text) (sort_eq s u) e in
        absurd (false≢true (sym h ∙ sym (λ i. is_free ((bytes_eq-Decides x text).0 p.0 i) (sort_eq_is s u p.1 i) t) ∙ f))
    by false e = refl
no_variable x s t _ f h = refl

none_of_two : (p : ℕ → Bool) (low high body : ℕ) → list_any p (low ∷ high ∷ body ∷ []) ≡ false → list_any p (low ∷ high ∷ []) ≡ false
none_of_two p low high body h = by (p low) (p high) (p body) h
  where
    by : (a b c : Bool) → (a || (b || (c || false))) ≡ false → (a || (b || false)) ≡ false
    by true b c e = e
    by false true c e = e
    by false false c e = refl

none-open : (x : List ℕ) (s : Sort) (p : ℕ → Bool) (n : Node) → list_any p (all_parts n) ≡ false → list_any p (open_parts x s n) ≡ false
none-open x s p (node.Name text t) h = h
none-open x s p (node.Int z) h = h
none-open x s p (node.W64 w) h = h
none-open x s p (node.W128 w) h = h
none-open x s p (node.Bool b) h = h
none-open x s p (node.Un o a) h = h
none-open x s p (node.Bin o a b) h = h
none-open x s p (node.Ite a b c) h = h
none-open x s p (node.Put a b c) h = h
none-open x s p (node.PutDword a b c) h = h
none-open x s p (node.Clmul a b n) h = h
none-open x s p (node.Shift o n a) h = h
none-open x s p (node.Call f t args) h = h
none-open x s p (node.All text low high body) h = by (is_bound text x s)
  where
    by : (b : Bool) → list_any p (if b then low ∷ high ∷ [] else low ∷ high ∷ body ∷ []) ≡ false
    by true = none_of_two p low high body h
    by false = h

pub bare-insert : {S : Type 0} (ns : List Node) (root : ℕ) (old new : IndexSet ℕ S) (k : ℕ) (n : Node) → Updates nat_eq old new k true → Bare ns root old
    → term_at ns k ≡ assemble (term_at ns) n → is_free_name (term_at ns root) n ≡ false → list_all (λ i. contains nat_eq old i) (all_parts n) ≡ true → Bare ns root new
bare-insert ns root old new k n u b e v all = record {
  clean = λ x s f.
      clean-insert ns x s old new k u (b.clean x s f)
      (clean-here ns x s k n e (no_variable x s (term_at ns root) n f v)
      (none-open x s (λ i. is_free x s (term_at ns i)) n (parts-clean ns x s old (all_parts n) (b.clean x s f) all)));
}

pub bare-root : {S : Type 0} (ns : List Node) (root : ℕ) (seen : IndexSet ℕ S) → Bare ns root seen → contains nat_eq seen root ≡ true → has_free_names (term_at ns root) ≡ false
bare-root ns root seen b h = none-free (term_at ns root) (λ x s f. (b.clean x s f).clean root h)

pub parts_below : (k : ℕ) (n : Node) → PartsBelow k n → EachBelow k (all_parts n)
parts_below k (node.Name text t) h = tt
parts_below k (node.Int z) h = tt
parts_below k (node.W64 w) h = tt
parts_below k (node.W128 w) h = tt
parts_below k (node.Bool b) h = tt
parts_below k (node.Un o a) h = (h, tt)
parts_below k (node.Bin o a b) h = (h.0, (h.1, tt))
parts_below k (node.Ite a b c) h = (h.0, (h.1, (h.2, tt)))
parts_below k (node.Put a b c) h = (h.0, (h.1, (h.2, tt)))
parts_below k (node.PutDword a b c) h = (h.0, (h.1, (h.2, tt)))
parts_below k (node.Clmul a b n) h = (h.0, (h.1, tt))
parts_below k (node.Shift o n a) h = (h, tt)
parts_below k (node.Call f t args) h = h
parts_below k (node.All text low high body) h = (h.0, (h.1, (h.2, tt)))

-- the last one of a list of numbers below n
pub last-in : (n : ℕ) (all xs : List ℕ) (x : ℕ) → All (λ i. i < n) all → all ≡ xs ++ x ∷ [] → x < n
last-in n all xs x h e =
    subst (λ i. i < n) (get_or-append_seam xs x [] 0) (subst (All (λ i. i < n)) e h (length xs) 0 (omega (arith, length-append xs (x ∷ []))))
