-- A term's value depends on its free variables and on the functions that it calls.
use Rattle.std.proofs.Common.{◌≡◌, ℕ, zero, suc, ◌<◌, ℤ, Bool, true, false, List, [], ◌∷◌, length, refl, ap, ◌∙◌, arith}
use Rattle.std.specs.Prelude.{◌||◌, slice_get, if◌then◌else◌}
use Rattle.std.proofs.Math.Path.{fun_ext}
use Rattle.std.proofs.lemmas.Bool.{and_parts, false≢true}
use Rattle.x64_syntax.specs.declared.type_words.Sort.{Sort}
use Rattle.x64_syntax.specs.declared.type_words.Sort.TheVariants as sort
use Rattle.term_core.specs.Operators.{un_takes, bin_takes, counted_takes, both_are}
use Rattle.term_core.specs.Terms.{Tm, Tms, Name, Int, W64, W128, TruthTerm, Un, Bin, Ite, Put, PutDword, Clmul, Shift, Call, All, no_tms, more_tms, tm_sort}
use Rattle.term_core.specs.Value.{Val, Whole, Truth, whole, truth, cast, Functions, Assignment, bound, all_between, un_value, bin_value, put_value, put_dword_value, clmul_value, counted_value, value, values}
use Rattle.term_core.specs.Functions.{Function}
use Rattle.term_core.specs.Sorted.{well_sorted, all_well_sorted, fun_takes, tms_sorts, put_takes, ite_takes, all_takes}
use Rattle.term_core.specs.Rules.{is_bound, free_all, all_free_all}

pub ap2 : {A B C : Type 0} (f : A → B → C) {a a' : A} {b b' : B} → a ≡ a' → b ≡ b' → f a b ≡ f a' b'
ap2 f {a} {a'} {b} {b'} e h = ap (λ x. f x b) e ∙ ap (λ y. f a' y) h

pub ap3 : {A B C D : Type 0} (f : A → B → C → D) {a a' : A} {b b' : B} {c c' : C} → a ≡ a' → b ≡ b' → c ≡ c' → f a b c ≡ f a' b' c'
ap3 f {a} {a'} {b} {b'} {c} {c'} e h k = ap2 (λ x y. f x y c) e h ∙ ap (λ z. f a' b' z) k

-- the variables that p accepts are worth the same
pub record Agree (p : List ℕ → Sort → Bool) (a b : Assignment) : Type 0 where
  pub same : (text : List ℕ) (s : Sort) → p text s ≡ true → cast s (a text s) ≡ cast s (b text s)

agree_bound : (p : List ℕ → Sort → Bool) (a b : Assignment) (name : List ℕ) (z : ℤ) → Agree p a b → Agree (λ text s. is_bound name text s || p text s) (bound name z a) (bound name z b)
agree_bound p a b name z h = record { same = λ text s k. either text s (is_bound name text s) k }
  where
    either : (text : List ℕ) (s : Sort) (c : Bool) → (c || p text s) ≡ true → cast s (if c then Whole z else a text s) ≡ cast s (if c then Whole z else b text s)
    either text s true k = refl
    either text s false k = h.same text s k

abbrev pub choice : Sort → Val → Val → Val → Val
choice s c v w = if truth c then v else cast s w

abbrev pub range : Val → Val → (ℤ → Bool) → Val
range low high p = Truth (all_between (whole low) (whole high) p)

mutual
  pub value-agree : (m : Functions) (p : List ℕ → Sort → Bool) (a b : Assignment) (t : Tm) → free_all p t ≡ true → Agree p a b → value m a t ≡ value m b t
  value-agree m p a b (Name text s) h k = k.same text s h
  value-agree m p a b (Int z) h k = refl
  value-agree m p a b (W64 n) h k = refl
  value-agree m p a b (W128 n) h k = refl
  value-agree m p a b (TruthTerm c) h k = refl
  value-agree m p a b (Un op t) h k = ap (un_value op (tm_sort t)) (value-agree m p a b t h k)
  value-agree m p a b (Bin op t u) h k =
      let q = and_parts (free_all p t) _ h in
      ap2 (bin_value op (tm_sort t)) (value-agree m p a b t q.0 k) (value-agree m p a b u q.1 k)
  value-agree m p a b (Ite c t u) h k =
      let q = and_parts (free_all p c) _ h in
      let r = and_parts (free_all p t) _ q.1 in
      ap3 (choice (tm_sort t)) (value-agree m p a b c q.0 k) (value-agree m p a b t r.0 k) (value-agree m p a b u r.1 k)
  value-agree m p a b (Put x i w) h k =
      let q = and_parts (free_all p x) _ h in
      let r = and_parts (free_all p i) _ q.1 in
      ap3 put_value (value-agree m p a b x q.0 k) (value-agree m p a b i r.0 k) (value-agree m p a b w r.1 k)
  value-agree m p a b (PutDword x j w) h k =
      let q = and_parts (free_all p x) _ h in
      let r = and_parts (free_all p j) _ q.1 in
      ap3 put_dword_value (value-agree m p a b x q.0 k) (value-agree m p a b j r.0 k) (value-agree m p a b w r.1 k)
  value-agree m p a b (Clmul t u n) h k =
      let q = and_parts (free_all p t) _ h in
      ap2 (λ v w. clmul_value v w n) (value-agree m p a b t q.0 k) (value-agree m p a b u q.1 k)
  value-agree m p a b (Shift op n t) h k = ap (counted_value op n) (value-agree m p a b t h k)
  value-agree m p a b (Call f s args) h k = ap (λ vs. cast s (m f vs)) (values-agree m p a b args h k)
  value-agree m p a b (All name low high body) h k =
      let q = and_parts (free_all p low) _ h in
      let r = and_parts (free_all p high) _ q.1 in
      ap3 range (value-agree m p a b low q.0 k) (value-agree m p a b high r.0 k)
      (fun_ext (λ z. ap truth (value-agree m (λ text s. is_bound name text s || p text s) (bound name z a) (bound name z b) body r.1 (agree_bound p a b name z k))))

  pub values-agree : (m : Functions) (p : List ℕ → Sort → Bool) (a b : Assignment) (ts : Tms) → all_free_all p ts ≡ true → Agree p a b → values m a ts ≡ values m b ts
  values-agree m p a b no_tms h k = refl
  values-agree m p a b (more_tms t ts) h k =
      let q = and_parts (free_all p t) _ h in
      ap2 (λ v vs. v ∷ vs) (value-agree m p a b t q.0 k) (values-agree m p a b ts q.1 k)

-- a function that takes arguments is one of the list
pub taken_below : (fs : List Function) (k : ℕ) (s : Sort) (sorts : List Sort) → fun_takes (slice_get fs k) s sorts ≡ true → k < length fs
taken_below [] k s sorts h = absurd (false≢true h)
taken_below (f ∷ fs) zero s sorts h = omega arith
taken_below (f ∷ fs) (suc k) s sorts h = let lt = taken_below fs k s sorts h in omega (arith, lt)

-- the functions of a list mean the same
pub record Alike (fs : List Function) (m n : Functions) : Type 0 where
  pub same : (k : ℕ) (vs : List Val) → k < length fs → m k vs ≡ n k vs

mutual
  pub value-alike : (m n : Functions) (fs : List Function) (a : Assignment) (t : Tm) → well_sorted fs t ≡ true → Alike fs m n → value m a t ≡ value n a t
  value-alike m n fs a (Name text s) h k = refl
  value-alike m n fs a (Int z) h k = refl
  value-alike m n fs a (W64 c) h k = refl
  value-alike m n fs a (W128 c) h k = refl
  value-alike m n fs a (TruthTerm c) h k = refl
  value-alike m n fs a (Un op t) h k = ap (un_value op (tm_sort t)) (value-alike m n fs a t (and_parts (un_takes op (tm_sort t)) _ h).1 k)
  value-alike m n fs a (Bin op t u) h k =
      let q = and_parts (well_sorted fs t) _ (and_parts (bin_takes op (tm_sort t) (tm_sort u)) _ h).1 in
      ap2 (bin_value op (tm_sort t)) (value-alike m n fs a t q.0 k) (value-alike m n fs a u q.1 k)
  value-alike m n fs a (Ite c t u) h k =
      let q = and_parts (well_sorted fs c) _ (and_parts (ite_takes (tm_sort c) (tm_sort t) (tm_sort u)) _ h).1 in
      let r = and_parts (well_sorted fs t) _ q.1 in
      ap3 (choice (tm_sort t)) (value-alike m n fs a c q.0 k) (value-alike m n fs a t r.0 k) (value-alike m n fs a u r.1 k)
  value-alike m n fs a (Put x i w) h k =
      let q = and_parts (well_sorted fs x) _ (and_parts (put_takes (tm_sort x) (tm_sort i) (tm_sort w)) _ h).1 in
      let r = and_parts (well_sorted fs i) _ q.1 in
      ap3 put_value (value-alike m n fs a x q.0 k) (value-alike m n fs a i r.0 k) (value-alike m n fs a w r.1 k)
  value-alike m n fs a (PutDword x j w) h k =
      let q = and_parts (well_sorted fs x) _ (and_parts (put_takes (tm_sort x) (tm_sort j) (tm_sort w)) _ h).1 in
      let r = and_parts (well_sorted fs j) _ q.1 in
      ap3 put_dword_value (value-alike m n fs a x q.0 k) (value-alike m n fs a j r.0 k) (value-alike m n fs a w r.1 k)
  value-alike m n fs a (Clmul t u c) h k =
      let q = and_parts (well_sorted fs t) _ (and_parts (both_are sort.W128 (tm_sort t) (tm_sort u)) _ h).1 in
      ap2 (λ v w. clmul_value v w c) (value-alike m n fs a t q.0 k) (value-alike m n fs a u q.1 k)
  value-alike m n fs a (Shift op c t) h k = ap (counted_value op c) (value-alike m n fs a t (and_parts (counted_takes op c (tm_sort t)) _ h).1 k)
  value-alike m n fs a (Call f s args) h k =
      let q = and_parts (fun_takes (slice_get fs f) s (tms_sorts args)) _ h in
      ap (λ vs. cast s (m f vs)) (values-alike m n fs a args q.1 k)
      ∙ ap (cast s) (k.same f (values n a args) (taken_below fs f s (tms_sorts args) q.0))
  value-alike m n fs a (All name low high body) h k =
      let q = and_parts (well_sorted fs low) _ (and_parts (all_takes (tm_sort low) (tm_sort high) (tm_sort body)) _ h).1 in
      let r = and_parts (well_sorted fs high) _ q.1 in
      ap3 range (value-alike m n fs a low q.0 k) (value-alike m n fs a high r.0 k)
      (fun_ext (λ z. ap truth (value-alike m n fs (bound name z a) body r.1 k)))

  pub values-alike : (m n : Functions) (fs : List Function) (a : Assignment) (ts : Tms) → all_well_sorted fs ts ≡ true → Alike fs m n → values m a ts ≡ values n a ts
  values-alike m n fs a no_tms h k = refl
  values-alike m n fs a (more_tms t ts) h k =
      let q = and_parts (well_sorted fs t) _ h in
      ap2 (λ v vs. v ∷ vs) (value-alike m n fs a t q.0 k) (values-alike m n fs a ts q.1 k)
