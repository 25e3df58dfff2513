-- Terms put for variables keep sorts, and they keep values where nothing is captured.
use Rattle.std.proofs.Common.{◌≡◌, ℕ, ℤ, Bool, true, false, List, ◌∷◌, refl, sym, ap, ◌∙◌, Option, None, Some}
use Rattle.std.specs.Prelude.{not, ◌&&◌, ◌||◌, slice_get, if◌then◌else◌}
use Rattle.std.specs.Str.{bytes_eq}
use Rattle.std.proofs.Math.Path.{fun_ext}
use Rattle.std.proofs.lemmas.Bool.{and_parts, and_from, false≢true}
use Rattle.x64_syntax.specs.declared.type_words.Sort.{Sort}
use Rattle.x64_syntax.specs.declared.type_words.Sort.TheVariants as sort
use Rattle.term_core.specs.Operators.{sort_eq, un_sort, bin_sort, un_takes, bin_takes, counted_takes, both_are}
use Rattle.term_core.specs.Terms.{Tm, Tms, Name, Int, W64, W128, TruthTerm, Un, Bin, Ite, Put, PutDword, Clmul, Shift, Call, All, no_tms, more_tms, tm_sort}
use Rattle.term_core.specs.Value.{Whole, truth, cast, Functions, Assignment, assigned, bound, un_value, bin_value, put_value, put_dword_value, clmul_value, counted_value, value, values}
use Rattle.term_core.specs.Functions.{Function}
use Rattle.term_core.specs.Sorted.{well_sorted, all_well_sorted, fun_takes, tms_sorts, put_takes, ite_takes, all_takes}
use Rattle.term_core.specs.Rules.{is_bound, free_all, all_free_all, holds_of}
use Rattle.term_core.proofs.Comparing.{sort_eq_is}
use Rattle.term_core.proofs.Values.{value-sorted}
use Rattle.term_subst.specs.Substituted.{Images, without, or_else, with_images, all_with_images, image, puts_freely, all_put_freely}
use Rattle.term_subst.proofs.Agreeing.{ap2, ap3, value-agree, choice, range}

-- what is put for a variable is of the variable's sort
pub record OfSorts (f : Images) : Type 0 where
  pub sorted : (text : List ℕ) (s : Sort) (u : Tm) → f text s ≡ Some u → tm_sort u ≡ s

pub none-some : {A : Type 0} (u : Tm) → None ≡ Some u → A
none-some u e = absurd (let differs : None ≡ Some u → ⊥ = λ h. cc in differs e)

pub sorts_inside : (f : Images) (name : List ℕ) → OfSorts f → OfSorts (without name f)
sorts_inside f name h = record { sorted = λ text s u e. either text s u (is_bound name text s) e }
  where
    either : (text : List ℕ) (s : Sort) (u : Tm) (c : Bool) → (if c then None else f text s) ≡ Some u → tm_sort u ≡ s
    either text s u true e = none-some u e
    either text s u false e = h.sorted text s u e

pub put_sort : (f : Images) (t : Tm) → OfSorts f → tm_sort (with_images f t) ≡ tm_sort t
put_sort f (Name text s) h = either (f text s) refl
  where
    either : (o : Option Tm) → f text s ≡ o → tm_sort (or_else o (Name text s)) ≡ s
    either None e = refl
    either (Some u) e = h.sorted text s u e
put_sort f (Int z) h = refl
put_sort f (W64 n) h = refl
put_sort f (W128 n) h = refl
put_sort f (TruthTerm b) h = refl
put_sort f (Un op t) h = ap (un_sort op) (put_sort f t h)
put_sort f (Bin op t u) h = ap (bin_sort op) (put_sort f t h)
put_sort f (Ite c t u) h = put_sort f t h
put_sort f (Put x i w) h = refl
put_sort f (PutDword x j w) h = refl
put_sort f (Clmul t u n) h = refl
put_sort f (Shift op n t) h = refl
put_sort f (Call k s args) h = refl
put_sort f (All name low high body) h = refl

put_sorts : (f : Images) (ts : Tms) → OfSorts f → tms_sorts (all_with_images f ts) ≡ tms_sorts ts
put_sorts f no_tms h = refl
put_sorts f (more_tms t ts) h = ap2 (λ s ss. s ∷ ss) (put_sort f t h) (put_sorts f ts h)

-- what is put for a variable is well formed
pub record WellSorted (fs : List Function) (f : Images) : Type 0 where
  pub well : (text : List ℕ) (s : Sort) (u : Tm) → f text s ≡ Some u → well_sorted fs u ≡ true

well_inside : (fs : List Function) (f : Images) (name : List ℕ) → WellSorted fs f → WellSorted fs (without name f)
well_inside fs f name h = record { well = λ text s u e. either text s u (is_bound name text s) e }
  where
    either : (text : List ℕ) (s : Sort) (u : Tm) (c : Bool) → (if c then None else f text s) ≡ Some u → well_sorted fs u ≡ true
    either text s u true e = none-some u e
    either text s u false e = h.well text s u e

mutual
  pub put_well : (fs : List Function) (f : Images) (t : Tm) → OfSorts f → WellSorted fs f → well_sorted fs (with_images f t) ≡ well_sorted fs t
  put_well fs f (Name text s) h k = either (f text s) refl
    where
      either : (o : Option Tm) → f text s ≡ o → well_sorted fs (or_else o (Name text s)) ≡ true
      either None e = refl
      either (Some u) e = k.well text s u e
  put_well fs f (Int z) h k = refl
  put_well fs f (W64 n) h k = refl
  put_well fs f (W128 n) h k = refl
  put_well fs f (TruthTerm b) h k = refl
  put_well fs f (Un op t) h k = ap2 (λ b c. b && c) (ap (un_takes op) (put_sort f t h)) (put_well fs f t h k)
  put_well fs f (Bin op t u) h k =
      ap2 (λ b c. b && c) (ap2 (bin_takes op) (put_sort f t h) (put_sort f u h))
      (ap2 (λ b c. b && c) (put_well fs f t h k) (put_well fs f u h k))
  put_well fs f (Ite c t u) h k =
      ap2 (λ a b. a && b) (ap3 ite_takes (put_sort f c h) (put_sort f t h) (put_sort f u h))
      (ap3 (λ a b d. a && (b && d)) (put_well fs f c h k) (put_well fs f t h k) (put_well fs f u h k))
  put_well fs f (Put x i w) h k =
      ap2 (λ a b. a && b) (ap3 put_takes (put_sort f x h) (put_sort f i h) (put_sort f w h))
      (ap3 (λ a b d. a && (b && d)) (put_well fs f x h k) (put_well fs f i h k) (put_well fs f w h k))
  put_well fs f (PutDword x j w) h k =
      ap2 (λ a b. a && b) (ap3 put_takes (put_sort f x h) (put_sort f j h) (put_sort f w h))
      (ap3 (λ a b d. a && (b && d)) (put_well fs f x h k) (put_well fs f j h k) (put_well fs f w h k))
  put_well fs f (Clmul t u n) h k =
      ap2 (λ b c. b && c) (ap2 (both_are sort.W128) (put_sort f t h) (put_sort f u h))
      (ap2 (λ b c. b && c) (put_well fs f t h k) (put_well fs f u h k))
  put_well fs f (Shift op n t) h k = ap2 (λ b c. b && c) (ap (counted_takes op n) (put_sort f t h)) (put_well fs f t h k)
  put_well fs f (Call g s args) h k = ap2 (λ b c. b && c) (ap (fun_takes (slice_get fs g) s) (put_sorts f args h)) (all_put_well fs f args h k)
  put_well fs f (All name low high body) h k =
      ap2 (λ a b. a && b) (ap3 all_takes (put_sort f low h) (put_sort f high h) (put_sort (without name f) body (sorts_inside f name h)))
      (ap3 (λ a b d. a && (b && d)) (put_well fs f low h k) (put_well fs f high h k) (put_well fs (without name f) body (sorts_inside f name h) (well_inside fs f name k)))

  all_put_well : (fs : List Function) (f : Images) (ts : Tms) → OfSorts f → WellSorted fs f → all_well_sorted fs (all_with_images f ts) ≡ all_well_sorted fs ts
  all_put_well fs f no_tms h k = refl
  all_put_well fs f (more_tms t ts) h k = ap2 (λ b c. b && c) (put_well fs f t h k) (all_put_well fs f ts h k)

-- Under the assignment a, with what f puts, the variables that p accepts are worth what they are worth under b. What is
-- put is worth it under a0, from which a differs in variables alone that q doesn't accept.
pub record Puts (m : Functions) (a0 a b : Assignment) (f : Images) (p q : List ℕ → Sort → Bool) : Type 0 where
  pub kept : (text : List ℕ) (s : Sort) → p text s ≡ true → f text s ≡ None → cast s (a text s) ≡ cast s (b text s)
  pub put : (text : List ℕ) (s : Sort) (u : Tm) → p text s ≡ true → f text s ≡ Some u → value m a0 u ≡ cast s (b text s)
  pub outside : (text : List ℕ) (s : Sort) → q text s ≡ true → cast s (a text s) ≡ cast s (a0 text s)

puts_inside : (m : Functions) (a0 a b : Assignment) (f : Images) (p q : List ℕ → Sort → Bool) (name : List ℕ) (z : ℤ) → Puts m a0 a b f p q → Puts m a0 (bound name z a) (bound name z b) (without name f) (λ text s. is_bound name text s || p text s) (λ text s. not (is_bound name text s) && q text s)
puts_inside m a0 a b f p q name z h = record {
  kept = λ text s. kept_either text s (is_bound name text s);
  put = λ text s u. put_either text s u (is_bound name text s);
  outside = λ text s. outside_either text s (is_bound name text s);
}
  where
    kept_either : (text : List ℕ) (s : Sort) (c : Bool) → (c || p text s) ≡ true → (if c then None else f text s) ≡ None → cast s (if c then Whole z else a text s) ≡ cast s (if c then Whole z else b text s)
    kept_either text s true k e = refl
    kept_either text s false k e = h.kept text s k e

    put_either : (text : List ℕ) (s : Sort) (u : Tm) (c : Bool) → (c || p text s) ≡ true → (if c then None else f text s) ≡ Some u → value m a0 u ≡ cast s (if c then Whole z else b text s)
    put_either text s u true k e = none-some u e
    put_either text s u false k e = h.put text s u k e

    outside_either : (text : List ℕ) (s : Sort) (c : Bool) → (not c && q text s) ≡ true → cast s (if c then Whole z else a text s) ≡ cast s (a0 text s)
    outside_either text s true k = absurd (false≢true k)
    outside_either text s false k = h.outside text s k

mutual
  pub put-value : (m : Functions) (a0 a b : Assignment) (f : Images) (p q : List ℕ → Sort → Bool) (t : Tm) → OfSorts f → free_all p t ≡ true → puts_freely q f t ≡ true → Puts m a0 a b f p q → value m a (with_images f t) ≡ value m b t
  put-value m a0 a b f p q (Name text s) o h k w = either (f text s) refl k
    where
      either : (i : Option Tm) → f text s ≡ i → holds_of (free_all q) i ≡ true → value m a (or_else i (Name text s)) ≡ cast s (b text s)
      either None e k = w.kept text s h e
      either (Some u) e k = value-agree m q a a0 u k (record { same = w.outside }) ∙ w.put text s u h e
  put-value m a0 a b f p q (Int z) o h k w = refl
  put-value m a0 a b f p q (W64 n) o h k w = refl
  put-value m a0 a b f p q (W128 n) o h k w = refl
  put-value m a0 a b f p q (TruthTerm c) o h k w = refl
  put-value m a0 a b f p q (Un op t) o h k w = ap2 (un_value op) (put_sort f t o) (put-value m a0 a b f p q t o h k w)
  put-value m a0 a b f p q (Bin op t u) o h k w =
      let x = and_parts (free_all p t) _ h in
      let y = and_parts (puts_freely q f t) _ k in
      ap3 (bin_value op) (put_sort f t o) (put-value m a0 a b f p q t o x.0 y.0 w) (put-value m a0 a b f p q u o x.1 y.1 w)
  put-value m a0 a b f p q (Ite c t u) o h k w =
      let x = and_parts (free_all p c) _ h in
      let y = and_parts (puts_freely q f c) _ k in
      let x' = and_parts (free_all p t) _ x.1 in
      let y' = and_parts (puts_freely q f t) _ y.1 in
      ap (λ s. choice s (value m a (with_images f c)) (value m a (with_images f t)) (value m a (with_images f u))) (put_sort f t o)
      ∙ ap3 (choice (tm_sort t)) (put-value m a0 a b f p q c o x.0 y.0 w) (put-value m a0 a b f p q t o x'.0 y'.0 w) (put-value m a0 a b f p q u o x'.1 y'.1 w)
  put-value m a0 a b f p q (Put c t u) o h k w =
      let x = and_parts (free_all p c) _ h in
      let y = and_parts (puts_freely q f c) _ k in
      let x' = and_parts (free_all p t) _ x.1 in
      let y' = and_parts (puts_freely q f t) _ y.1 in
      ap3 put_value (put-value m a0 a b f p q c o x.0 y.0 w) (put-value m a0 a b f p q t o x'.0 y'.0 w) (put-value m a0 a b f p q u o x'.1 y'.1 w)
  put-value m a0 a b f p q (PutDword c t u) o h k w =
      let x = and_parts (free_all p c) _ h in
      let y = and_parts (puts_freely q f c) _ k in
      let x' = and_parts (free_all p t) _ x.1 in
      let y' = and_parts (puts_freely q f t) _ y.1 in
      ap3 put_dword_value (put-value m a0 a b f p q c o x.0 y.0 w) (put-value m a0 a b f p q t o x'.0 y'.0 w) (put-value m a0 a b f p q u o x'.1 y'.1 w)
  put-value m a0 a b f p q (Clmul t u n) o h k w =
      let x = and_parts (free_all p t) _ h in
      let y = and_parts (puts_freely q f t) _ k in
      ap2 (λ v v'. clmul_value v v' n) (put-value m a0 a b f p q t o x.0 y.0 w) (put-value m a0 a b f p q u o x.1 y.1 w)
  put-value m a0 a b f p q (Shift op n t) o h k w = ap (counted_value op n) (put-value m a0 a b f p q t o h k w)
  put-value m a0 a b f p q (Call g s args) o h k w = ap (λ vs. cast s (m g vs)) (put-values m a0 a b f p q args o h k w)
  put-value m a0 a b f p q (All name low high body) o h k w =
      let x = and_parts (free_all p low) _ h in
      let y = and_parts (puts_freely q f low) _ k in
      let x' = and_parts (free_all p high) _ x.1 in
      let y' = and_parts (puts_freely q f high) _ y.1 in
      ap3 range (put-value m a0 a b f p q low o x.0 y.0 w) (put-value m a0 a b f p q high o x'.0 y'.0 w)
      (fun_ext (λ z. ap truth (put-value m a0 (bound name z a) (bound name z b) (without name f) (λ text s. is_bound name text s || p text s) (λ text s. not (is_bound name text s) && q text s) body (sorts_inside f name o) x'.1 y'.1 (puts_inside m a0 a b f p q name z w))))

  pub put-values : (m : Functions) (a0 a b : Assignment) (f : Images) (p q : List ℕ → Sort → Bool) (ts : Tms) → OfSorts f → all_free_all p ts ≡ true → all_put_freely q f ts ≡ true → Puts m a0 a b f p q → values m a (all_with_images f ts) ≡ values m b ts
  put-values m a0 a b f p q no_tms o h k w = refl
  put-values m a0 a b f p q (more_tms t ts) o h k w =
      let x = and_parts (free_all p t) _ h in
      let y = and_parts (puts_freely q f t) _ k in
      ap2 (λ v vs. v ∷ vs) (put-value m a0 a b f p q t o x.0 y.0 w) (put-values m a0 a b f p q ts o x.1 y.1 w)

mutual
  -- all free variables are accepted where all variables are
  pub free_all-true : (p : List ℕ → Sort → Bool) (t : Tm) → ((text : List ℕ) (s : Sort) → p text s ≡ true) → free_all p t ≡ true
  free_all-true p (Name text s) h = h text s
  free_all-true p (Int z) h = refl
  free_all-true p (W64 n) h = refl
  free_all-true p (W128 n) h = refl
  free_all-true p (TruthTerm b) h = refl
  free_all-true p (Un op t) h = free_all-true p t h
  free_all-true p (Bin op t u) h = and_from _ _ (free_all-true p t h) (free_all-true p u h)
  free_all-true p (Ite c t u) h = and_from _ _ (free_all-true p c h) (and_from _ _ (free_all-true p t h) (free_all-true p u h))
  free_all-true p (Put c t u) h = and_from _ _ (free_all-true p c h) (and_from _ _ (free_all-true p t h) (free_all-true p u h))
  free_all-true p (PutDword c t u) h = and_from _ _ (free_all-true p c h) (and_from _ _ (free_all-true p t h) (free_all-true p u h))
  free_all-true p (Clmul t u n) h = and_from _ _ (free_all-true p t h) (free_all-true p u h)
  free_all-true p (Shift op n t) h = free_all-true p t h
  free_all-true p (Call k s args) h = all_free-true p args h
  free_all-true p (All name low high body) h =
      and_from _ _ (free_all-true p low h) (and_from _ _ (free_all-true p high h)
      (free_all-true (λ text s. is_bound name text s || p text s) body (λ text s. either (is_bound name text s) (p text s) (h text s))))
    where
      either : (b c : Bool) → c ≡ true → (b || c) ≡ true
      either true c e = refl
      either false c e = e

  all_free-true : (p : List ℕ → Sort → Bool) (ts : Tms) → ((text : List ℕ) (s : Sort) → p text s ≡ true) → all_free_all p ts ≡ true
  all_free-true p no_tms h = refl
  all_free-true p (more_tms t ts) h = and_from _ _ (free_all-true p t h) (all_free-true p ts h)

pub image-sorts : (name : List ℕ) (by : Tm) → OfSorts (image name by)
image-sorts name by = record { sorted = λ text s u e. either text s u (bytes_eq name text) (sort_eq (tm_sort by) s) refl e }
  where
    either : (text : List ℕ) (s : Sort) (u : Tm) (b c : Bool) → sort_eq (tm_sort by) s ≡ c → (if b && c then Some by else None) ≡ Some u → tm_sort u ≡ s
    either text s u true true e h = let same : by ≡ u = cc in ap tm_sort (sym same) ∙ sort_eq_is (tm_sort by) s e
    either text s u true false e h = none-some u h
    either text s u false c e h = none-some u h

pub some-none : {A : Type 0} (u : Tm) → Some u ≡ None → A
some-none u e = none-some u (sym e)

abbrev pub everything : List ℕ → Sort → Bool
everything text s = true

-- Each variable is worth under b what is put for it is worth under a.
pub record Stand (m : Functions) (a b : Assignment) (f : Images) : Type 0 where
  pub same : (text : List ℕ) (s : Sort) → value m a (with_images f (Name text s)) ≡ cast s (b text s)

stand-puts : (m : Functions) (a b : Assignment) (f : Images) → Stand m a b f → Puts m a a b f everything everything
stand-puts m a b f h = record {
  kept = λ text s k e. sym (ap (λ o. value m a (or_else o (Name text s))) e) ∙ h.same text s;
  put = λ text s u k e. sym (ap (λ o. value m a (or_else o (Name text s))) e) ∙ h.same text s;
  outside = λ text s k. refl;
}

-- all variables replaced at once
pub put-all-value : (m : Functions) (a b : Assignment) (f : Images) (t : Tm) → OfSorts f → puts_freely everything f t ≡ true → Stand m a b f → value m a (with_images f t) ≡ value m b t
put-all-value m a b f t o k h = put-value m a a b f everything everything t o (free_all-true everything t (λ text s. refl)) k (stand-puts m a b f h)

image-stands : (m : Functions) (a : Assignment) (name : List ℕ) (by : Tm) → Stand m a (assigned name (tm_sort by) (value m a by) a) (image name by)
image-stands m a name by = record { same = λ text s. either text s (bytes_eq name text) (sort_eq (tm_sort by) s) refl }
  where
    either : (text : List ℕ) (s : Sort) (b c : Bool) → sort_eq (tm_sort by) s ≡ c → value m a (or_else (if b && c then Some by else None) (Name text s)) ≡ cast s (if b && c then value m a by else a text s)
    either text s true true e = sym (value-sorted m a by) ∙ ap (λ r. cast r (value m a by)) (sort_eq_is (tm_sort by) s e)
    either text s true false e = refl
    either text s false c e = refl

-- one variable replaced
pub substituted-value : (m : Functions) (a : Assignment) (name : List ℕ) (by t : Tm) → puts_freely everything (image name by) t ≡ true → value m a (with_images (image name by) t) ≡ value m (assigned name (tm_sort by) (value m a by) a) t
substituted-value m a name by t k = put-all-value m a (assigned name (tm_sort by) (value m a by) a) (image name by) t (image-sorts name by) k (image-stands m a name by)
