-- What a call is unfolded to is well formed where the call is.
use Rattle.std.proofs.Common.{◌≡◌, ℕ, pos, Bool, true, false, List, [], ◌∷◌, map, refl, sym, ap, ◌∙◌, Option, None, Some}
use Rattle.std.specs.Prelude.{◌&&◌, ◌||◌, is_none, slice_get, option_map, if◌then◌else◌}
use Rattle.std.specs.Str.{bytes_eq}
use Rattle.std.proofs.lemmas.Bool.{and_parts, and_from, false≢true}
use Rattle.x64_syntax.specs.declared.type_words.Sort.{Sort}
use Rattle.x64_syntax.specs.declared.type_words.Sort.TheVariants as sort
use Rattle.term_core.specs.declared.operator.BinOp.TheVariants as bin
use Rattle.term_core.specs.declared.functions.Variable.{Variable}
use Rattle.term_core.specs.Operators.{sort_eq, un_takes, bin_takes, counted_takes, both_are}
use Rattle.term_core.specs.Terms.{Tm, Tms, Name, Int, W64, W128, TruthTerm, Un, Bin, Ite, Put, PutDword, Clmul, Shift, Call, All, no_tms, more_tms, tm_sort}
use Rattle.term_core.specs.Value.{Whole}
use Rattle.term_core.specs.Functions.{Function}
use Rattle.term_core.specs.Sorted.{well_sorted, all_well_sorted, is_sorted, fun_takes, tms_sorts, sorts_eq, put_takes, ite_takes, all_takes}
use Rattle.term_core.specs.Rules.{is_variable, prev, all_obey, holds_of, last_is_number}
use Rattle.term_core.proofs.Comparing.{sort_eq_is}
use Rattle.term_subst.specs.Substituted.{with_images}
use Rattle.term_subst.specs.Unfolded.{argument_of, last_argument, with_one_less, step_images, unfolded_by, unfolded}
use Rattle.term_subst.proofs.Substituting.{OfSorts, WellSorted, put_sort, put_well, none-some}
use Rattle.term_subst.proofs.Meanings.{Before, Obeys, obeying}
use Rattle.term_subst.proofs.CallValues.{argument-sorts, step-sorts, last_sort}

takes-before : (e fs : List Function) (k : ℕ) (s : Sort) (sorts : List Sort) (o : Option Function) → Before e fs → slice_get e k ≡ o → fun_takes o s sorts ≡ true → fun_takes (slice_get fs k) s sorts ≡ true
takes-before e fs k s sorts None b at h = absurd (false≢true h)
takes-before e fs k s sorts (Some f) b at h = ap (λ o. fun_takes o s sorts) (b.kept k f at) ∙ h

-- both hold where both others do
both : (b b' c c' : Bool) → (b ≡ true → b' ≡ true) → (c ≡ true → c' ≡ true) → (b && c) ≡ true → (b' && c') ≡ true
both b b' c c' f g h = let q = and_parts b c h in and_from b' c' (f q.0) (g q.1)

-- what is well formed over some functions is so over more
mutual
  well-before : (e fs : List Function) (t : Tm) → Before e fs → well_sorted e t ≡ true → well_sorted fs t ≡ true
  well-before e fs (Name text s) b h = refl
  well-before e fs (Int z) b h = refl
  well-before e fs (W64 n) b h = refl
  well-before e fs (W128 n) b h = refl
  well-before e fs (TruthTerm x) b h = refl
  well-before e fs (Un op t) b h = both (un_takes op (tm_sort t)) (un_takes op (tm_sort t)) _ _ (λ x. x) (well-before e fs t b) h
  well-before e fs (Bin op t u) b h =
      both (bin_takes op (tm_sort t) (tm_sort u)) (bin_takes op (tm_sort t) (tm_sort u)) _ _ (λ x. x)
      (both (well_sorted e t) (well_sorted fs t) (well_sorted e u) (well_sorted fs u) (well-before e fs t b) (well-before e fs u b)) h
  well-before e fs (Ite c t u) b h =
      both (ite_takes (tm_sort c) (tm_sort t) (tm_sort u)) (ite_takes (tm_sort c) (tm_sort t) (tm_sort u)) _ _ (λ x. x)
      (both (well_sorted e c) (well_sorted fs c) _ _ (well-before e fs c b)
      (both (well_sorted e t) (well_sorted fs t) (well_sorted e u) (well_sorted fs u) (well-before e fs t b) (well-before e fs u b))) h
  well-before e fs (Put x i w) b h =
      both (put_takes (tm_sort x) (tm_sort i) (tm_sort w)) (put_takes (tm_sort x) (tm_sort i) (tm_sort w)) _ _ (λ y. y)
      (both (well_sorted e x) (well_sorted fs x) _ _ (well-before e fs x b)
      (both (well_sorted e i) (well_sorted fs i) (well_sorted e w) (well_sorted fs w) (well-before e fs i b) (well-before e fs w b))) h
  well-before e fs (PutDword x j w) b h =
      both (put_takes (tm_sort x) (tm_sort j) (tm_sort w)) (put_takes (tm_sort x) (tm_sort j) (tm_sort w)) _ _ (λ y. y)
      (both (well_sorted e x) (well_sorted fs x) _ _ (well-before e fs x b)
      (both (well_sorted e j) (well_sorted fs j) (well_sorted e w) (well_sorted fs w) (well-before e fs j b) (well-before e fs w b))) h
  well-before e fs (Clmul t u n) b h =
      both (both_are sort.W128 (tm_sort t) (tm_sort u)) (both_are sort.W128 (tm_sort t) (tm_sort u)) _ _ (λ x. x)
      (both (well_sorted e t) (well_sorted fs t) (well_sorted e u) (well_sorted fs u) (well-before e fs t b) (well-before e fs u b)) h
  well-before e fs (Shift op n t) b h = both (counted_takes op n (tm_sort t)) (counted_takes op n (tm_sort t)) _ _ (λ x. x) (well-before e fs t b) h
  well-before e fs (Call k s args) b h =
      both (fun_takes (slice_get e k) s (tms_sorts args)) (fun_takes (slice_get fs k) s (tms_sorts args)) _ _
      (takes-before e fs k s (tms_sorts args) (slice_get e k) b refl) (all-well-before e fs args b) h
  well-before e fs (All text low high body) b h =
      both (all_takes (tm_sort low) (tm_sort high) (tm_sort body)) (all_takes (tm_sort low) (tm_sort high) (tm_sort body)) _ _ (λ x. x)
      (both (well_sorted e low) (well_sorted fs low) _ _ (well-before e fs low b)
      (both (well_sorted e high) (well_sorted fs high) (well_sorted e body) (well_sorted fs body) (well-before e fs high b) (well-before e fs body b))) h

  all-well-before : (e fs : List Function) (ts : Tms) → Before e fs → all_well_sorted e ts ≡ true → all_well_sorted fs ts ≡ true
  all-well-before e fs no_tms b h = refl
  all-well-before e fs (more_tms t ts) b h =
      both (well_sorted e t) (well_sorted fs t) (all_well_sorted e ts) (all_well_sorted fs ts) (well-before e fs t b) (all-well-before e fs ts b) h

-- arguments are well formed, and so are those with one less
argument-well : (fs : List Function) (ps : List Variable) (ts : Tms) → all_well_sorted fs ts ≡ true → (text : List ℕ) (s : Sort) (u : Tm) → argument_of ps ts text s ≡ Some u → well_sorted fs u ≡ true
argument-well fs [] ts h text s u e = none-some u e
argument-well fs (p ∷ ps) no_tms h text s u e = none-some u e
argument-well fs (p ∷ ps) (more_tms t ts) h text s u e =
    let q = and_parts (well_sorted fs t) _ h in
    either q.0 (argument-well fs ps ts q.1 text s u) (is_variable p text s) e
  where
    either : well_sorted fs t ≡ true → (argument_of ps ts text s ≡ Some u → well_sorted fs u ≡ true) → (b : Bool) → (if b then Some t else argument_of ps ts text s) ≡ Some u → well_sorted fs u ≡ true
    either w more true e = let same : t ≡ u = cc in ap (well_sorted fs) (sym same) ∙ w
    either w more false e = more e

last-well : (fs : List Function) (ts : Tms) → all_well_sorted fs ts ≡ true → well_sorted fs (last_argument ts) ≡ true
last-well fs no_tms h = refl
last-well fs (more_tms t no_tms) h = (and_parts (well_sorted fs t) _ h).0
last-well fs (more_tms t (more_tms u us)) h = last-well fs (more_tms u us) (and_parts (well_sorted fs t) _ h).1

number-less : (s : Sort) → s ≡ sort.Int → bin_takes bin.Sub s sort.Int ≡ true
number-less s e = ap (λ r. bin_takes bin.Sub r sort.Int) e

less-well : (fs : List Function) (ts : Tms) → all_well_sorted fs ts ≡ true → tm_sort (last_argument ts) ≡ sort.Int → all_well_sorted fs (with_one_less ts) ≡ true
less-well fs no_tms h e = refl
less-well fs (more_tms t no_tms) h e =
    let w = (and_parts (well_sorted fs t) _ h).0 in
    and_from _ _ (and_from _ _ (number-less (tm_sort t) e) (and_from _ _ w refl)) refl
less-well fs (more_tms t (more_tms u us)) h e =
    let q = and_parts (well_sorted fs t) _ h in
    and_from _ _ q.0 (less-well fs (more_tms u us) q.1 e)

less-sorts : (ts : Tms) → tm_sort (last_argument ts) ≡ sort.Int → tms_sorts (with_one_less ts) ≡ tms_sorts ts
less-sorts no_tms e = refl
less-sorts (more_tms t no_tms) e = ap (λ s. s ∷ []) (ap (λ r. tm_sort (Bin bin.Sub (Name [] r) (Int (pos 1)))) e ∙ sym e)
less-sorts (more_tms t (more_tms u us)) e = ap (λ ss. tm_sort t ∷ ss) (less-sorts (more_tms u us) e)

-- a call of function k that fits, unfolded
module _ (fs : List Function) (f : Function) (k : ℕ) (ts : Tms) (at : slice_get fs k ≡ Some f) (sorts : sorts_eq (tms_sorts ts) (map (λ p. p.sort) f.params) ≡ true) (same : sort_eq f.result f.result ≡ true) (w : all_well_sorted fs ts ≡ true) where
  arguments-of-sorts : OfSorts (argument_of f.params ts)
  arguments-of-sorts = argument-sorts (λ j vs. Whole (pos 0)) (λ text r. Whole (pos 0)) f ts sorts

  arguments-are-well : WellSorted fs (argument_of f.params ts)
  arguments-are-well = record { well = argument-well fs f.params ts w }

  part-well : (e : List Function) (t : Tm) → Before e fs → is_sorted e f.result t ≡ true → well_sorted fs (with_images (argument_of f.params ts) t) ≡ true
  part-well e t b h = put_well fs (argument_of f.params ts) t arguments-of-sorts arguments-are-well ∙ well-before e fs t b (and_parts (well_sorted e t) _ h).0

  part-is : (e : List Function) (t : Tm) → is_sorted e f.result t ≡ true → tm_sort (with_images (argument_of f.params ts) t) ≡ f.result
  part-is e t h = put_sort (argument_of f.params ts) t arguments-of-sorts ∙ sort_eq_is (tm_sort t) f.result (and_parts (well_sorted e t) _ h).1

  module _ (last : tm_sort (last_argument ts) ≡ sort.Int) where
    step-call-well : well_sorted fs (Call k f.result (with_one_less ts)) ≡ true
    step-call-well =
        let taken : fun_takes (Some f) f.result (tms_sorts (with_one_less ts)) ≡ true = and_from _ _ same (ap (λ ss. sorts_eq ss (map (λ p. p.sort) f.params)) (less-sorts ts last) ∙ sorts) in
        and_from _ _ (ap (λ o. fun_takes o f.result (tms_sorts (with_one_less ts))) at ∙ taken) (less-well fs ts w last)

    step-of-sorts : OfSorts (step_images f k ts)
    step-of-sorts = step-sorts (λ j vs. Whole (pos 0)) (λ text r. Whole (pos 0)) f ts sorts (Call k f.result (with_one_less ts)) refl

    steps-are-well : WellSorted fs (step_images f k ts)
    steps-are-well = record { well = λ text s u e. either text s u (bytes_eq prev text && sort_eq f.result s) e }
      where
        either : (text : List ℕ) (s : Sort) (u : Tm) (b : Bool) → (if b then Some (Call k f.result (with_one_less ts)) else argument_of f.params ts text s) ≡ Some u → well_sorted fs u ≡ true
        either text s u true e = let is : Call k f.result (with_one_less ts) ≡ u = cc in ap (well_sorted fs) (sym is) ∙ step-call-well
        either text s u false e = argument-well fs f.params ts w text s u e

    step-well : (e : List Function) (t : Tm) → Before e fs → is_sorted e f.result t ≡ true → well_sorted fs (with_images (step_images f k ts) t) ≡ true
    step-well e t b h = put_well fs (step_images f k ts) t step-of-sorts steps-are-well ∙ well-before e fs t b (and_parts (well_sorted e t) _ h).0

    step-is : (e : List Function) (t : Tm) → is_sorted e f.result t ≡ true → tm_sort (with_images (step_images f k ts) t) ≡ f.result
    step-is e t h = put_sort (step_images f k ts) t step-of-sorts ∙ sort_eq_is (tm_sort t) f.result (and_parts (well_sorted e t) _ h).1

  by-parts : (e : List Function) (z : Option Tm) → Before e fs → ((t : Tm) → z ≡ Some t → tm_sort (last_argument ts) ≡ sort.Int) → holds_of (is_sorted e f.result) z ≡ true → is_sorted e f.result f.body ≡ true → well_sorted fs (unfolded_by f k ts z) ≡ true
  by-parts e None b last zs bs = part-well e f.body b bs
  by-parts e (Some z) b last zs bs =
      let l = last z refl in
      let sorts_are : sort_eq (tm_sort (with_images (step_images f k ts) f.body)) (tm_sort (with_images (argument_of f.params ts) z)) ≡ true =
      ap (λ s. sort_eq s (tm_sort (with_images (argument_of f.params ts) z))) (step-is l e f.body bs) ∙ ap (sort_eq f.result) (part-is e z zs) ∙ same in
      let compared : well_sorted fs (Bin bin.Le (last_argument ts) (Int (pos 0))) ≡ true =
      and_from _ _ (ap (λ s. bin_takes bin.Le s sort.Int) l) (and_from _ _ (last-well fs ts w) refl) in
      and_from _ _ sorts_are (and_from _ _ compared (and_from _ _ (part-well e z b zs) (step-well l e f.body b bs)))

last_of : (fs : List Function) (f : Function) (ts : Tms) (e : List Function) (z : Option Tm) → f.zero_part ≡ z → Obeys e f → sorts_eq (tms_sorts ts) (map (λ p. p.sort) f.params) ≡ true → (t : Tm) → z ≡ Some t → tm_sort (last_argument ts) ≡ sort.Int
last_of fs f ts e None at o sorts t is = none-some t is
last_of fs f ts e (Some z) at o sorts t is = last_sort ts f.params sorts (sym (ap (λ x. is_none x || last_is_number f.params) at) ∙ o.last)

well_by : (fs : List Function) (k : ℕ) (s : Sort) (ts : Tms) (u : Tm) → all_obey [] fs ≡ true → (o : Option Function) → slice_get fs k ≡ o → fun_takes o s (tms_sorts ts) ≡ true → all_well_sorted fs ts ≡ true → option_map (λ f. unfolded_by f k ts f.zero_part) o ≡ Some u → well_sorted fs u ≡ true
well_by fs k s ts u h None at takes w is = absurd (false≢true takes)
well_by fs k s ts u h (Some f) at takes w is =
    let q = and_parts (sort_eq s f.result) _ takes in
    let same = sym (ap (λ r. sort_eq r f.result) (sort_eq_is s f.result q.0)) ∙ q.0 in
    let o = obeying [] fs h k f at in
    let u_is : unfolded_by f k ts f.zero_part ≡ u = cc in
    ap (well_sorted fs) (sym u_is)
    ∙ by-parts fs f k ts at q.1 same w o.0 f.zero_part o.2 (last_of fs f ts o.0 f.zero_part refl o.1 q.1) o.1.zero_sorted o.1.body_sorted

pub unfolding-well : (fs : List Function) (call u : Tm) → all_obey [] fs ≡ true → well_sorted fs call ≡ true → unfolded fs call ≡ Some u → well_sorted fs u ≡ true
unfolding-well fs (Call k s ts) u h w is =
    let q = and_parts (fun_takes (slice_get fs k) s (tms_sorts ts)) _ w in
    well_by fs k s ts u h (slice_get fs k) refl q.0 q.1 is
unfolding-well fs _ u h w is = none-some u is
