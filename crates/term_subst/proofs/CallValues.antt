-- A call is worth what it is unfolded to.
use Rattle.std.proofs.Common.{◌≡◌, ℕ, zero, suc, ◌-◌, ◌<◌, ℤ, pos, negsuc, Bool, true, false, List, [], ◌∷◌, length, map, set, get_or, refl, sym, ap, ◌∙◌, arith, Option, None, Some}
use Rattle.std.specs.Prelude.{◌&&◌, ◌||◌, ◌-ℤ◌, int_le, is_none, option_map, slice_get, if◌then◌else◌}
use Rattle.std.specs.List.{list_any}
use Rattle.std.specs.Str.{bytes_eq}
use Rattle.std.proofs.lemmas.Bool.{and_parts, false≢true}
use Rattle.std.proofs.lemmas.Bool.Decides.{nat_tests}
use Rattle.std.proofs.lemmas.Int.{ints}
use Rattle.std.proofs.lemmas.List.{get_or-set_same, set-get_or, length-set}
use Rattle.x64_syntax.specs.declared.type_words.Sort.{Sort}
use Rattle.x64_syntax.specs.declared.type_words.Sort.TheVariants as sort
use Rattle.term_core.specs.declared.functions.Variable.{Variable}
use Rattle.term_core.specs.Operators.{sort_eq}
use Rattle.term_core.specs.Terms.{Tm, Tms, Call, no_tms, more_tms, tm_sort}
use Rattle.term_core.specs.Value.{Val, Whole, whole, cast, count, Functions, Assignment, assigned, difference_value, value, values}
use Rattle.term_core.specs.Functions.{Function}
use Rattle.term_core.specs.Sorted.{well_sorted, is_sorted, tms_sorts, sorts_eq, fun_takes, is_of_sort}
use Rattle.term_core.specs.Rules.{is_variable, is_param, is_in_body, prev, last_is_number, all_obey, free_all, holds_of}
use Rattle.term_core.specs.Meaning.{arguments, with_last, at_most_0, last_number, turns, fun_value, meaning}
use Rattle.term_core.proofs.Comparing.{sort_eq_is}
use Rattle.term_core.proofs.Values.{value-sorted}
use Rattle.term_subst.specs.Substituted.{with_images, puts_freely}
use Rattle.term_subst.specs.Unfolded.{argument_of, or_previous, last_argument, with_one_less, step_images, unfolded_by, unfolded, parts_capture_nothing, fun_captures_nothing, unfolding_captures_nothing}
use Rattle.term_subst.proofs.Substituting.{OfSorts, Puts, put_sort, put-value, none-some, some-none, everything}
use Rattle.term_subst.proofs.Meanings.{obeying, means}

-- an argument is of its parameter's sort, and worth what the parameter is
argued : (m : Functions) (a : Assignment) (ps : List Variable) (ts : Tms) → sorts_eq (tms_sorts ts) (map (λ p. p.sort) ps) ≡ true → (text : List ℕ) (s : Sort) (u : Tm) → argument_of ps ts text s ≡ Some u → (tm_sort u ≡ s) × (value m a u ≡ cast s (arguments ps (values m a ts) text s))
argued m a [] ts h text s u e = none-some u e
argued m a (p ∷ ps) no_tms h text s u e = none-some u e
argued m a (p ∷ ps) (more_tms t ts) h text s u e =
    let q = and_parts (sort_eq (tm_sort t) p.sort) _ h in
    either (sort_eq_is (tm_sort t) p.sort q.0) (argued m a ps ts q.1 text s u) (bytes_eq p.name text) (sort_eq p.sort s) refl e
  where
    either : tm_sort t ≡ p.sort → (argument_of ps ts text s ≡ Some u → (tm_sort u ≡ s) × (value m a u ≡ cast s (arguments ps (values m a ts) text s))) → (b c : Bool) → sort_eq p.sort s ≡ c → (if b && c then Some t else argument_of ps ts text s) ≡ Some u → (tm_sort u ≡ s) × (value m a u ≡ cast s (if b && c then value m a t else arguments ps (values m a ts) text s))
    either n more true true q e =
        let same : t ≡ u = cc in
        let of : tm_sort t ≡ s = n ∙ sort_eq_is p.sort s q in (
          ap tm_sort (sym same) ∙ of,
          ap (value m a) (sym same) ∙ sym (value-sorted m a t) ∙ ap (λ r. cast r (value m a t)) of,
        )
    either n more true false q e = more e
    either n more false c q e = more e

-- each parameter has an argument
has_argument : (ps : List Variable) (ts : Tms) → sorts_eq (tms_sorts ts) (map (λ p. p.sort) ps) ≡ true → (text : List ℕ) (s : Sort) → list_any (λ v. is_variable v text s) ps ≡ true → argument_of ps ts text s ≡ None → ⊥
has_argument [] ts h text s k e = false≢true k
has_argument (p ∷ ps) no_tms h text s k e = false≢true h
has_argument (p ∷ ps) (more_tms t ts) h text s k e =
    either (has_argument ps ts (and_parts (sort_eq (tm_sort t) p.sort) _ h).1 text s) (is_variable p text s) k e
  where
    either : (list_any (λ v. is_variable v text s) ps ≡ true → argument_of ps ts text s ≡ None → ⊥) → (b : Bool) → (b || list_any (λ v. is_variable v text s) ps) ≡ true → (if b then Some t else argument_of ps ts text s) ≡ None → ⊥
    either more true k e = some-none t e
    either more false k e = more k e

module _ (m : Functions) (a : Assignment) (f : Function) (ts : Tms) (h : sorts_eq (tms_sorts ts) (map (λ p. p.sort) f.params) ≡ true) where
  pub argument-sorts : OfSorts (argument_of f.params ts)
  argument-sorts = record { sorted = λ text s u e. (argued m a f.params ts h text s u e).0 }

  argument-puts : Puts m a a (arguments f.params (values m a ts)) (argument_of f.params ts) (is_param f) everything
  argument-puts = record {
    kept = λ text s k e. absurd (has_argument f.params ts h text s k e);
    put = λ text s u k e. (argued m a f.params ts h text s u e).1;
    outside = λ text s k. refl;
  }

  module _ (call : Tm) (call_sort : tm_sort call ≡ f.result) where
    pub step-sorts : OfSorts (or_previous f.result call (argument_of f.params ts))
    step-sorts = record { sorted = λ text s u e. either text s u (bytes_eq prev text) (sort_eq f.result s) refl e }
      where
        either : (text : List ℕ) (s : Sort) (u : Tm) (b c : Bool) → sort_eq f.result s ≡ c → (if b && c then Some call else argument_of f.params ts text s) ≡ Some u → tm_sort u ≡ s
        either text s u true true q e = let same : call ≡ u = cc in ap tm_sort (sym same) ∙ call_sort ∙ sort_eq_is f.result s q
        either text s u true false q e = (argued m a f.params ts h text s u e).0
        either text s u false c q e = (argued m a f.params ts h text s u e).0

    step-puts : (z : Tm) (before : Val) → value m a call ≡ cast f.result before → Puts m a a (assigned prev f.result before (arguments f.params (values m a ts))) (or_previous f.result call (argument_of f.params ts)) (is_in_body f (Some z)) everything
    step-puts z before worth = record {
      kept = λ text s k e. kept_either text s (bytes_eq prev text && sort_eq f.result s) k e;
      put = λ text s u k e. put_either text s u (bytes_eq prev text) (sort_eq f.result s) refl e;
      outside = λ text s k. refl;
    }
      where
        kept_either : (text : List ℕ) (s : Sort) (b : Bool) → (b || is_param f text s) ≡ true → (if b then Some call else argument_of f.params ts text s) ≡ None → cast s (a text s) ≡ cast s (if b then before else arguments f.params (values m a ts) text s)
        kept_either text s true k e = some-none call e
        kept_either text s false k e = absurd (has_argument f.params ts h text s k e)

        put_either : (text : List ℕ) (s : Sort) (u : Tm) (b c : Bool) → sort_eq f.result s ≡ c → (if b && c then Some call else argument_of f.params ts text s) ≡ Some u → value m a u ≡ cast s (if b && c then before else arguments f.params (values m a ts) text s)
        put_either text s u true true q e = let same : call ≡ u = cc in ap (value m a) (sym same) ∙ worth ∙ ap (λ r. cast r before) (sort_eq_is f.result s q)
        put_either text s u true false q e = (argued m a f.params ts h text s u e).1
        put_either text s u false c q e = (argued m a f.params ts h text s u e).1

-- the last argument's value is the last one of their values
last_value : (m : Functions) (a : Assignment) (ts : Tms) → get_or (values m a ts) (length (values m a ts) - 1) (Whole (pos 0)) ≡ value m a (last_argument ts)
last_value m a no_tms = refl
last_value m a (more_tms t no_tms) = refl
last_value m a (more_tms t (more_tms u us)) =
    let vs = values m a (more_tms u us) in
    let n : length (value m a t ∷ vs) - 1 ≡ suc (length vs - 1) = omega arith in
    ap (λ i. get_or (value m a t ∷ vs) i (Whole (pos 0))) n ∙ last_value m a (more_tms u us)

-- a number as the last argument in its own place
last_kept : (m : Functions) (a : Assignment) (ts : Tms) → tm_sort (last_argument ts) ≡ sort.Int → with_last (values m a ts) (last_number (values m a ts)) ≡ values m a ts
last_kept m a ts h =
    let vs = values m a ts in
    let i = length vs - 1 in
    let last = value m a (last_argument ts) in
    let number : Whole (whole last) ≡ last = ap (λ s. cast s last) (sym h) ∙ value-sorted m a (last_argument ts) in
    ap (λ v. set vs i (Whole (whole v))) (last_value m a ts)
    ∙ ap (λ v. set vs i v) (number ∙ sym (last_value m a ts))
    ∙ set-get_or vs i (Whole (pos 0))

less_value : (m : Functions) (a : Assignment) (ts : Tms) → tm_sort (last_argument ts) ≡ sort.Int → values m a (with_one_less ts) ≡ with_last (values m a ts) (whole (value m a (last_argument ts)) -ℤ pos 1)
less_value m a no_tms h = refl
less_value m a (more_tms t no_tms) h = ap (λ s. difference_value s (value m a t) (Whole (pos 1)) ∷ []) h
less_value m a (more_tms t (more_tms u us)) h =
    let vs = values m a (more_tms u us) in
    let v = value m a t in
    let less = whole (value m a (last_argument (more_tms u us))) -ℤ pos 1 in
    let n : length (v ∷ vs) - 1 ≡ suc (length vs - 1) = omega arith in
    ap (λ ws. v ∷ ws) (less_value m a (more_tms u us) h)
    ∙ ap (λ i. set (v ∷ vs) i (Whole less)) (sym n)

set_twice : (vs : List Val) (i : ℕ) (v w : Val) → set (set vs i v) i w ≡ set vs i w
set_twice [] i v w = refl
set_twice (x ∷ vs) zero v w = refl
set_twice (x ∷ vs) (suc i) v w = ap (λ l. x ∷ l) (set_twice vs i v w)

last_twice : (vs : List Val) (y z : ℤ) → with_last (with_last vs y) z ≡ with_last vs z
last_twice vs y z =
    ap (λ n. set (with_last vs y) (n - 1) (Whole z)) (length-set vs (length vs - 1) (Whole y))
    ∙ set_twice vs (length vs - 1) (Whole y) (Whole z)

last_of_with : (vs : List Val) (z : ℤ) → 0 < length vs → last_number (with_last vs z) ≡ z
last_of_with vs z lt =
    let i : length vs - 1 < length vs = omega arith in
    ap (λ n. whole (get_or (with_last vs z) (n - 1) (Whole (pos 0)))) (length-set vs (length vs - 1) (Whole z))
    ∙ ap whole (get_or-set_same vs (length vs - 1) (Whole z) (Whole (pos 0)) i)

some_arguments : (vs : List Val) (n : ℕ) → last_number vs ≡ pos (suc n) → 0 < length vs
some_arguments [] n h = absurd (let differs : pos 0 ≡ pos (suc n) → ⊥ = λ e. no_successor (let same : 0 ≡ suc n = cc in same) in differs h)
  where
    no_successor : 0 ≡ suc n → ⊥
    no_successor e = omega (arith, e)
some_arguments (v ∷ vs) n h = omega arith

-- turns don't look at the last argument, but whether it is 0 or less
turns-last : (m : Functions) (f : Function) (z : Tm) (vs : List Val) (n c : ℕ) → last_number vs ≡ pos (suc n) → turns m f z (with_last vs (pos n)) c ≡ turns m f z vs c
turns-last m f z vs n zero h =
    let last = last_of_with vs (pos n) (some_arguments vs n h) in
    ap (λ x. value m (arguments f.params (with_last (with_last vs (pos n)) (at_most_0 x))) z) last
    ∙ ap (λ l. value m (arguments f.params l) z) (last_twice vs (pos n) (pos 0))
    ∙ ap (λ x. value m (arguments f.params (with_last vs (at_most_0 x))) z) (sym h)
turns-last m f z vs n (suc c) h =
    ap (λ v. value m (assigned prev f.result v (arguments f.params (with_last (with_last vs (pos n)) (pos (suc c))))) f.body) (turns-last m f z vs n c h)
    ∙ ap (λ l. value m (assigned prev f.result (turns m f z vs c) (arguments f.params l)) f.body) (last_twice vs (pos n) (pos (suc c)))

-- The last argument of a call that fits is of the sort of the last parameter.
pub last_sort : (ts : Tms) (ps : List Variable) → sorts_eq (tms_sorts ts) (map (λ p. p.sort) ps) ≡ true → last_is_number ps ≡ true → tm_sort (last_argument ts) ≡ sort.Int
last_sort no_tms [] h k = absurd (false≢true k)
last_sort no_tms (p ∷ ps) h k = absurd (false≢true h)
last_sort (more_tms t ts) [] h k = absurd (false≢true h)
last_sort (more_tms t no_tms) (p ∷ []) h k = sort_eq_is (tm_sort t) p.sort (and_parts (sort_eq (tm_sort t) p.sort) _ h).0 ∙ sort_eq_is p.sort sort.Int k
last_sort (more_tms t no_tms) (p ∷ q ∷ ps) h k = absurd (false≢true (and_parts (sort_eq (tm_sort t) p.sort) _ h).1)
last_sort (more_tms t (more_tms u us)) (p ∷ []) h k = absurd (false≢true (and_parts (sort_eq (tm_sort t) p.sort) _ h).1)
last_sort (more_tms t (more_tms u us)) (p ∷ q ∷ ps) h k =
    let n : length (p ∷ q ∷ ps) - 1 ≡ suc (length (q ∷ ps) - 1) = omega arith in
    last_sort (more_tms u us) (q ∷ ps) (and_parts (sort_eq (tm_sort t) p.sort) _ h).1 (sym (ap (λ i. is_of_sort sort.Int (slice_get (p ∷ q ∷ ps) i)) n) ∙ k)

above_zero : (j : ℕ) → int_le (pos (suc j)) (pos 0) ≡ false
above_zero j = grind (arith, nat_tests)

-- What a call of function k is unfolded to, by the function's rules.
module _ (m : Functions) (a : Assignment) (f : Function) (k : ℕ) (ts : Tms) (h : sorts_eq (tms_sorts ts) (map (λ p. p.sort) f.params) ≡ true) (means_so : (vs : List Val) → m k vs ≡ fun_value m f f.zero_part vs) where
  body_value : free_all (is_in_body f None) f.body ≡ true → puts_freely everything (argument_of f.params ts) f.body ≡ true → value m a (with_images (argument_of f.params ts) f.body) ≡ value m (arguments f.params (values m a ts)) f.body
  body_value free c = put-value m a a (arguments f.params (values m a ts)) (argument_of f.params ts) (is_param f) everything f.body (argument-sorts m a f ts h) free c (argument-puts m a f ts h)

  zero_value : (z : Tm) → free_all (is_param f) z ≡ true → puts_freely everything (argument_of f.params ts) z ≡ true → value m a (with_images (argument_of f.params ts) z) ≡ value m (arguments f.params (values m a ts)) z
  zero_value z free c = put-value m a a (arguments f.params (values m a ts)) (argument_of f.params ts) (is_param f) everything z (argument-sorts m a f ts h) free c (argument-puts m a f ts h)

  -- where the last argument is 0 or less
  at_zero : (z : Tm) (n : ℤ) → last_number (values m a ts) ≡ n → count n ≡ 0 → at_most_0 n ≡ n → tm_sort (last_argument ts) ≡ sort.Int → turns m f z (values m a ts) (count (last_number (values m a ts))) ≡ value m (arguments f.params (values m a ts)) z
  at_zero z n e c l s =
      let vs = values m a ts in
      ap (turns m f z vs) (ap count e ∙ c)
      ∙ ap (λ x. value m (arguments f.params (with_last vs x)) z) (ap at_most_0 e ∙ l ∙ sym e)
      ∙ ap (λ ws. value m (arguments f.params ws) z) (last_kept m a ts s)

  -- the value of the call with one less, where the last argument is n + 1
  call_value : (z : Tm) (n : ℕ) → f.zero_part ≡ Some z → last_number (values m a ts) ≡ pos (suc n) → tm_sort (last_argument ts) ≡ sort.Int → value m a (Call k f.result (with_one_less ts)) ≡ cast f.result (turns m f z (values m a ts) n)
  call_value z n e last s =
      let vs = values m a ts in
      let less : whole (value m a (last_argument ts)) -ℤ pos 1 ≡ pos n = ap (λ v. whole v -ℤ pos 1) (sym (last_value m a ts)) ∙ ap (λ x. x -ℤ pos 1) last ∙ one_less n in
      let args : values m a (with_one_less ts) ≡ with_last vs (pos n) = less_value m a ts s ∙ ap (with_last vs) less in
      ap (λ ws. cast f.result (m k ws)) args
      ∙ ap (cast f.result) (means_so (with_last vs (pos n)) ∙ ap (λ o. fun_value m f o (with_last vs (pos n))) e)
      ∙ ap (λ x. cast f.result (turns m f z (with_last vs (pos n)) (count x))) (last_of_with vs (pos n) (some_arguments vs n last))
      ∙ ap (cast f.result) (turns-last m f z vs n n last)
    where
      one_less : (n : ℕ) → pos (suc n) -ℤ pos 1 ≡ pos n
      one_less n = omega (arith, ints)

  -- where the last argument is n + 1
  at_step : (z : Tm) (n : ℕ) → f.zero_part ≡ Some z → last_number (values m a ts) ≡ pos (suc n) → tm_sort (last_argument ts) ≡ sort.Int → free_all (is_in_body f (Some z)) f.body ≡ true → puts_freely everything (step_images f k ts) f.body ≡ true → value m a (with_images (step_images f k ts) f.body) ≡ turns m f z (values m a ts) (count (last_number (values m a ts)))
  at_step z n e last s free c =
      let vs = values m a ts in
      let call = Call k f.result (with_one_less ts) in
      let before = turns m f z vs n in
      let worth = call_value z n e last s in
      put-value m a a (assigned prev f.result before (arguments f.params vs)) (step_images f k ts) (is_in_body f (Some z)) everything f.body
      (step-sorts m a f ts h call refl) free c (step-puts m a f ts h call refl z before worth)
      ∙ ap (λ ws. value m (assigned prev f.result before (arguments f.params ws)) f.body) (sym (ap (with_last vs) (sym last) ∙ last_kept m a ts s))
      ∙ sym (ap (λ x. turns m f z vs (count x)) last)

  -- a choice by whether the last argument is 0 or less
  chosen : (z : Tm) (n : ℤ) → last_number (values m a ts) ≡ n → f.zero_part ≡ Some z → tm_sort (last_argument ts) ≡ sort.Int → (s : Sort) (v w : Val) → v ≡ value m (arguments f.params (values m a ts)) z → ((j : ℕ) → n ≡ pos (suc j) → cast s w ≡ turns m f z (values m a ts) (count (last_number (values m a ts)))) → (if int_le n (pos 0) then v else cast s w) ≡ turns m f z (values m a ts) (count (last_number (values m a ts)))
  chosen z (pos zero) e o l s v w zero_is step_is = zero_is ∙ sym (at_zero z (pos zero) e refl refl l)
  chosen z (pos (suc j)) e o l s v w zero_is step_is = ap (λ b. if b then v else cast s w) (above_zero j) ∙ step_is j refl
  chosen z (negsuc j) e o l s v w zero_is step_is = zero_is ∙ sym (at_zero z (negsuc j) e refl refl l)

  -- what a call is unfolded to, for a function with that zero part
  part_value : (e : List Function) (z : Option Tm) → f.zero_part ≡ z → (is_none z || last_is_number f.params) ≡ true → holds_of (is_sorted e f.result) z ≡ true → is_sorted e f.result f.body ≡ true → holds_of (free_all (is_param f)) z ≡ true → free_all (is_in_body f z) f.body ≡ true → parts_capture_nothing f k ts z ≡ true → value m a (unfolded_by f k ts z) ≡ fun_value m f z (values m a ts)
  part_value e None same last zs bs zf bf c = body_value bf c
  part_value e (Some z) same last zs bs zf bf c =
      let vs = values m a ts in
      let l = last_sort ts f.params h last in
      let q = and_parts (puts_freely everything (argument_of f.params ts) z) _ c in
      let zero_image = with_images (argument_of f.params ts) z in
      let step_image = with_images (step_images f k ts) f.body in
      let zero_sort = put_sort (argument_of f.params ts) z (argument-sorts m a f ts h) ∙ sort_eq_is (tm_sort z) f.result (and_parts (well_sorted e z) _ zs).1 in
      let step_sort = put_sort (step_images f k ts) f.body (step-sorts m a f ts h (Call k f.result (with_one_less ts)) refl) ∙ sort_eq_is (tm_sort f.body) f.result (and_parts (well_sorted e f.body) _ bs).1 in
      let kept : cast (tm_sort zero_image) (value m a step_image) ≡ value m a step_image = ap (λ s. cast s (value m a step_image)) (zero_sort ∙ sym step_sort) ∙ value-sorted m a step_image in
      ap (λ x. if int_le (whole x) (pos 0) then value m a zero_image else cast (tm_sort zero_image) (value m a step_image)) (sym (last_value m a ts))
      ∙ chosen z (last_number vs) refl same l (tm_sort zero_image) (value m a zero_image) (value m a step_image) (zero_value z zf q.0)
      (λ j at. kept ∙ at_step z j same at l bf q.1)

  part_sort : (e : List Function) (z : Option Tm) → holds_of (is_sorted e f.result) z ≡ true → is_sorted e f.result f.body ≡ true → tm_sort (unfolded_by f k ts z) ≡ f.result
  part_sort e None zs bs = put_sort (argument_of f.params ts) f.body (argument-sorts m a f ts h) ∙ sort_eq_is (tm_sort f.body) f.result (and_parts (well_sorted e f.body) _ bs).1
  part_sort e (Some z) zs bs = put_sort (argument_of f.params ts) z (argument-sorts m a f ts h) ∙ sort_eq_is (tm_sort z) f.result (and_parts (well_sorted e z) _ zs).1

-- the value and the sort of what a call is unfolded to
unfolding-both : (fs : List Function) (a : Assignment) (k : ℕ) (s : Sort) (ts : Tms) (u : Tm) → all_obey [] fs ≡ true → (o : Option Function) → slice_get fs k ≡ o → fun_takes o s (tms_sorts ts) ≡ true → option_map (λ f. unfolded_by f k ts f.zero_part) o ≡ Some u → (tm_sort u ≡ s) × (fun_captures_nothing o k ts ≡ true → value (meaning fs) a u ≡ cast s (meaning fs k (values (meaning fs) a ts)))
unfolding-both fs a k s ts u h None at takes is = absurd (false≢true takes)
unfolding-both fs a k s ts u h (Some f) at takes is =
    let m = meaning fs in
    let vs = values m a ts in
    let q = and_parts (sort_eq s f.result) _ takes in
    let of : s ≡ f.result = sort_eq_is s f.result q.0 in
    let o = obeying [] fs h k f at in
    let same : unfolded_by f k ts f.zero_part ≡ u = cc in
    let sort_is : tm_sort u ≡ s = ap tm_sort (sym same) ∙ part_sort m a f k ts q.1 (means fs h k f at) o.0 f.zero_part o.1.zero_sorted o.1.body_sorted ∙ sym of in (
      sort_is,
      λ c.
          let worth = ap (value m a) (sym same) ∙ part_value m a f k ts q.1 (means fs h k f at) o.0 f.zero_part refl o.1.last o.1.zero_sorted o.1.body_sorted o.1.zero_free o.1.body_free c in
          sym (value-sorted m a u) ∙ ap (λ r. cast r (value m a u)) sort_is ∙ ap (cast s) (worth ∙ sym (means fs h k f at vs)),
    )

pub unfolding-value : (fs : List Function) (a : Assignment) (call u : Tm) → all_obey [] fs ≡ true → well_sorted fs call ≡ true → unfolding_captures_nothing fs call ≡ true → unfolded fs call ≡ Some u → value (meaning fs) a u ≡ value (meaning fs) a call
unfolding-value fs a (Call k s ts) u h w c is = (unfolding-both fs a k s ts u h (slice_get fs k) refl (and_parts (fun_takes (slice_get fs k) s (tms_sorts ts)) _ w).0 is).1 c
unfolding-value fs a _ u h w c is = none-some u is

pub unfolding-sort : (fs : List Function) (call u : Tm) → all_obey [] fs ≡ true → well_sorted fs call ≡ true → unfolded fs call ≡ Some u → tm_sort u ≡ tm_sort call
unfolding-sort fs (Call k s ts) u h w is = (unfolding-both fs (λ text r. Whole (pos 0)) k s ts u h (slice_get fs k) refl (and_parts (fun_takes (slice_get fs k) s (tms_sorts ts)) _ w).0 is).0
unfolding-sort fs _ u h w is = none-some u is
