-- The sort that is worked out for a term is there exactly where the term is well sorted.
use Rattle.std.proofs.Common.{◌≡◌, ℕ, Bool, true, false, List, [], ◌∷◌, map, length, suc, refl, sym, ap, ◌∙◌, ◌&&◌, Option, Some, None}
use Rattle.std.specs.Prelude.{slice_get, option_map}
use Rattle.std.proofs.lemmas.Option.{slice_get-map}
use Rattle.x64_syntax.specs.declared.type_words.Sort.{Sort}
use Rattle.x64_syntax.specs.declared.type_words.Sort.TheVariants as sort
use Rattle.term_core.specs.declared.functions.Variable.{Variable}
use Rattle.term_core.specs.declared.term.Term.{Term}
use Rattle.term_core.specs.Operators.{sort_eq, both_are, un_takes, un_sort, bin_takes, bin_sort, counted_takes, counted_sort, given_if}
use Rattle.term_core.specs.Terms.{Tm, Tms, Name, Int, W64, W128, TruthTerm, Un, Bin, Ite, Put, PutDword, Clmul, Shift, Call, All, no_tms, more_tms, tree, tms, tm_sort}
use Rattle.term_core.specs.declared.functions.Fun.{Fun}
use Rattle.term_core.specs.Functions.{Function, function, functions}
use Rattle.term_core.specs.Sorted.{well_sorted, all_well_sorted, is_sorted, tms_sorts, sorts_eq, fun_takes, ite_takes, put_takes, all_takes}
use Rattle.term_core.specs.inner.Checked.{checked_sort, checked_arguments, given_some, two, three}
use Rattle.term_core.specs.inner.Uses.{is_the}

and_true : (k : Bool) (r : Sort) → given_if k r ≡ given_if (k && true) r
and_true true r = refl
and_true false r = refl

and_false : (k : Bool) (r : Sort) → None ≡ given_if (k && false) r
and_false true r = refl
and_false false r = refl

from_one : (w : Bool) (s : Sort) (takes : Sort → Bool) (r : Sort → Sort) → given_some (given_if w s) (λ a. given_if (takes a) (r a)) ≡ given_if (takes s && w) (r s)
from_one true s takes r = and_true (takes s) (r s)
from_one false s takes r = and_false (takes s) (r s)

from_two : (v w : Bool) (s t : Sort) (takes : Sort → Sort → Bool) (r : Sort → Sort → Sort) → two (given_if v s) (given_if w t) (λ a b. given_if (takes a b) (r a b)) ≡ given_if (takes s t && (v && w)) (r s t)
from_two true true s t takes r = and_true (takes s t) (r s t)
from_two true false s t takes r = and_false (takes s t) (r s t)
from_two false w s t takes r = and_false (takes s t) (r s t)

from_three : (u v w : Bool) (s t x : Sort) (takes : Sort → Sort → Sort → Bool) (r : Sort → Sort → Sort → Sort) → three (given_if u s) (given_if v t) (given_if w x) (λ a b c. given_if (takes a b c) (r a b c)) ≡ given_if (takes s t x && (u && (v && w))) (r s t x)
from_three true true true s t x takes r = and_true (takes s t x) (r s t x)
from_three true true false s t x takes r = and_false (takes s t x) (r s t x)
from_three true false w s t x takes r = and_false (takes s t x) (r s t x)
from_three false v w s t x takes r = and_false (takes s t x) (r s t x)

from_argument : (w : Bool) (a s : Sort) (x y : Bool) → (is_the s (given_if w a) && (x && y)) ≡ ((sort_eq a s && x) && (w && y))
from_argument true a s x y = grouped (sort_eq a s) x y
  where
    grouped : (e x y : Bool) → (e && (x && y)) ≡ ((e && x) && y)
    grouped true x y = refl
    grouped false x y = refl
from_argument false a s x y = none (sort_eq a s) x
  where
    none : (e x : Bool) → false ≡ ((e && x) && false)
    none true true = refl
    none true false = refl
    none false x = refl

from_call : (o : Option Function) (s : Sort) (args : Tms) (checked : List Variable → Bool) (w : Bool) → ((ps : List Variable) → checked ps ≡ (sorts_eq (tms_sorts args) (map (λ p. p.sort) ps) && w)) → given_some o (λ f. given_if (sort_eq s f.result && checked f.params) s) ≡ given_if (fun_takes o s (tms_sorts args) && w) s
from_call None s args checked w is = refl
from_call (Some f) s args checked w is = ap (λ c. given_if (sort_eq s f.result && c) s) (is f.params) ∙ ap (λ c. given_if c s) (grouped (sort_eq s f.result) (sorts_eq (tms_sorts args) (map (λ p. p.sort) f.params)) w)
  where
    grouped : (e x y : Bool) → (e && (x && y)) ≡ ((e && x) && y)
    grouped true x y = refl
    grouped false x y = refl

-- a term's sort as it is worked out
abbrev Worked : List Function → Tm → Type 0
Worked fs t = checked_sort fs t ≡ given_if (well_sorted fs t) (tm_sort t)

single : (fs : List Function) (t : Tm) (takes : Sort → Bool) (r : Sort → Sort) → Worked fs t → given_some (checked_sort fs t) (λ a. given_if (takes a) (r a)) ≡ given_if (takes (tm_sort t) && well_sorted fs t) (r (tm_sort t))
single fs t takes r is = ap (λ c. given_some c (λ a. given_if (takes a) (r a))) is ∙ from_one (well_sorted fs t) (tm_sort t) takes r

pair : (fs : List Function) (t u : Tm) (takes : Sort → Sort → Bool) (r : Sort → Sort → Sort) → Worked fs t → Worked fs u → two (checked_sort fs t) (checked_sort fs u) (λ a b. given_if (takes a b) (r a b)) ≡ given_if (takes (tm_sort t) (tm_sort u) && (well_sorted fs t && well_sorted fs u)) (r (tm_sort t) (tm_sort u))
pair fs t u takes r is its =
    ap (λ c. two c (checked_sort fs u) (λ a b. given_if (takes a b) (r a b))) is
    ∙ ap (λ c. two (given_if (well_sorted fs t) (tm_sort t)) c (λ a b. given_if (takes a b) (r a b))) its
    ∙ from_two (well_sorted fs t) (well_sorted fs u) (tm_sort t) (tm_sort u) takes r

triple : (fs : List Function) (t u v : Tm) (takes : Sort → Sort → Sort → Bool) (r : Sort → Sort → Sort → Sort) → Worked fs t → Worked fs u → Worked fs v → three (checked_sort fs t) (checked_sort fs u) (checked_sort fs v) (λ a b c. given_if (takes a b c) (r a b c)) ≡ given_if (takes (tm_sort t) (tm_sort u) (tm_sort v) && (well_sorted fs t && (well_sorted fs u && well_sorted fs v))) (r (tm_sort t) (tm_sort u) (tm_sort v))
triple fs t u v takes r is its theirs =
    ap (λ c. three c (checked_sort fs u) (checked_sort fs v) (λ a b d. given_if (takes a b d) (r a b d))) is
    ∙ ap (λ c. three (given_if (well_sorted fs t) (tm_sort t)) c (checked_sort fs v) (λ a b d. given_if (takes a b d) (r a b d))) its
    ∙ ap (λ c. three (given_if (well_sorted fs t) (tm_sort t)) (given_if (well_sorted fs u) (tm_sort u)) c (λ a b d. given_if (takes a b d) (r a b d))) theirs
    ∙ from_three (well_sorted fs t) (well_sorted fs u) (well_sorted fs v) (tm_sort t) (tm_sort u) (tm_sort v) takes r

mutual
  pub checked_is : (fs : List Function) (t : Tm) → Worked fs t
  checked_is fs (Name text s) = refl
  checked_is fs (Int z) = refl
  checked_is fs (W64 n) = refl
  checked_is fs (W128 n) = refl
  checked_is fs (TruthTerm b) = refl
  checked_is fs (Un op t) = single fs t (un_takes op) (un_sort op) (checked_is fs t)
  checked_is fs (Bin op t u) = pair fs t u (bin_takes op) (λ a b. bin_sort op a) (checked_is fs t) (checked_is fs u)
  checked_is fs (Ite c t u) = triple fs c t u ite_takes (λ s a b. a) (checked_is fs c) (checked_is fs t) (checked_is fs u)
  checked_is fs (Put x i w) = triple fs x i w put_takes (λ s a b. sort.Arr) (checked_is fs x) (checked_is fs i) (checked_is fs w)
  checked_is fs (PutDword x j w) = triple fs x j w put_takes (λ s a b. sort.Arr) (checked_is fs x) (checked_is fs j) (checked_is fs w)
  checked_is fs (Clmul t u n) = pair fs t u (both_are sort.W128) (λ a b. sort.W128) (checked_is fs t) (checked_is fs u)
  checked_is fs (Shift op n t) = single fs t (counted_takes op n) (λ a. counted_sort op) (checked_is fs t)
  checked_is fs (Call k s args) = from_call (slice_get fs k) s args (λ ps. checked_arguments fs ps args) (all_well_sorted fs args) (λ ps. arguments_are fs ps args)
  checked_is fs (All text low high body) = triple fs low high body all_takes (λ s a b. sort.Bool) (checked_is fs low) (checked_is fs high) (checked_is fs body)

  arguments_are : (fs : List Function) (ps : List Variable) (args : Tms) → checked_arguments fs ps args ≡ (sorts_eq (tms_sorts args) (map (λ p. p.sort) ps) && all_well_sorted fs args)
  arguments_are fs [] no_tms = refl
  arguments_are fs [] (more_tms t ts) = refl
  arguments_are fs (p ∷ ps) no_tms = refl
  arguments_are fs (p ∷ ps) (more_tms t ts) =
      ap (λ c. is_the p.sort c && checked_arguments fs ps ts) (checked_is fs t)
      ∙ ap (λ c. is_the p.sort (given_if (well_sorted fs t) (tm_sort t)) && c) (arguments_are fs ps ts)
      ∙ from_argument (well_sorted fs t) (tm_sort t) p.sort (sorts_eq (tms_sorts ts) (map (λ q. q.sort) ps)) (all_well_sorted fs ts)

-- the sort is worked out as this one exactly where the term is one of it
pub checked_is_sorted : (fs : List Function) (s : Sort) (t : Tm) → is_the s (checked_sort fs t) ≡ is_sorted fs s t
checked_is_sorted fs s t = ap (is_the s) (checked_is fs t) ∙ by_cases (well_sorted fs t)
  where
    by_cases : (w : Bool) → is_the s (given_if w (tm_sort t)) ≡ (w && sort_eq (tm_sort t) s)
    by_cases true = refl
    by_cases false = refl

-- as many arguments as parameters
pub lengths_of_calls : (fs : List Function) (ps : List Variable) (args : List Term) → (length args ≡ length ps → ⊥) → false ≡ checked_arguments fs ps (tms (map tree args))
lengths_of_calls fs [] [] differ = absurd (differ refl)
lengths_of_calls fs [] (t ∷ ts) differ = refl
lengths_of_calls fs (p ∷ ps) [] differ = refl
lengths_of_calls fs (p ∷ ps) (t ∷ ts) differ = either (is_the p.sort (checked_sort fs (tree t))) (lengths_of_calls fs ps ts (λ e. differ (ap suc e)))
  where
    either : (c : Bool) {d : Bool} → false ≡ d → false ≡ (c && d)
    either true h = h
    either false h = refl

pub function_of_number : (fs : List Fun) (k : ℕ) → option_map function (slice_get fs k) ≡ slice_get (functions fs) k
function_of_number fs k = sym (slice_get-map function fs k)
