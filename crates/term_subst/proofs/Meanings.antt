-- What a function means is what its parts are worth by the meaning of all functions.
use Rattle.std.proofs.Common.{◌≡◌, ℕ, zero, suc, ◌+◌, ◌<◌, pos, Bool, true, false, List, [], ◌∷◌, ◌++◌, length, refl, sym, ap, ◌∙◌, arith, Option, None, Some, length-append, append_assoc, subst}
use Rattle.std.specs.Prelude.{◌&&◌, ◌||◌, ◌==◌, is_none, not, slice_get, if◌then◌else◌}
use Rattle.std.specs.List.{list_all, list_any}
use Rattle.std.specs.Str.{bytes_eq}
use Rattle.x64_syntax.specs.Words.{built_in_of}
use Rattle.std.proofs.lemmas.Bool.{and_parts, false≢true, eqb-true, eq-eqb}
use Rattle.term_core.specs.declared.functions.BrokenRule.{BrokenRule}
use Rattle.term_core.specs.Terms.{Tm}
use Rattle.term_core.specs.Value.{Val, Whole, Functions, assigned, value}
use Rattle.term_core.specs.Functions.{Function}
use Rattle.term_core.specs.Sorted.{well_sorted, is_sorted}
use Rattle.term_core.specs.Rules.{prev, rules, first_broken, broken_rule, all_obey, holds_of, is_param, is_in_body, free_all, has_name, names_differ, last_is_number}
use Rattle.term_core.specs.Meaning.{arguments, with_last, at_most_0, last_number, turns, fun_value, with_function, meaning_from, meaning}
use Rattle.term_subst.proofs.Agreeing.{Alike, value-alike}

all_hold : (rs : List (Bool × BrokenRule)) → is_none (first_broken rs) ≡ true → list_all (λ r. r.0) rs ≡ true
all_hold [] h = refl
all_hold ((true, r) ∷ rs) h = all_hold rs h
all_hold ((false, r) ∷ rs) h = absurd (false≢true h)

-- what the rules say of a function's parts
pub record Obeys (earlier : List Function) (f : Function) : Type 0 where
  pub last : (is_none f.zero_part || last_is_number f.params) ≡ true
  pub zero_sorted : holds_of (is_sorted earlier f.result) f.zero_part ≡ true
  pub body_sorted : is_sorted earlier f.result f.body ≡ true
  pub zero_free : holds_of (free_all (is_param f)) f.zero_part ≡ true
  pub body_free : free_all (is_in_body f f.zero_part) f.body ≡ true

obeys : (earlier : List Function) (f : Function) → is_none (broken_rule earlier f) ≡ true → Obeys earlier f
obeys earlier f h =
    let all = all_hold (rules earlier f) h in
    let named = (and_parts (not (list_any (λ g. bytes_eq g.name f.name) earlier)) _ (and_parts (is_none (built_in_of f.name)) _ all).1).1 in
    let behind4 = (and_parts (not (list_any (has_name prev) f.params)) _ (and_parts (names_differ f.params) _ named).1).1 in
    let last = and_parts (is_none f.zero_part || last_is_number f.params) _ behind4 in
    let sorts = and_parts (holds_of (is_sorted earlier f.result) f.zero_part && is_sorted earlier f.result f.body) _ last.1 in
    let free = and_parts (holds_of (free_all (is_param f)) f.zero_part && free_all (is_in_body f f.zero_part) f.body) true sorts.1 in
    let sorted = and_parts (holds_of (is_sorted earlier f.result) f.zero_part) (is_sorted earlier f.result f.body) sorts.0 in
    let bound = and_parts (holds_of (free_all (is_param f)) f.zero_part) (free_all (is_in_body f f.zero_part) f.body) free.0 in
    record { last = last.0; zero_sorted = sorted.0; body_sorted = sorted.1; zero_free = bound.0; body_free = bound.1 }

-- the functions of the one list stand in the other at their numbers
pub record Before (earlier fs : List Function) : Type 0 where
  pub kept : (k : ℕ) (f : Function) → slice_get earlier k ≡ Some f → slice_get fs k ≡ Some f

front_kept : (front back : List Function) (k : ℕ) (f : Function) → slice_get front k ≡ Some f → slice_get (front ++ back) k ≡ Some f
front_kept [] back k f at = absurd (let differs : None ≡ Some f → ⊥ = λ q. cc in differs at)
front_kept (g ∷ front) back zero f at = at
front_kept (g ∷ front) back (suc k) f at = front_kept front back k f at

pub obeying : (earlier fs : List Function) → all_obey earlier fs ≡ true → (i : ℕ) (f : Function) → slice_get fs i ≡ Some f → (e : List Function) × Obeys e f × Before e (earlier ++ fs)
obeying earlier [] h i f at = absurd (let differs : None ≡ Some f → ⊥ = λ q. cc in differs at)
obeying earlier (g ∷ fs) h zero f at =
    let same : g ≡ f = cc in (
      earlier,
      obeys earlier f (ap (λ x. is_none (broken_rule earlier x)) (sym same) ∙ (and_parts (is_none (broken_rule earlier g)) _ h).0),
      record { kept = front_kept earlier (g ∷ fs) },
    )
obeying earlier (g ∷ fs) h (suc i) f at =
    let o = obeying (earlier ++ g ∷ []) fs (and_parts (is_none (broken_rule earlier g)) _ h).1 i f at in
    (o.0, o.1, subst (Before o.0) (append_assoc earlier (g ∷ []) fs) o.2)

-- earlier numbers keep their meaning
kept_below : (fs : List Function) (m : Functions) (k j : ℕ) (vs : List Val) → j < k → meaning_from m k fs j vs ≡ m j vs
kept_below [] m k j vs lt = refl
kept_below (f ∷ fs) m k j vs lt = kept_below fs (with_function m k f) (suc k) j vs (omega (arith, lt)) ∙ other (j == k) refl
  where
    other : (b : Bool) → (j == k) ≡ b → (if b then fun_value m f f.zero_part vs else m j vs) ≡ m j vs
    other true e = absurd (let same : j ≡ k = eqb-true j k e in omega (arith, lt, same))
    other false e = refl

own_value : (m : Functions) (k : ℕ) (f : Function) (vs : List Val) → with_function m k f k vs ≡ fun_value m f f.zero_part vs
own_value m k f vs = ap (λ b. if b then fun_value m f f.zero_part vs else m k vs) (eq-eqb k k refl)

turns-alike : (m n : Functions) (fs : List Function) (f : Function) (z : Tm) (vs : List Val) (c : ℕ) → Alike fs m n → well_sorted fs z ≡ true → well_sorted fs f.body ≡ true → turns m f z vs c ≡ turns n f z vs c
turns-alike m n fs f z vs zero h w b = value-alike m n fs (arguments f.params (with_last vs (at_most_0 (last_number vs)))) z w h
turns-alike m n fs f z vs (suc c) h w b =
    ap (λ v. value m (assigned prev f.result v (arguments f.params (with_last vs (pos (suc c))))) f.body) (turns-alike m n fs f z vs c h w b)
    ∙ value-alike m n fs (assigned prev f.result (turns n f z vs c) (arguments f.params (with_last vs (pos (suc c))))) f.body b h

fun_value-alike : (m n : Functions) (fs : List Function) (f : Function) (z : Option Tm) (vs : List Val) → Alike fs m n → holds_of (is_sorted fs f.result) z ≡ true → is_sorted fs f.result f.body ≡ true → fun_value m f z vs ≡ fun_value n f z vs
fun_value-alike m n fs f None vs h s b = value-alike m n fs (arguments f.params vs) f.body (and_parts (well_sorted fs f.body) _ b).0 h
fun_value-alike m n fs f (Some z) vs h s b = turns-alike m n fs f z vs _ h (and_parts (well_sorted fs z) _ s).0 (and_parts (well_sorted fs f.body) _ b).0

means_from : (earlier fs : List Function) (m : Functions) (k : ℕ) → k ≡ length earlier → all_obey earlier fs ≡ true → (i : ℕ) (f : Function) → slice_get fs i ≡ Some f → (vs : List Val) → meaning_from m k fs (k + i) vs ≡ fun_value (meaning_from m k fs) f f.zero_part vs
means_from earlier [] m k e h i f at vs = absurd (let differs : None ≡ Some f → ⊥ = λ q. cc in differs at)
means_from earlier (g ∷ fs) m k e h zero f at vs =
    let all = meaning_from (with_function m k g) (suc k) fs in
    let same : g ≡ f = cc in
    let here : k + 0 ≡ k = omega arith in
    let below : k < suc k = omega arith in
    let o = obeys earlier g (and_parts (is_none (broken_rule earlier g)) _ h).0 in
    let alike : Alike earlier m all = record { same = λ j ws lt. sym (kept_below (g ∷ fs) m k j ws (omega (arith, lt, e))) } in
    ap (λ n. all n vs) here
    ∙ kept_below fs (with_function m k g) (suc k) k vs below
    ∙ own_value m k g vs
    ∙ fun_value-alike m all earlier g g.zero_part vs alike o.zero_sorted o.body_sorted
    ∙ ap (λ x. fun_value all x x.zero_part vs) same
means_from earlier (g ∷ fs) m k e h (suc i) f at vs =
    let all = meaning_from (with_function m k g) (suc k) fs in
    let longer : suc k ≡ length (earlier ++ g ∷ []) = omega (arith, e, length-append earlier (g ∷ [])) in
    let further : k + suc i ≡ suc k + i = omega arith in
    ap (λ n. all n vs) further
    ∙ means_from (earlier ++ g ∷ []) fs (with_function m k g) (suc k) longer (and_parts (is_none (broken_rule earlier g)) _ h).1 i f at vs

pub means : (fs : List Function) → all_obey [] fs ≡ true → (k : ℕ) (f : Function) → slice_get fs k ≡ Some f → (vs : List Val) → meaning fs k vs ≡ fun_value (meaning fs) f f.zero_part vs
means fs h k f at vs =
    let same : k ≡ 0 + k = omega arith in
    ap (λ n. meaning fs n vs) same ∙ means_from [] fs (λ k vs. Whole (pos 0)) 0 refl h k f at vs
