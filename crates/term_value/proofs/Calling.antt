-- What functions evaluate to, by their numbers.
use Rattle.std.proofs.Common.{◌≡◌, ℕ, zero, suc, ◌+◌, ◌<◌, ◌≤◌, pos, Bool, true, false, List, [], ◌∷◌, length, get_or, take, refl, sym, ap, ◌∙◌, arith, None, Some}
use Rattle.std.specs.Prelude.{◌==◌, slice_get, if◌then◌else◌}
use Rattle.std.proofs.lemmas.Bool.{eqb-true, eq-eqb}
use Rattle.term_core.specs.declared.functions.Fun.{Fun}
use Rattle.term_core.specs.Value.{Val, Whole}
use Rattle.term_core.specs.Functions.{Function, function, functions}
use Rattle.term_value.specs.Evaluation.{give, Evaluations, evaluate_fun, evaluating, evaluations_from, evaluations}

-- another number than that of one more function
other_function : (c : Evaluations) (k j : ℕ) (f : Function) (vs : List Val) → (j ≡ k → ⊥) → evaluating c k f j vs ≡ c j vs
other_function c k j f vs differs = other (j == k) refl
  where
    other : (b : Bool) → (j == k) ≡ b → (if b then evaluate_fun c f f.zero_part vs else c j vs) ≡ c j vs
    other true e = absurd (differs (eqb-true j k e))
    other false e = refl

pub own_function : (c : Evaluations) (k : ℕ) (f : Function) (vs : List Val) → evaluating c k f k vs ≡ evaluate_fun c f f.zero_part vs
own_function c k f vs = ap (λ b. if b then evaluate_fun c f f.zero_part vs else c k vs) (eq-eqb k k refl)

-- earlier numbers keep what they are
kept_below : (fs : List Function) (c : Evaluations) (k j : ℕ) (vs : List Val) → j < k → evaluations_from c k fs j vs ≡ c j vs
kept_below [] c k j vs lt = refl
kept_below (f ∷ fs) c k j vs lt =
    kept_below fs (evaluating c k f) (suc k) j vs (omega (arith, lt)) ∙ other_function c k j f vs (λ e. omega (arith, lt, e))

at_number : (fs : List Function) (c : Evaluations) (k i : ℕ) (f : Function) (vs : List Val) → slice_get fs i ≡ Some f → evaluations_from c k fs (k + i) vs ≡ evaluate_fun (evaluations_from c k (take i fs)) f f.zero_part vs
at_number [] c k i f vs at = absurd (let differs : None ≡ Some f → ⊥ = λ q. cc in differs at)
at_number (g ∷ fs) c k zero f vs at =
    let same : g ≡ f = cc in
    let here : k + 0 ≡ k = omega arith in
    ap (λ j. evaluations_from (evaluating c k g) (suc k) fs j vs) here
    ∙ kept_below fs (evaluating c k g) (suc k) k vs (omega arith)
    ∙ own_function c k g vs
    ∙ ap (λ h. evaluate_fun c h h.zero_part vs) same
at_number (g ∷ fs) c k (suc i) f vs at =
    let next : k + suc i ≡ suc k + i = omega arith in
    ap (λ j. evaluations_from (evaluating c k g) (suc k) fs j vs) next ∙ at_number fs (evaluating c k g) (suc k) i f vs at

past : (fs : List Function) (c : Evaluations) (k j : ℕ) (vs : List Val) → k + length fs ≤ j → evaluations_from c k fs j vs ≡ c j vs
past [] c k j vs h = refl
past (f ∷ fs) c k j vs h =
    past fs (evaluating c k f) (suc k) j vs (omega (arith, h)) ∙ other_function c k j f vs (λ e. omega (arith, h, e))

pub get_some : (fs : List Fun) (k : ℕ) (f : Fun) → k < length fs → f ≡ get_or fs k f → slice_get fs k ≡ Some f
get_some [] k f lt e = absurd (omega (arith, lt))
get_some (g ∷ fs) zero f lt e = ap Some (sym e)
get_some (g ∷ fs) (suc k) f lt e = get_some fs k f (omega (arith, lt)) e

-- a function is evaluated over those before it
pub called : (fs : List Fun) (k : ℕ) (f : Fun) (vs : List Val) → slice_get fs k ≡ Some f → evaluations (functions fs) k vs ≡ evaluate_fun (evaluations (functions (take k fs))) (function f) (function f).zero_part vs
called fs k f vs at =
    let number : 0 + k ≡ k = omega arith in
    ap (λ j. evaluations (functions fs) j vs) (sym number)
    ∙ at_number (functions fs) (λ j ws. give (Whole (pos 0))) 0 k (function f) vs (get_function fs k at)
    ∙ ap (λ gs. evaluate_fun (evaluations gs) (function f) (function f).zero_part vs) (take_functions k fs)
  where
    get_function : (gs : List Fun) (j : ℕ) → slice_get gs j ≡ Some f → slice_get (functions gs) j ≡ Some (function f)
    get_function [] j e = absurd (let differs : None ≡ Some f → ⊥ = λ q. cc in differs e)
    get_function (g ∷ gs) zero e = let same : g ≡ f = cc in ap (λ h. Some (function h)) same
    get_function (g ∷ gs) (suc j) e = get_function gs j e

    take_functions : (j : ℕ) (gs : List Fun) → take j (functions gs) ≡ functions (take j gs)
    take_functions zero gs = refl
    take_functions (suc j) [] = refl
    take_functions (suc j) (g ∷ gs) = ap (λ hs. function g ∷ hs) (take_functions j gs)

-- what is no function gives 0
pub uncalled : (fs : List Fun) (k : ℕ) (vs : List Val) → length fs ≤ k → evaluations (functions fs) k vs ≡ give (Whole (pos 0))
uncalled fs k vs h = past (functions fs) (λ j ws. give (Whole (pos 0))) 0 k vs (let same = length-of fs in omega (arith, h, same))
  where
    length-of : (gs : List Fun) → length (functions gs) ≡ length gs
    length-of [] = refl
    length-of (g ∷ gs) = ap suc (length-of gs)
