-- Calls that fit name a function of the list, and have as many arguments as it has parameters.
use Rattle.std.proofs.Common.{◌≡◌, ℕ, zero, suc, ◌<◌, true, List, [], ◌∷◌, length, get_or, map, refl, sym, ap, ◌∙◌, arith, Option, Some, Result, Ok, Err, IfOk}
use Rattle.std.specs.Prelude.{slice_get}
use Rattle.std.proofs.lemmas.Bool.{and_parts, false≢true}
use Rattle.x64_syntax.specs.declared.type_words.Sort.{Sort}
use Rattle.term_core.specs.declared.functions.Variable.{Variable}
use Rattle.term_core.specs.declared.functions.Fun.{Fun}
use Rattle.term_core.specs.declared.term.Term.{Term, Term-F, fold-roll-Term}
use Rattle.term_core.specs.declared.term.Term.TheVariants as term
use Rattle.term_core.specs.Operators.{sort_eq}
use Rattle.term_core.specs.Terms.{Tm, Call, layer, tree, tms}
use Rattle.term_core.specs.Functions.{function, functions}
use Rattle.term_core.specs.Sorted.{tms_sorts, sorts_eq, fun_takes, well_sorted}

pub tree_call : (k : ℕ) (s : Sort) (args : List Term) → tree (term.Call k s args) ≡ Call k s (tms (map tree args))
tree_call k s args = ap tree (sym (term.rolls-Call k s args)) ∙ fold-roll-Term Tm layer (Term-F.Call k s args)

same_length : (ss ts : List Sort) → sorts_eq ss ts ≡ true → length ss ≡ length ts
same_length [] [] h = refl
same_length (s ∷ ss) (t ∷ ts) h = ap suc (same_length ss ts (and_parts (sort_eq s t) _ h).1)
same_length [] (t ∷ ts) h = absurd (false≢true h)
same_length (s ∷ ss) [] h = absurd (false≢true h)

arguments_length : (args : List Term) → length (tms_sorts (tms (map tree args))) ≡ length args
arguments_length [] = refl
arguments_length (t ∷ ts) = ap suc (arguments_length ts)

params_length : (ps : List Variable) → length (map (λ p. p.sort) ps) ≡ length ps
params_length [] = refl
params_length (p ∷ ps) = ap suc (params_length ps)

-- a function that is found is one of the list
pub found_below : (fs : List Fun) (k : ℕ) (s : Sort) (sorts : List Sort) → fun_takes (slice_get (functions fs) k) s sorts ≡ true → k < length fs
found_below [] k s sorts h = absurd (false≢true h)
found_below (f ∷ fs) zero s sorts h = omega arith
found_below (f ∷ fs) (suc k) s sorts h = let lt = found_below fs k s sorts h in omega (arith, lt)

pub found : (fs : List Fun) (k : ℕ) (d : Fun) → k < length fs → slice_get (functions fs) k ≡ Some (function (get_or fs k d))
found [] k d lt = absurd (omega (arith, lt))
found (f ∷ fs) zero d lt = refl
found (f ∷ fs) (suc k) d lt = found fs k d (omega (arith, lt))

pub takes : (fs : List Fun) (k : ℕ) (s : Sort) (args : List Term) → well_sorted (functions fs) (Call k s (tms (map tree args))) ≡ true → fun_takes (slice_get (functions fs) k) s (tms_sorts (tms (map tree args))) ≡ true
takes fs k s args h = (and_parts (fun_takes (slice_get (functions fs) k) s (tms_sorts (tms (map tree args)))) _ h).0

pub as_many : (fs : List Fun) (k : ℕ) (d : Fun) (s : Sort) (args : List Term) → fun_takes (slice_get (functions fs) k) s (tms_sorts (tms (map tree args))) ≡ true → length args ≡ length (get_or fs k d).params
as_many fs k d s args h =
    let f = get_or fs k d in
    let sorts = tms_sorts (tms (map tree args)) in
    let at = sym (ap (λ o. fun_takes o s sorts) (found fs k d (found_below fs k s sorts h))) ∙ h in
    sym (arguments_length args) ∙ same_length sorts (map (λ p. p.sort) f.params) (and_parts (sort_eq s f.result) _ at).1 ∙ params_length f.params

-- an answer that has the tree that is wanted
pub answered : {E : Type 0} (r : Result Term E) (u : Tm) (o : Option Tm) → o ≡ Some u → IfOk r (λ x. tree x ≡ u) → IfOk r (λ x. o ≡ Some (tree x))
answered (Ok x) u o e h = e ∙ ap Some (sym h)
answered (Err x) u o e h = h
