-- The last argument of calls.
use Rattle.std.proofs.Common.{◌≡◌, ◌+◌, ◌-◌, ◌<◌, ◌≤◌, List, [], ◌∷◌, ◌++◌, length, take, get_or, map, pos, refl, sym, ap, ◌∙◌, arith, Result, Ok, Err, IfOk}
use Rattle.std.proofs.Math.Seq.{take-length}
use Rattle.std.proofs.lemmas.List.{take_more}
use Rattle.term_core.specs.declared.term.Term.{Term}
use Rattle.term_core.specs.declared.operator.BinOp.TheVariants as bin
use Rattle.term_core.specs.Terms.{Tm, Int, Bin, tree, tms, more_tms, no_tms}
use Rattle.term_subst.specs.Unfolded.{last_argument, with_one_less}

pub last_behind : (front : List Term) (last : Term) → last_argument (tms (map tree (front ++ last ∷ []))) ≡ tree last
last_behind [] last = refl
last_behind (t ∷ []) last = refl
last_behind (t ∷ u ∷ us) last = last_behind (u ∷ us) last

pub less_behind : (front : List Term) (last less : Term) → tree less ≡ Bin bin.Sub (tree last) (Int (pos 1)) → tms (map tree (front ++ less ∷ [])) ≡ with_one_less (tms (map tree (front ++ last ∷ [])))
less_behind [] last less h = ap (λ t. more_tms t no_tms) h
less_behind (t ∷ []) last less h = ap (λ u. more_tms (tree t) (more_tms u no_tms)) h
less_behind (t ∷ u ∷ us) last less h = ap (λ ts. more_tms (tree t) ts) (less_behind (u ∷ us) last less h)

-- a list is what stands before its last element, and that one
pub split_last : (ts : List Term) (x : Term) → 1 ≤ length ts → x ≡ get_or ts (length ts - 1) x → ts ≡ take (length ts - 1) ts ++ x ∷ []
split_last ts x le e =
    let n : length ts ≡ length ts - 1 + 1 = omega arith in
    let lt : length ts - 1 < length ts = omega arith in
    sym (take-length ts) ∙ ap (λ k. take k ts) n ∙ take_more ts (length ts - 1) x lt ∙ ap (λ y. take (length ts - 1) ts ++ y ∷ []) (sym e)

-- a copy has the tree of what it copies
pub copied : {E : Type 0} (r : Result Term E) (t : Term) (u : Tm) → tree t ≡ u → IfOk r (λ x. x ≡ t) → IfOk r (λ x. tree x ≡ u)
copied (Ok x) t u e h = ap tree h ∙ e
copied (Err x) t u e h = h
