use Rattle.std.proofs.Common.{length, map, get_or, sym, ap, ◌∙◌, Some, arith}
use Rattle.std.specs.Prelude.{option_map}
use Rattle.term_core.specs.Terms.{tree, tms}
use Rattle.term_core.specs.Functions.{function, functions}
use Rattle.term_core.specs.Sorted.{well_sorted, tms_sorts}
use Rattle.term_subst.specs.Unfolded.{unfolded, unfolded_by}
use Rattle.term_subst.proofs.Calls.{tree_call, takes, found_below, found, as_many, answered}
use Rattle.term_subst.proofs.unfolding.unfold.Goals as goal

pub bounds-as_slice-k : goal.bounds-as_slice-k
bounds-as_slice-k c =
    let fs = c.args.f.now in
    let k = c.in-Call.k in
    let s = c.in-Call.field-1 in
    let args = c.in-Call.args in
    let is = ap tree c.in-Call.is ∙ tree_call k s args in
    let fits = sym (ap (λ t. well_sorted (functions fs) t) is) ∙ c.requires.fits in
    let lt = found_below fs k s (tms_sorts (tms (map tree args))) (takes fs k s args fits) in
    omega (arith, lt, ap length c.as_slice.ensures)

pub unfold_by-requires : goal.unfold_by-requires
unfold_by-requires c =
    let fs = c.args.f.now in
    let k = c.in-Call.k in
    let s = c.in-Call.field-1 in
    let args = c.in-Call.args in
    let is = ap tree c.in-Call.is ∙ tree_call k s args in
    let fits = sym (ap (λ t. well_sorted (functions fs) t) is) ∙ c.requires.fits in
    let f = c.index-as_slice-k.result in
    let at = c.index-as_slice-k.is ∙ ap (λ l. get_or l k f) c.as_slice.ensures in
    ap length c.as_slice-in-Call.ensures ∙ as_many fs k f s args (takes fs k s args fits) ∙ ap (λ g. length g.params) (sym at)

pub returns : goal.returns
returns c =
    let fs = c.args.f.now in
    let k = c.in-Call.k in
    let s = c.in-Call.field-1 in
    let args = c.in-Call.args in
    let is = ap tree c.in-Call.is ∙ tree_call k s args in
    let fits = sym (ap (λ t. well_sorted (functions fs) t) is) ∙ c.requires.fits in
    let lt = found_below fs k s (tms_sorts (tms (map tree args))) (takes fs k s args fits) in
    let f = c.index-as_slice-k.result in
    let at = c.index-as_slice-k.is ∙ ap (λ l. get_or l k f) c.as_slice.ensures in
    let made =
    ap (λ t. unfolded (functions fs) t) is
    ∙ ap (λ o. option_map (λ g. unfolded_by g k (tms (map tree args)) g.zero_part) o) (found fs k f lt)
    ∙ ap (λ g. Some (unfolded_by (function g) k (tms (map tree args)) (function g).zero_part)) (sym at)
    ∙ ap (λ l. Some (unfolded_by (function f) k (tms (map tree l)) (function f).zero_part)) (sym c.as_slice-in-Call.ensures) in
    answered c.unfold_by.result _ _ made c.unfold_by.ensures
