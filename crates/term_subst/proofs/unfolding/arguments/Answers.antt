use Rattle.std.proofs.Common.{◌≡◌, ◌≤◌, ◌<◌, ◌-◌, [], ◌∷◌, suc, length, drop, map, refl, sym, ap, ◌∙◌, arith, drop-cons}
use Rattle.std.proofs.lemmas.List.{drop_all}
use Rattle.term_core.specs.Terms.{tree, tms}
use Rattle.term_subst.specs.Unfolded.{argument_of}
use Rattle.term_subst.specs.inner.Walks.{images_of}
use Rattle.term_subst.proofs.Putting.{argument_more}
use Rattle.term_subst.proofs.unfolding.arguments.Goals as goal

pub loop-k-init : goal.loop-k-init
loop-k-init c =
    let params = c.args.params.now in
    let args = c.args.args.now in
    let n = length params in
    let le : n ≤ n = omega arith in
    let few : length args ≤ n = omega arith in
    ap images_of c.new-images.ensures
    ∙ ap (λ l. argument_of [] (tms (map tree l))) (sym (drop_all n args few))
    ∙ ap (λ l. argument_of l (tms (map tree (drop n args)))) (sym (drop_all n params le))

pub loop-k-preserved : goal.loop-k-preserved
loop-k-preserved c =
    let params = c.args.params.now in
    let args = c.args.args.now in
    let p = c.index-params-k.result in
    let t = c.index-args-k.result in
    let k = c.loop-k.k - 1 in
    let next : suc k ≡ c.loop-k.k = omega arith in
    let in_params : k < length params = omega arith in
    let in_args : k < length args = omega arith in
    let param : drop k params ≡ p ∷ drop c.loop-k.k params =
    drop-cons params k p in_params ∙ ap (λ x. x ∷ drop (suc k) params) (sym c.index-params-k.is) ∙ ap (λ n. p ∷ drop n params) next in
    let arg : drop k args ≡ t ∷ drop c.loop-k.k args =
    drop-cons args k t in_args ∙ ap (λ x. x ∷ drop (suc k) args) (sym c.index-args-k.is) ∙ ap (λ n. t ∷ drop n args) next in
    ap images_of c.in_ok-push.ensures
    ∙ argument_more c.loop-k.images.images.items _ p t (drop c.loop-k.k params) (drop c.loop-k.k args) c.as_bytes.ensures refl refl c.loop-k.invariant
    ∙ ap (λ l. argument_of (p ∷ drop c.loop-k.k params) (tms (map tree l))) (sym arg)
    ∙ ap (λ l. argument_of l (tms (map tree (drop k args)))) (sym param)
