use Rattle.std.proofs.Common.{map, refl, ap, ◌∙◌}
use Rattle.term_core.specs.Terms.{tree, tms}
use Rattle.term_subst.specs.Substituted.{with_images}
use Rattle.term_subst.specs.Unfolded.{argument_of}
use Rattle.term_subst.specs.inner.Walks.{images_of}
use Rattle.term_subst.proofs.Putting.{previous_more}
use Rattle.term_subst.proofs.unfolding.with_call.Goals as goal

pub returns : goal.returns
returns c =
    let f = c.args.f.now in
    let args = tms (map tree c.args.args.now) in
    let arguments = c.in_ok-images.ensures ∙ ap (λ ps. argument_of ps args) c.as_slice.ensures in
    let images =
    ap images_of c.in_ok-push.ensures
    ∙ previous_more c.in_ok-images.images.images.items _ f.result (tree c.args.call.now) (argument_of f.params args) refl refl refl arguments in
    rw (ap (λ g. with_images g (tree f.body)) images) at c.put.ensures.ok
