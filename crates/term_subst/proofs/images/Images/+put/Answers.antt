use Rattle.std.proofs.Common.{◌≡◌, ◌++◌, [], arith, ◌∷◌, rules, map, sym, ap, ◌∙◌, append-nil}
use Rattle.std.proofs.lemmas.Grind.{common_steps}
use Rattle.std.proofs.lemmas.List.{drop_all}
use Rattle.term_core.specs.Terms.{tree, tms}
use Rattle.term_core.specs.Terms as tm
use Rattle.term_subst.specs.Substituted.{with_images, without}
use Rattle.term_subst.specs.inner.Walks.{images_of}
use Rattle.term_subst.proofs.Putting.{all_as_list, hides, tree_all}
use Rattle.term_subst.proofs.images.Images.+put.Goals as goal

pub put_all-returns-clause-ok : goal.put_all-returns-clause-ok
put_all-returns-clause-ok t c =
    let f = images_of c.args.self.now.images.items in
    let args = c.args.args.now in
    let left = ap (λ l. map tree c.loop-arg.made ++ map (λ a. with_images f (tree a)) l) (drop_all c.loop-arg.arg-index args c.loop-arg-test.false) in
    ap tms (sym (append-nil (map tree c.loop-arg.made)) ∙ sym left ∙ c.loop-arg.invariant.made) ∙ sym (all_as_list f args)

pub put-returns-in_ok-parts-in-All-clause-ok : goal.put-returns-in_ok-parts-in-All-clause-ok
put-returns-in_ok-parts-in-All-clause-ok t c =
    let images = c.args.self.now.images.items in
    let parts = c.in_ok-parts-in-All.parts in
    let kept : c.push.new.self.images.items ≡ images ++ c.hidden.result ∷ [] = grind (arith, common_steps) in
    let low : tree parts.0 ≡ with_images (images_of images) (tree c.in-All.low) = search rules in
    let high : tree parts.1 ≡ with_images (images_of images) (tree c.in-All.high) = search rules in
    let body : tree parts.2 ≡ with_images (images_of c.push.new.self.images.items) (tree c.in-All.body) = search rules in
    let hidden = hides images c.hidden.result c.in-All.name c.hidden.ensures.name c.hidden.ensures.sort c.hidden.ensures.term in
    let inside : tree parts.2 ≡ with_images (without c.in-All.name (images_of images)) (tree c.in-All.body) =
    body ∙ ap (λ is. with_images (images_of is) (tree c.in-All.body)) kept ∙ ap (λ f. with_images f (tree c.in-All.body)) hidden in
    let name = c.in-All.name in
    let put = with_images (images_of images) in
    let opened : tree c.args.t.now ≡ tm.All name (tree c.in-All.low) (tree c.in-All.high) (tree c.in-All.body) =
    ap tree c.in-All.is ∙ tree_all name c.in-All.low c.in-All.high c.in-All.body in
    let whole : tm.All name (tree parts.0) (tree parts.1) (tree parts.2) ≡ put (tree c.args.t.now) =
    ap (λ x. tm.All name x (tree parts.1) (tree parts.2)) low
    ∙ ap (λ x. tm.All name (put (tree c.in-All.low)) x (tree parts.2)) high
    ∙ ap (λ x. tm.All name (put (tree c.in-All.low)) (put (tree c.in-All.high)) x) inside
    ∙ sym (ap put opened) in
    rw whole at c.quantifier.ensures.alike
