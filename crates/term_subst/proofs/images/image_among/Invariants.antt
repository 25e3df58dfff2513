use Rattle.std.proofs.Common.{◌≡◌, drop}
use Rattle.std.specs.Prelude.{option_map}
use Rattle.term_core.specs.Terms.{tree}
use Rattle.term_subst.specs.inner.Walks.{image_among, images_of}
use Rattle.term_subst.proofs.images.image_among.Given as goal

abbrev pub invariant-loop-image : goal.invariant-loop-image
invariant-loop-image l = image_among (option_map (λ t. tree t.now) l.found) (drop l.image-index l.images) l.text l.sort ≡ images_of l.images l.text l.sort
