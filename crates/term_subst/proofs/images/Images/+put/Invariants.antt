use Rattle.std.proofs.Common.{◌≡◌, ◌++◌, drop, map}
use Rattle.term_core.specs.Terms.{tree}
use Rattle.term_subst.specs.Substituted.{with_images}
use Rattle.term_subst.specs.inner.Walks.{images_of}
use Rattle.term_subst.proofs.images.Images.+put.Given as goal

-- what was made, and what is left with what is put for its variables, is the whole
abbrev pub invariant-put_all-loop-arg : goal.invariant-put_all-loop-arg
invariant-put_all-loop-arg l = record {
  made : map tree l.made ++ map (λ a. with_images (images_of l.initial.self.images.items) (tree a)) (drop l.arg-index l.args) ≡ map (λ a. with_images (images_of l.initial.self.images.items) (tree a)) l.args;
  kept : l.self.images.items ≡ l.initial.self.images.items;
}
