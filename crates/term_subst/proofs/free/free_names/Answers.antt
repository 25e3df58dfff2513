use Rattle.std.proofs.Common.{[], ap, ◌∙◌}
use Rattle.std.specs.Prelude.{map}
use Rattle.term_core.specs.Terms.{tree}
use Rattle.term_subst.specs.Free.{free_inside}
use Rattle.term_subst.specs.inner.Walks.{with_names}
use Rattle.term_subst.proofs.Naming.{gathered_first}
use Rattle.term_subst.proofs.free.free_names.Goals as goal

pub returns : goal.returns
returns c =
    let t = tree c.args.t.now in
    let found =
    c.in_ok-walk.ensures.found
    ∙ ap (λ l. with_names (map (λ name. name.now) c.new-2.result.keys) (free_inside (map (λ name. name.now) l) t)) c.new.ensures.items
    ∙ ap (λ l. with_names (map (λ name. name.now) l) (free_inside [] t)) c.new-2.ensures.empty
    ∙ gathered_first (free_inside [] t) in
    let names = ap (λ l. map (λ name. name.now) l) c.as_slice.ensures.keys ∙ found in
    rw names at c.copy_texts.ensures
