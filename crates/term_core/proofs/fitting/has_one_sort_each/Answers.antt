use Rattle.std.proofs.Common.{sym, ap, ◌∙◌, ◌&&◌, map}
use Rattle.term_core.specs.Terms.{tree, tms, trees}
use Rattle.term_core.specs.inner.Uses.{first_in, all_agree}
use Rattle.term_core.proofs.VariableSorts.{one_sort}
use Rattle.term_core.proofs.fitting.has_one_sort_each.Goals as goal

pub returns-then-agrees : goal.returns-then-agrees
returns-then-agrees c =
    let of = first_in (trees c.args.s.now.hyps) (tree c.args.s.now.goal) in
    c.all_agree.ensures
    ∙ ap (λ hs. all_agree of (tms (map tree hs))) c.as_slice.ensures
    ∙ ap (λ a. a && all_agree of (tms (trees c.args.s.now.hyps))) (sym c.if-agrees.true ∙ c.agrees.ensures)
    ∙ one_sort (trees c.args.s.now.hyps) (tree c.args.s.now.goal)

pub returns-else-agrees : goal.returns-else-agrees
returns-else-agrees c =
    let of = first_in (trees c.args.s.now.hyps) (tree c.args.s.now.goal) in
    c.if-agrees.false
    ∙ ap (λ a. a && all_agree of (tms (trees c.args.s.now.hyps))) (sym c.if-agrees.false ∙ c.agrees.ensures)
    ∙ one_sort (trees c.args.s.now.hyps) (tree c.args.s.now.goal)
