use Rattle.std.proofs.Common.{refl, sym, ap, ◌∙◌, option_map}
use Rattle.term_core.specs.Functions.{function}
use Rattle.term_core.specs.Rules.{free_all, is_in_body}
use Rattle.term_core.specs.Terms.{tree}
use Rattle.term_core.proofs.Scoping.{knows_prev}
use Rattle.term_core.proofs.rules.knows_body.Goals as goal

pub returns-in-Some : goal.returns-in-Some
returns-in-Some c =
    let f = function c.args.fun.now in
    let body = tree c.args.fun.now.body in
    c.knows_free.ensures
    ∙ knows_prev _ _ _ _ f (tree c.in-Some.field-0) body refl refl refl c.as_slice.ensures
    ∙ ap (λ z. free_all (is_in_body f (option_map tree z)) body) (sym c.in-Some.is)
