use Rattle.std.proofs.Common.{[], ◌∷◌, ◌++◌, ◌-◌, length, take, sym, ap, ◌∙◌, map}
use Rattle.term_core.specs.Terms.{tree, tms}
use Rattle.term_subst.specs.Unfolded.{with_one_less}
use Rattle.term_subst.proofs.Lasts.{less_behind, split_last}
use Rattle.term_subst.proofs.unfolding.with_one_less.Goals as goal

pub returns-in_ok-push-in-len1-up : goal.returns-in_ok-push-in-len1-up
returns-in_ok-push-in-len1-up c =
    let args = c.args.args.now in
    let front = take (length args - 1) args in
    let last = c.last-item.result in
    let less = c.in_ok-one_less-in-len1-up.field-0 in
    let whole = split_last args last c.in-len1-up.len_at_least c.last-item.is in
    ap (λ l. tms (map tree l)) c.in_ok-push-in-len1-up.ensures.ok
    ∙ ap (λ l. tms (map tree (l ++ less ∷ []))) c.in_ok-made-in-len1-up.ensures
    ∙ less_behind front last less c.in_ok-one_less-in-len1-up.ensures
    ∙ ap (λ l. with_one_less (tms (map tree l))) (sym whole)
