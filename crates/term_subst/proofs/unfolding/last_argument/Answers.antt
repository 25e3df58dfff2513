use Rattle.std.proofs.Common.{◌-◌, length, take, sym, ap, ◌∙◌, map}
use Rattle.term_core.specs.Terms.{tree, tms}
use Rattle.term_subst.specs.Unfolded.{last_argument}
use Rattle.term_subst.proofs.Lasts.{copied, last_behind, split_last}
use Rattle.term_subst.proofs.unfolding.last_argument.Goals as goal

pub returns-in-len1-up : goal.returns-in-len1-up
returns-in-len1-up c =
    let args = c.args.args.now in
    let last = c.last-item.result in
    let whole = split_last args last c.in-len1-up.len_at_least c.last-item.is in
    let same = sym (last_behind (take (length args - 1) args) last) ∙ ap (λ l. last_argument (tms (map tree l))) (sym whole) in
    copied c.copy.result last (last_argument (tms (map tree args))) same c.copy.ensures
