use Rattle.std.proofs.Common.{ap, ◌∙◌}
use Rattle.std.specs.List.{list_any}
use Rattle.term_core.specs.Functions.{function, functions}
use Rattle.term_core.specs.Rules.{names_differ, has_name, prev}
use Rattle.term_core.proofs.Obeying.{named_among, broken_as_found}
use Rattle.term_core.proofs.rules.broken_rule.Goals as goal

pub returns : goal.returns
returns c = c.first_broken.ensures ∙ broken_as_found (functions c.args.earlier.now) (function c.args.fun.now) _ _ _ _ _ _ _
    c.is_free_name.ensures
    (c.is_taken.ensures ∙ named_among c.args.fun.now.name c.args.earlier.now)
    (c.names_differ.ensures ∙ ap names_differ c.as_slice-params.ensures)
    (c.has_name.ensures ∙ ap (list_any (has_name prev)) c.as_slice-params.ensures)
    c.is_last_number.ensures
    c.are_parts_sorted.ensures
    c.knows_parts.ensures
