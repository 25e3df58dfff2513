use Rattle.std.proofs.Common.{◌-◌, ◌∙◌, ap, length, map, set}
use Rattle.std.proofs.lemmas.Int.{to_z-of_z}
use Rattle.term_core.specs.declared.literal.Literal.TheVariants as literal
use Rattle.term_core.specs.Literals.{literal_value}
use Rattle.term_value.proofs.Lasts.{last_set}
use Rattle.term_value.proofs.parts.set_last.Goals as goal

pub returns-in-Some : goal.returns-in-Some
returns-in-Some c =
    let args = c.args.args.now in
    ap (λ z. map literal_value (set args (length args - 1) (literal.Int z))) (to_z-of_z _ c.args.n c.ranges.n) ∙ last_set args c.args.n
