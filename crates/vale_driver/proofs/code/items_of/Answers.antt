use Rattle.std.proofs.Common.{◌∙◌, ap, sym, arith}
use Rattle.std.proofs.lemmas.List.{append-nil}
use Rattle.std.proofs.lemmas.Result.{IfOk-weaker}
use Rattle.code_lower.specs.Lowered.{labels, export_items}
use Rattle.vale_driver.specs.Build.{straight_code}
use Rattle.vale_driver.proofs.Built.{no_labels}
use Rattle.vale_driver.proofs.code.items_of.Goals as goal

pub lower-requires : goal.lower-requires
lower-requires c = let none = ap labels c.in_ok-code.ensures ∙ no_labels c.as_slice.result.now in omega (arith, none)

pub returns : goal.returns
returns c =
    let name = c.args.program.now.export in
    IfOk-weaker c.lower.result _ _
    (λ items h. h ∙ ap (export_items 0 name) (c.in_ok-code.ensures ∙ ap straight_code c.as_slice.ensures) ∙ sym (append-nil (export_items 0 name (straight_code c.args.program.now.instructions))))
    c.lower.ensures
