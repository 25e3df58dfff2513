use Rattle.std.proofs.Common.{◌∙◌, ap, arith, refl}
use Rattle.gas_text.specs.Gas.{items_text, gas_text}
use Rattle.gas_text.specs.Text.{newlines}
use Rattle.gas_text.proofs.Counting.{lines_few}
use Rattle.gas_text.proofs.text.line_of.Goals as goal

pub overflow_add-result : goal.overflow_add-result
overflow_add-result c =
    let items = c.args.items.now in
    let count = c.line_count.ensures ∙ ap (λ l. newlines (items_text l)) c.split_at.ensures.front in
    let few = lines_few c.args.place items (gas_text items) refl in
    let short = c.requires.short in
    omega (arith, count, few, short)
