use Rattle.std.proofs.Common.{sym, ◌∙◌, ap, arith, length}
use Rattle.gas_text.specs.Gas.{gas_text}
use Rattle.gas_text.proofs.Counting.{stray_place}
use Rattle.gas_text.proofs.Order.{ordered_parts}
use Rattle.gas_text.proofs.text.read.Goals as goal

pub line_of-requires : goal.line_of-requires
line_of-requires c =
    let items = c.in_ok-items.items.items in
    let ok = c.in_ok-items.ensures.ok in
    let slice = c.as_slice-in-Some.ensures.value in
    let place = stray_place c.in-Some.place c.as_slice.result.now (sym c.in-Some.ensures) in
    let all = ap (λ l. length l) (c.as_slice.ensures.value ∙ sym slice) in
    let text = ap (λ l. length (gas_text l)) slice ∙ ap length ok.1 in
    record {
      items = rw slice (ordered_parts items ok.0).items;
      within = omega (arith, place, all);
      short = omega (arith, text);
    }
