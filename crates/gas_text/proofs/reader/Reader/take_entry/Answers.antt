use Rattle.std.proofs.Common.{sym, ap, ◌∙◌, arith, [], ◌∷◌, ◌++◌, length, length-append}
use Rattle.x64_syntax.specs.declared.items.Item.TheVariants as item
use Rattle.x64_syntax.specs.inner.LabelCount.{label_count}
use Rattle.gas_text.specs.inner.Reading.{entry_names}
use Rattle.gas_text.proofs.Counts.{count_last, names_entry}
use Rattle.gas_text.proofs.reader.Reader.take_entry.Goals as goal

pub returns-clause-kept : goal.returns-clause-kept
returns-clause-kept c true_ =
    let is = c.args.self.now.items.items in
    let name = c.args.name.now in
    let items = c.in_ok-push.ensures.items ∙ ap (λ n. is ++ item.Entry n ∷ []) c.in_ok-name.ensures in
    let names = rw c.requires.awaited at c.requires.kept.names in
    let few = c.requires.kept.few in
    let last = count_last is (item.Entry name) in
    let long = length-append is (item.Entry name ∷ []) in
    let count = ap label_count items in
    let size = ap (λ l. length l) items in
    record {
      names = names_entry _ is name names ∙ ap (λ l. entry_names l ++ []) (sym items);
      labels = c.requires.kept.labels ∙ omega (arith, last, count);
      few = omega (arith, few, long, size);
    }
