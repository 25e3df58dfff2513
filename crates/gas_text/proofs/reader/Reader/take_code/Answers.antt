use Rattle.std.proofs.Common.{sym, ap, ◌∙◌, arith, [], ◌∷◌, ◌++◌, length, length-append}
use Rattle.x64_syntax.specs.inner.LabelCount.{label_count}
use Rattle.gas_text.specs.inner.Reading.{entry_names}
use Rattle.gas_text.proofs.Counts.{count_last, count_one, read_coded, names_code}
use Rattle.gas_text.proofs.reader.Reader.take_code.Goals as goal

pub returns-in_ok-push-in-Some-clause-kept : goal.returns-in_ok-push-in-Some-clause-kept
returns-in_ok-push-in-Some-clause-kept c true_ =
    let is = c.args.self.now.items.items in
    let i = c.in-Some.item in
    let items = c.in_ok-push-in-Some.ensures.items in
    let code = read_coded c.args.self.now.labels c.args.line.now i (sym c.in_ok-item.ensures ∙ c.in-Some.is) in
    let names = rw c.requires.awaited at c.requires.kept.names in
    let few = c.requires.kept.few in
    let kept = c.requires.kept.labels in
    let added = c.label_count.ensures in
    let one = count_one i in
    let last = count_last is i in
    let long = length-append is (i ∷ []) in
    let count = ap label_count items in
    let size = ap (λ l. length l) items in
    record {
      names = rw c.requires.awaited (names_code _ is i code names ∙ ap (λ l. entry_names l ++ []) (sym items));
      labels = omega (arith, kept, added, last, count);
      few = omega (arith, few, added, one, long, size);
    }
