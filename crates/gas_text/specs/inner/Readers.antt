-- What a reader holds.
use Rattle.std.specs.Prelude.{◌≡◌, ◌≤◌, map, option_map, length}
use Rattle.x64_syntax.specs.inner.LabelCount.{label_count}
use Rattle.gas_text.specs.declared.reader.Reader.{Reader}
use Rattle.gas_text.specs.inner.Reading.{Sofar, names_of}

abbrev pub sofar : Reader → Sofar
sofar r = record { items = r.items.items; awaited = option_map (λ name. name.now) r.awaited }

-- the names and the count of labels are those of what was read
pub record Kept (r : Reader) : Type 0 where
  pub names : map (λ name. name.now) r.names.keys ≡ names_of (sofar r)
  pub labels : r.labels ≡ label_count r.items.items
  pub few : r.labels ≤ length r.items.items
