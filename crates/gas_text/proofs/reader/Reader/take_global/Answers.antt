use Rattle.std.proofs.Common.{◌≡◌, false, true, refl, sym, ap, ◌∙◌, append-nil}
use Rattle.std.specs.Prelude.{not}
use Rattle.std.specs.List.{list_any}
use Rattle.std.specs.Str.{bytes_eq}
use Rattle.x64_syntax.specs.Programs.{has_entry}
use Rattle.gas_text.specs.inner.Reading.{entry_names}
use Rattle.gas_text.proofs.Counts.{has_any, any_name}
use Rattle.gas_text.proofs.reader.Reader.take_global.Goals as goal
use Rattle.gas_text.proofs.reader.Reader.take_global.Goals.{then-not-is_export_name-via-then-not-is_export_name, then-not-is_export_name-via-else-not-is_export_name+in_ok-insert+then-not-branch}

pub returns-then-not-is_export_name-clause-next : goal.returns-then-not-is_export_name-clause-next
returns-then-not-is_export_name-clause-next c = elim c.then-not-is_export_name.branch [
  | then-not-is_export_name-via-then-not-is_export_name w ↦ rw (sym w.if-not-is_export_name.ensures) refl
  | then-not-is_export_name-via-else-not-is_export_name+in_ok-insert+then-not-branch w ↦
      (let is = c.args.self.now.items.items in
      let name = c.args.name.now in
      let names = rw c.requires.awaited at c.requires.kept.names in
      let fresh : not (has_entry name is) ≡ false =
      ap (λ b. not b) (has_any name is ∙ ap (λ ns. list_any (bytes_eq name) ns) (sym (append-nil (entry_names is)) ∙ sym names) ∙ sym (any_name name c.args.self.now.names.keys))
      ∙ sym w.in_ok-insert.ensures.added ∙ w.if-not-branch.true in
      rw (sym w.if-not-is_export_name.ensures, fresh) refl)
]

pub returns-clause-next : goal.returns-clause-next
returns-clause-next c =
    let is = c.args.self.now.items.items in
    let name = c.args.name.now in
    let names = rw c.requires.awaited at c.requires.kept.names in
    let fresh : not (has_entry name is) ≡ true =
    ap (λ b. not b) (has_any name is ∙ ap (λ ns. list_any (bytes_eq name) ns) (sym (append-nil (entry_names is)) ∙ sym names) ∙ sym (any_name name c.args.self.now.names.keys))
    ∙ sym c.in_ok-insert.ensures.added ∙ c.if-not-branch.false in
    rw (sym c.if-not-is_export_name.ensures, fresh) refl
