use Rattle.std.proofs.Common.{◌≡◌, [], ◌∷◌, false, sym, ap, ◌∙◌}
use Rattle.std.specs.Prelude.{map, if◌then◌else◌}
use Rattle.std.specs.Str.{bytes_eq}
use Rattle.indexmap.specs.IndexSet.{insert_key}
use Rattle.term_subst.specs.Free.{is_bound_by}
use Rattle.term_subst.specs.inner.Walks.{names_around, names_found, with_names}
use Rattle.term_subst.proofs.Naming.{inserted}
use Rattle.term_subst.proofs.free.Finder.take.Goals as goal

pub returns-in_ok-insert-clause-found : goal.returns-in_ok-insert-clause-found
returns-in_ok-insert-clause-found c =
    let text = c.args.text.now in
    let keys = c.args.self.now.found.keys in
    let free : is_bound_by (names_around c.args.self.now) text c.args.sort ≡ false =
    ap (λ l. is_bound_by (map (λ name. name.now) l) text c.args.sort) (sym c.deref.ensures.value)
    ∙ ap (λ t. is_bound_by (map (λ name. name.now) c.deref.result.now) t c.args.sort) (sym c.as_bytes-text.ensures)
    ∙ sym c.is_bound_by.ensures ∙ c.if-not-is_bound_by.true in
    ap (λ l. map (λ name. name.now) l) c.in_ok-insert.ensures.keys
    ∙ inserted keys c.as_bytes-text.result
    ∙ ap (λ t. insert_key bytes_eq (map (λ name. name.now) keys) t) c.as_bytes-text.ensures
    ∙ ap (λ b. with_names (names_found c.args.self.now) (if b then [] else text ∷ [])) (sym free)
