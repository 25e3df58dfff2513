use Rattle.std.proofs.Common.{ap, ◌∙◌, ◌++◌, ◌∷◌, []}
use Rattle.name_scopes.specs.Names.{has}
use Rattle.name_scopes.proofs.Borrowed.{now, inserted}
use Rattle.name_scopes.proofs.text_set.TextSet.add.Goals as goal

pub returns : goal.returns
returns c =
    let name = c.args.name in
    let fresh = ap (λ ts. has ts name.now) c.self.view_is ∙ c.requires in
    ap now c.in_ok-insert.ensures.keys ∙ inserted name c.self.inside.names.keys fresh ∙ ap (λ ts. ts ++ name.now ∷ []) c.self.view_is
