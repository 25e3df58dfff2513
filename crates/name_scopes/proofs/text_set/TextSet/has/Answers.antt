use Rattle.std.proofs.Common.{ap, ◌∙◌}
use Rattle.name_scopes.specs.Names.{has}
use Rattle.name_scopes.proofs.Borrowed.{any_name}
use Rattle.name_scopes.proofs.text_set.TextSet.has.Goals as goal

pub returns : goal.returns
returns c =
    let name = c.args.name.now in
    c.contains.ensures ∙ any_name name c.self.inside.names.keys ∙ ap (λ ts. has ts name) c.self.view_is
