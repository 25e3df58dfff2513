use Rattle.std.proofs.Common.{ap, ◌∙◌, take}
use Rattle.name_scopes.proofs.Borrowed.{now, now_take}
use Rattle.name_scopes.proofs.text_set.TextSet.cut.Goals as goal

pub returns : goal.returns
returns c = ap now c.truncate.ensures.keys ∙ now_take c.args.count c.self.inside.names.keys ∙ ap (λ ts. take c.args.count ts) c.self.view_is
