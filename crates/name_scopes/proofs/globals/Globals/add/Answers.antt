use Rattle.std.proofs.Common.{ap, ◌∙◌}
use Rattle.name_scopes.proofs.Tables.{found, added, absent}
use Rattle.name_scopes.proofs.globals.Globals.add.Goals as goal

pub returns-in_ok-insert : goal.returns-in_ok-insert
returns-in_ok-insert c n =
    let es = c.args.self.now.table.entries in
    ap (found n) c.in_ok-insert.ensures.entries ∙ added n c.args.name c.args.global es (absent _ _ c.contains_key.ensures c.if-not-contains_key.true)
