use Rattle.name_scopes.proofs.NewExports.{new_export}
use Rattle.name_scopes.proofs.sources.walk.Goals as goal

pub note_export-requires : goal.note_export-requires
note_export-requires c = new_export _ _ _ _ c.in_ok-judge.ensures
