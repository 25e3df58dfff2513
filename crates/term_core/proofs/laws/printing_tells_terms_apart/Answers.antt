use Rattle.term_core.proofs.Told.{told_apart}
use Rattle.term_core.proofs.laws.printing_tells_terms_apart.Goals as goal

pub returns : goal.returns
returns c = told_apart
