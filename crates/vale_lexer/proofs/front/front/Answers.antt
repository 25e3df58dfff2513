use Rattle.vale_lexer.proofs.Fronts.{front_fits}
use Rattle.vale_lexer.proofs.front.front.Goals as goal

pub returns-clause-fits : goal.returns-clause-fits
returns-clause-fits c = rw c.front_of.ensures (front_fits c.args.bytes.now c.requires)
