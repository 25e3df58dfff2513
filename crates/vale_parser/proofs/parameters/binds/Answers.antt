use Rattle.vale_parser.specs.inner.Parts.{closed_list}
use Rattle.vale_parser.specs.inner.Productions.{bind}
use Rattle.vale_parser.specs.inner.Things.{ABind}
use Rattle.vale_parser.proofs.Things.{closed_tagged, untagged_same}
use Rattle.vale_parser.proofs.parameters.binds.Goals as goal

pub returns : goal.returns
returns c = untagged_same ABind c.closed.result (λ r. r.part) (λ r. r.rest.now) (closed_list bind c.args.tokens.now) _ (λ a b e. cc) (closed_tagged ABind bind c.args.tokens.now) c.closed.ensures
