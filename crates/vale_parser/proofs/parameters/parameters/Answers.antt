use Rattle.vale_parser.specs.inner.Parts.{closed_list}
use Rattle.vale_parser.specs.inner.Productions.{parameter}
use Rattle.vale_parser.specs.inner.Things.{AParam}
use Rattle.vale_parser.proofs.Things.{closed_tagged, untagged_same}
use Rattle.vale_parser.proofs.parameters.parameters.Goals as goal

pub returns : goal.returns
returns c = untagged_same AParam c.closed.result (λ r. r.part) (λ r. r.rest.now) (closed_list parameter c.args.tokens.now) _ (λ a b e. cc) (closed_tagged AParam parameter c.args.tokens.now) c.closed.ensures
