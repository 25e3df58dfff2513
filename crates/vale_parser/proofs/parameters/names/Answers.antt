use Rattle.vale_parser.specs.inner.Parts.{comma_list}
use Rattle.vale_parser.specs.inner.Productions.{name}
use Rattle.vale_parser.specs.inner.Things.{AName}
use Rattle.vale_parser.proofs.Things.{separated_tagged, untagged_same}
use Rattle.vale_parser.proofs.parameters.names.Goals as goal

pub returns : goal.returns
returns c = untagged_same AName c.separated.result (λ r. r.part) (λ r. r.rest.now) (comma_list name c.args.tokens.now) _ (λ a b e. cc) (separated_tagged AName name c.args.tokens.now) c.separated.ensures
