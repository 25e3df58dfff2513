use Rattle.vale_parser.specs.inner.Parts.{comma_list}
use Rattle.vale_parser.specs.inner.Productions.{place}
use Rattle.vale_parser.specs.inner.Things.{APlace}
use Rattle.vale_parser.proofs.Things.{separated_tagged, untagged_same}
use Rattle.vale_parser.proofs.parameters.places.Goals as goal

pub returns : goal.returns
returns c = untagged_same APlace c.separated.result (λ r. r.part) (λ r. r.rest.now) (comma_list place c.args.tokens.now) _ (λ a b e. cc) (separated_tagged APlace place c.args.tokens.now) c.separated.ensures
