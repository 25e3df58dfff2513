use Rattle.vale_syntax.specs.inner.CodeTrees.{tree}
use Rattle.vale_parser.specs.inner.Productions.{expression}
use Rattle.vale_parser.specs.inner.Parts.{comma_list}
use Rattle.vale_parser.specs.inner.Things.{AnExpr}
use Rattle.vale_parser.proofs.Things.{separated_tagged, untagged}
use Rattle.vale_parser.proofs.arguments.some_expressions.Goals as goal

pub returns : goal.returns
returns c = untagged AnExpr tree c.separated.result (λ r. r.part) (λ r. r.rest.now) (comma_list expression c.args.tokens.now) _ (λ a b e. cc) (separated_tagged AnExpr expression c.args.tokens.now) c.separated.ensures
