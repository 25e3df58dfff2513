use Rattle.vale_syntax.specs.inner.CodeTrees.{tree}
use Rattle.vale_parser.specs.inner.Productions.{expression}
use Rattle.vale_parser.specs.inner.Parts.{closed_list}
use Rattle.vale_parser.specs.inner.Things.{AnExpr}
use Rattle.vale_parser.proofs.Things.{closed_tagged, untagged}
use Rattle.vale_parser.proofs.arguments.expressions.Goals as goal

pub returns : goal.returns
returns c = untagged AnExpr tree c.closed.result (λ r. r.part) (λ r. r.rest.now) (closed_list expression c.args.tokens.now) _ (λ a b e. cc) (closed_tagged AnExpr expression c.args.tokens.now) c.closed.ensures
