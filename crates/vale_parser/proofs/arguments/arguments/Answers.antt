use Rattle.vale_syntax.specs.inner.CodeTrees.{arg_tree}
use Rattle.vale_parser.specs.inner.Productions.{argument}
use Rattle.vale_parser.specs.inner.Parts.{closed_list}
use Rattle.vale_parser.specs.inner.Things.{AnArg}
use Rattle.vale_parser.proofs.Things.{closed_tagged, untagged}
use Rattle.vale_parser.proofs.arguments.arguments.Goals as goal

pub returns : goal.returns
returns c = untagged AnArg arg_tree c.closed.result (λ r. r.part) (λ r. r.rest.now) (closed_list argument c.args.tokens.now) _ (λ a b e. cc) (closed_tagged AnArg argument c.args.tokens.now) c.closed.ensures
