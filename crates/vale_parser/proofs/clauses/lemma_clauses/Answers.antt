use Rattle.std.proofs.Common.{[], length}
use Rattle.vale_syntax.specs.inner.CodeTrees.{lclause_tree}
use Rattle.vale_parser.specs.inner.Parts.{many}
use Rattle.vale_parser.specs.inner.Productions.{begins_lclause, lclause}
use Rattle.vale_parser.specs.inner.Things.{ALClause}
use Rattle.vale_parser.proofs.Things.{many_tagged, untagged}
use Rattle.vale_parser.proofs.clauses.lemma_clauses.Goals as goal

pub returns : goal.returns
returns c =
    let ts = c.args.tokens.now in
    untagged ALClause lclause_tree c.many.result (λ r. r.part) (λ r. r.rest.now) (many begins_lclause lclause (length ts) [] ts) _ (λ a b e. cc) (many_tagged ALClause begins_lclause lclause (length ts) ts) c.many.ensures
