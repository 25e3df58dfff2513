use Rattle.std.proofs.Common.{[], length}
use Rattle.vale_syntax.specs.inner.CodeTrees.{clause_tree}
use Rattle.vale_parser.specs.inner.Parts.{many}
use Rattle.vale_parser.specs.inner.Productions.{begins_clause, clause}
use Rattle.vale_parser.specs.inner.Things.{AClause}
use Rattle.vale_parser.proofs.Things.{many_tagged, untagged}
use Rattle.vale_parser.proofs.clauses.clauses.Goals as goal

pub returns : goal.returns
returns c =
    let ts = c.args.tokens.now in
    untagged AClause clause_tree c.many.result (λ r. r.part) (λ r. r.rest.now) (many begins_clause clause (length ts) [] ts) _ (λ a b e. cc) (many_tagged AClause begins_clause clause (length ts) ts) c.many.ensures
