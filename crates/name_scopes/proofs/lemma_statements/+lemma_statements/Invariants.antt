use Rattle.std.proofs.Common.{◌≡◌, map, drop}
use Rattle.vale_syntax.specs.inner.CodeTrees.{lstmt_tree, lsts}
use Rattle.name_scopes.specs.Statements.{lstmts_fault}
use Rattle.name_scopes.specs.inner.Walks.{names, view}
use Rattle.name_scopes.proofs.lemma_statements.+lemma_statements.Given as goal

abbrev pub invariant-stmts-loop-s : goal.invariant-stmts-loop-s
invariant-stmts-loop-s l = record {
  kept : names l.locals ≡ names l.fn.locals;
  judged : lstmts_fault (view l.scope) (names l.fn.locals).known (lsts (map lstmt_tree (drop l.s-index l.body))) ≡ lstmts_fault (view l.scope) (names l.fn.locals).known (lsts (map lstmt_tree l.body));
}
