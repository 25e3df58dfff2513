use Rattle.std.proofs.Common.{◌≡◌, map, drop, false}
use Rattle.vale_syntax.specs.inner.CodeTrees.{lclause_tree}
use Rattle.name_scopes.specs.Declarations.{lclauses_fault}
use Rattle.name_scopes.specs.inner.Walks.{names, view}
use Rattle.name_scopes.proofs.clauses.lemma_clauses.Given as goal

abbrev pub invariant-loop-clause : goal.invariant-loop-clause
invariant-loop-clause l = record {
  kept : names l.locals ≡ names l.fn.locals;
  judged : lclauses_fault (view l.scope) (names l.fn.locals).known l.has_measure (map lclause_tree (drop l.clause-index l.list)) ≡ lclauses_fault (view l.scope) (names l.fn.locals).known false (map lclause_tree l.list);
}
