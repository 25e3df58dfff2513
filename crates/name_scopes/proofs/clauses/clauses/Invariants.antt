use Rattle.std.proofs.Common.{◌≡◌, map, drop, false}
use Rattle.vale_syntax.specs.inner.CodeTrees.{clause_tree}
use Rattle.name_scopes.specs.Declarations.{clauses_fault}
use Rattle.name_scopes.specs.inner.Walks.{names, view}
use Rattle.name_scopes.proofs.clauses.clauses.Given as goal

abbrev pub invariant-loop-clause : goal.invariant-loop-clause
invariant-loop-clause l = record {
  kept : names l.locals ≡ names l.fn.locals;
  judged : clauses_fault (view l.scope) (names l.fn.locals).known l.has_stack l.has_abi (map clause_tree (drop l.clause-index l.list)) ≡ clauses_fault (view l.scope) (names l.fn.locals).known false false (map clause_tree l.list);
}
