use Rattle.std.proofs.Common.{◌≡◌, map, drop}
use Rattle.vale_syntax.specs.inner.CodeTrees.{tree}
use Rattle.name_scopes.specs.Statements.{list_fault}
use Rattle.name_scopes.specs.inner.Walks.{names, view}
use Rattle.name_scopes.proofs.expressions.list.Given as goal

abbrev pub invariant-loop-e : goal.invariant-loop-e
invariant-loop-e l = record {
  kept : names l.locals ≡ names l.fn.locals;
  judged : list_fault (view l.scope) (names l.fn.locals).known (map tree (drop l.e-index l.list)) ≡ list_fault (view l.scope) (names l.fn.locals).known (map tree l.list);
}
