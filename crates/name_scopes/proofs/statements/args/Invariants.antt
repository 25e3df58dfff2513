use Rattle.std.proofs.Common.{◌≡◌, map, drop}
use Rattle.vale_syntax.specs.inner.CodeTrees.{arg_tree}
use Rattle.name_scopes.specs.Statements.{args_fault}
use Rattle.name_scopes.specs.inner.Walks.{names, view}
use Rattle.name_scopes.proofs.statements.args.Given as goal

abbrev pub invariant-loop-a : goal.invariant-loop-a
invariant-loop-a l = record {
  kept : names l.locals ≡ names l.fn.locals;
  judged : args_fault (view l.scope) (names l.fn.locals).known (map arg_tree (drop l.a-index l.args)) ≡ args_fault (view l.scope) (names l.fn.locals).known (map arg_tree l.args);
}
