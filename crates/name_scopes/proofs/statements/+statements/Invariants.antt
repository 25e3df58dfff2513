use Rattle.std.proofs.Common.{◌≡◌, map, drop}
use Rattle.vale_syntax.specs.inner.CodeTrees.{stmt_tree, sts}
use Rattle.name_scopes.specs.Statements.{stmts_names}
use Rattle.name_scopes.specs.inner.Walks.{names, view}
use Rattle.name_scopes.proofs.statements.+statements.Given as goal

-- what is known behind the others, from here on, is what is known behind all
abbrev pub invariant-stmts-loop-s : goal.invariant-stmts-loop-s
invariant-stmts-loop-s l = stmts_names (view l.scope) (names l.locals) (sts (map stmt_tree (drop l.s-index l.body))) ≡ stmts_names (view l.scope) (names l.fn.locals) (sts (map stmt_tree l.body))
