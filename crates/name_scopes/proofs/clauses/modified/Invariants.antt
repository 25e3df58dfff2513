use Rattle.std.proofs.Common.{◌≡◌, drop}
use Rattle.name_scopes.specs.Declarations.{listed_fault}
use Rattle.name_scopes.specs.inner.Walks.{names, view}
use Rattle.name_scopes.proofs.clauses.modified.Given as goal

abbrev pub invariant-loop-name : goal.invariant-loop-name
invariant-loop-name l = listed_fault (view l.scope) (names l.locals).known (drop l.name-index l.list) ≡ listed_fault (view l.scope) (names l.locals).known l.list
