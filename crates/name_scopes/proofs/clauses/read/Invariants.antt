use Rattle.std.proofs.Common.{◌≡◌, map, drop}
use Rattle.name_scopes.specs.Declarations.{listed_fault}
use Rattle.name_scopes.specs.inner.Walks.{names, view}
use Rattle.name_scopes.proofs.clauses.read.Given as goal

abbrev pub invariant-loop-place : goal.invariant-loop-place
invariant-loop-place l = listed_fault (view l.scope) (names l.locals).known (map (λ r. r.name) (drop l.place-index l.list)) ≡ listed_fault (view l.scope) (names l.locals).known (map (λ r. r.name) l.list)
