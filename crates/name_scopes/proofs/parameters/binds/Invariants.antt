use Rattle.std.proofs.Common.{◌≡◌, map, drop}
use Rattle.name_scopes.specs.Declarations.{params_names}
use Rattle.name_scopes.specs.inner.Walks.{names, view}
use Rattle.name_scopes.proofs.parameters.binds.Given as goal

abbrev pub invariant-loop-bind : goal.invariant-loop-bind
invariant-loop-bind l = params_names (view l.scope) (names l.locals) (map (λ b. b.name) (drop l.bind-index l.list)) ≡ params_names (view l.scope) (names l.fn.locals) (map (λ b. b.name) l.list)
