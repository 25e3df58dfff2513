use Rattle.std.proofs.Common.{◌≡◌, map, drop}
use Rattle.name_scopes.specs.Declarations.{param_name, params_names}
use Rattle.name_scopes.specs.inner.Walks.{names, view}
use Rattle.name_scopes.proofs.parameters.params.Given as goal

abbrev pub invariant-loop-param : goal.invariant-loop-param
invariant-loop-param l = params_names (view l.scope) (names l.locals) (map param_name (drop l.param-index l.list)) ≡ params_names (view l.scope) (names l.fn.locals) (map param_name l.list)
