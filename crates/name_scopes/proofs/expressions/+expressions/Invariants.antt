use Rattle.std.proofs.Common.{◌≡◌, map, drop}
use Rattle.vale_syntax.specs.inner.CodeTrees.{tree, exs}
use Rattle.name_scopes.specs.Expressions.{exprs_fault, range_fault}
use Rattle.name_scopes.specs.inner.Walks.{names, view}
use Rattle.name_scopes.proofs.expressions.+expressions.Given as goal

-- what the others tell is what all tell
abbrev pub invariant-exprs-loop-e : goal.invariant-exprs-loop-e
invariant-exprs-loop-e l = record {
  kept : names l.locals ≡ names l.fn.locals;
  judged : exprs_fault (view l.scope) (names l.fn.locals).known (exs (map tree (drop l.e-index l.list))) ≡ exprs_fault (view l.scope) (names l.fn.locals).known (exs (map tree l.list));
}

abbrev pub invariant-range-loop-number : goal.invariant-range-loop-number
invariant-range-loop-number l = record {
  kept : names l.locals ≡ names l.fn.locals;
  judged : range_fault (view l.scope) (names l.fn.locals).known l.name.text l.number (exs (map tree (drop l.number l.args))) ≡ range_fault (view l.scope) (names l.fn.locals).known l.name.text 1 (exs (map tree (drop 1 l.args)));
}
