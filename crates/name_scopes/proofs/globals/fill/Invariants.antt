use Rattle.std.proofs.Common.{◌≡◌, ℕ, List, map, drop}
use Rattle.vale_syntax.specs.inner.CodeTrees.{decl_tree}
use Rattle.name_scopes.specs.Faults.{◌<|>◌}
use Rattle.name_scopes.specs.Globals.{declared_from, declared}
use Rattle.name_scopes.specs.inner.Walks.{table_of}
use Rattle.name_scopes.proofs.globals.fill.Given as goal

-- what the names stand for so far, and then among the others, is what they stand for among all
abbrev pub invariant-loop-decl : goal.invariant-loop-decl
invariant-loop-decl l = record {
  number : l.number ≡ l.decl-index;
  stands : (n : List ℕ) → (table_of l.globals n <|> declared_from l.number (map decl_tree (drop l.decl-index l.decls)) n) ≡ declared (map decl_tree l.decls) n;
}
