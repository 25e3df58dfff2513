use Rattle.std.proofs.Common.{◌≡◌, [], map, drop}
use Rattle.vale_syntax.specs.inner.CodeTrees.{decl_tree}
use Rattle.name_scopes.specs.Sources.{decls_fault}
use Rattle.name_scopes.specs.inner.Walks.{table_of}
use Rattle.name_scopes.proofs.sources.walk.Given as goal

-- what the others tell behind the exports so far is what all tell
abbrev pub invariant-loop-decl : goal.invariant-loop-decl
invariant-loop-decl l = record {
  number : l.number ≡ l.decl-index;
  told : decls_fault (table_of l.globals) l.exports l.number (map decl_tree (drop l.decl-index l.decls)) ≡ decls_fault (table_of l.globals) [] 0 (map decl_tree l.decls);
}
