use Rattle.std.proofs.Common.{drop, map}
use Rattle.vale_syntax.specs.inner.CodeTrees.{decl_tree}
use Rattle.vale_driver.proofs.Going.{Parsing}
use Rattle.vale_driver.proofs.sources.parse_all.Given as goal

abbrev pub invariant-loop-source : goal.invariant-loop-source
invariant-loop-source l = Parsing (map decl_tree l.decls.items) (drop l.source-index l.scanned) l.scanned
