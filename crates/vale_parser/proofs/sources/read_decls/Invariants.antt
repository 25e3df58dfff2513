use Rattle.std.proofs.Common.{map, length}
use Rattle.vale_syntax.specs.inner.CodeTrees.{decl_tree}
use Rattle.vale_parser.specs.Sources.{Front}
use Rattle.vale_parser.proofs.sources.read_decls.Given as goal

abbrev pub decreases-loop-rest : goal.decreases-loop-rest
decreases-loop-rest l = length l.rest

-- the declarations so far are the front of the tokens
abbrev pub invariant-loop-rest : goal.invariant-loop-rest
invariant-loop-rest l = Front l.tokens (map decl_tree l.decls.items) l.rest
