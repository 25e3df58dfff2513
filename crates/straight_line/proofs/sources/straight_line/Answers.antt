use Rattle.vale_syntax.specs.inner.CodeTrees.{decl_tree}
use Rattle.straight_line.proofs.Fits.{pair_given}
use Rattle.straight_line.proofs.sources.straight_line.Goals as goal

pub returns-clause-fits : goal.returns-clause-fits
returns-clause-fits c = pair_given (decl_tree c.procedure-item.result) (decl_tree c.export-item.result) _ c.pair.ensures
