use Rattle.std.proofs.Common.{drop}
use Rattle.vale_driver.specs.inner.Phases.{source_views}
use Rattle.vale_driver.proofs.Going.{Scanning}
use Rattle.vale_driver.proofs.sources.scan_all.Given as goal

abbrev pub invariant-loop-source : goal.invariant-loop-source
invariant-loop-source l = Scanning l.scanned.items (source_views (drop l.source-index l.sources)) (source_views l.sources)
