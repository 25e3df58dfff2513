use Rattle.std.proofs.Common.{◌+◌, ap, sym, ◌∙◌, drop}
use Rattle.vale_syntax.specs.Tokens.{tokens_from}
use Rattle.vale_driver.specs.inner.Phases.{source_view, source_views}
use Rattle.vale_driver.proofs.Files.{turn, scanned_one}
use Rattle.vale_driver.proofs.sources.scan_all.Goals as goal

pub loop-source-preserved : goal.loop-source-preserved
loop-source-preserved c =
    let k = c.loop-source.source-index in
    scanned_one c.loop-source.scanned.items c.push.new.self.items (source_view c.source-item.result) _ (source_views (drop (k + 1) c.args.sources.now)) (source_views (drop k c.args.sources.now)) (source_views c.args.sources.now)
    (ap source_views (turn c.args.sources.now k c.source-item.result c.loop-source-test.true c.source-item.is)) (ap (λ l. (c.source-item.result.name.now, l)) (sym c.in-Ok.ensures ∙ ap (tokens_from c.source-item.result.number 0 0) c.deref.ensures.value)) c.in_ok-push-in-Ok.ensures.items c.loop-source.invariant
