use Rattle.std.proofs.lemmas.Result.{err_from_is_err_and}
use Rattle.vale_driver.proofs.Files.{stops_also}
use Rattle.vale_driver.proofs.Texts.{listing_refused}
use Rattle.vale_driver.proofs.read.read_listing.Goals as goal

pub returns-in_err-items-clause-stops : goal.returns-in_err-items-clause-stops
returns-in_err-items-clause-stops g c =
    let p = err_from_is_err_and c.from_residual.result c.from_residual.ensures.1 in
    rw (p.1, p.2) (stops_also _ _ _ _ c.in_err-items.field-0.0 (listing_refused (g.S.Store.tells c.args.store.now) c.args.file.now) (λ f. f) c.in_err-items.ensures.stops)
