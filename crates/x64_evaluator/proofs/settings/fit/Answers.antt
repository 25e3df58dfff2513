use Rattle.std.proofs.Common.{◌^◌, arith}
use Rattle.std.proofs.lemmas.Bool.{and_from, lt-ltb}
use Rattle.x64_evaluator.proofs.Taken.{bytes_fit}
use Rattle.x64_evaluator.proofs.settings.fit.Goals as goal

pub returns : goal.returns
returns c =
    let base = c.ranges.base.fits in
    and_from _ _ (lt-ltb c.args.base (2 ^ 64) (omega (arith, base))) (bytes_fit c.args.bytes.now (λ i. let f = c.type_inv.bytes i in omega (arith, f)))
