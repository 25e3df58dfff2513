use Rattle.std.proofs.Common.{Err, List, ap}
use Rattle.vale_driver.specs.Certificate.{Pair, Proves}
use Rattle.vale_driver.proofs.Refused.{certificate_long, certificate_read}
use Rattle.vale_driver.proofs.build.certificate_file.Goals as goal

pub returns-in_default-clause-stops : goal.returns-in_default-clause-stops
returns-in_default-clause-stops g c =
    certificate_long _ _ c.args.name.now _ (g.S.Store.faults c.args.store.now) (g.S.Store.faults c.fetch.new.store) _ c.in_default.not-Some c.in_ok-bytes.ensures.fetched c.in_ok-refusal.ensures

pub returns-in-Err-NotOfForm-clause-stops : goal.returns-in-Err-NotOfForm-clause-stops
returns-in-Err-NotOfForm-clause-stops g c =
    let read = rw c.in-Some.is at c.in_ok-bytes.ensures.fetched in record {
      is = c.in_ok-refusal-in-Err-NotOfForm.ensures;
      none = certificate_read _ (λ s. (ps : List Pair) → Proves s c.args.name.now ps → ⊥) _ c.deref.result.now read.1 c.deref.ensures.value (c.in-Err-NotOfForm.ensures.refused (ap Err c.in-Err-NotOfForm.field-0-is));
    }
