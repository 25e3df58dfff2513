use Rattle.std.proofs.Common.{refl, true}
use Rattle.vale_driver.proofs.Askable.{askable}
use Rattle.vale.proofs.main.Goals as goal

pub run-status-requires : goal.run-status-requires
run-status-requires c = record { askable = askable (λ f. true) (λ f. refl) _ }
