use Rattle.std.proofs.Common.{sym, subst}
use Rattle.std.specs.Prelude.{IfErr}
use Rattle.vale_outside.specs.Outside.{Rose}
use Rattle.vale_driver.specs.Commands.{IsRefused}
use Rattle.vale_driver.specs.inner.Stops.{StopsBy}
use Rattle.vale_driver.specs.inner.Phases.{command_of}
use Rattle.vale_driver.proofs.Quiet.{build_stops}
use Rattle.vale_driver.proofs.program.output.Goals as goal

pub returns-in-Build-clause-stops : goal.returns-in-Build-clause-stops
returns-in-Build-clause-stops g c =
    subst (λ x. IfErr c.build.result (StopsBy (IsRefused (g.S.Store.tells c.args.store.now) (command_of x)) (Rose (g.S.Store.faults c.args.store.now) (g.S.Store.faults c.build.new.store)))) (sym c.in-Build.is)
    (build_stops (g.S.Store.tells c.args.store.now) _ _ c.build.result c.build.ensures.stops)
