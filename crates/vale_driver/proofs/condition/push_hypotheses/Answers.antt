use Rattle.vale_driver.proofs.Present.{none_yet, one_more}
use Rattle.vale_driver.proofs.Files.{turn_or}
use Rattle.vale_driver.proofs.condition.push_hypotheses.Goals as goal

pub loop-ins-init : goal.loop-ins-init
loop-ins-init c = none_yet _ _ _ c.requires.built c.first-versions.ensures

pub loop-ins-preserved : goal.loop-ins-preserved
loop-ins-preserved c = one_more _ _ _ _ _ _ _ _ _ _ (turn_or c.args.instructions.now c.loop-ins.ins-index _ c.loop-ins-test.true) c.loop-ins.invariant c.in_ok-push_instruction.ensures c.pass.ensures
