use Rattle.std.proofs.Common.{ap, ◌∙◌}
use Rattle.x64_meaning.specs.Condition.{first_versions, end_versions}
use Rattle.vale_driver.specs.inner.ConditionTerms.{present_versions}
use Rattle.vale_driver.proofs.Present.{goal_built}
use Rattle.vale_driver.proofs.condition.condition.Goals as goal

pub returns-clause-goal : goal.returns-clause-goal
returns-clause-goal c = c.in_ok-goal.ensures ∙ goal_built c.args.program.now (present_versions c.in_ok-last.last) (c.in_ok-last.ensures.last ∙ ap (λ is. end_versions first_versions is) c.as_slice.ensures)
