use Rattle.std.proofs.Common.{drop}
use Rattle.term_core.specs.Terms.{trees}
use Rattle.vale_driver.specs.inner.ConditionTerms.{present_versions}
use Rattle.vale_driver.proofs.Going.{Hypotheses}
use Rattle.vale_driver.proofs.condition.push_hypotheses.Given as goal

abbrev pub invariant-loop-ins : goal.invariant-loop-ins
invariant-loop-ins l = Hypotheses (trees l.fn.hyps) (trees l.hyps) (present_versions l.versions) l.ins-index (drop l.ins-index l.instructions) l.instructions
