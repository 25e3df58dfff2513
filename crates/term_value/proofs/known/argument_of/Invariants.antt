use Rattle.std.proofs.Common.{◌≡◌, drop, map}
use Rattle.term_core.specs.Literals.{literal_value}
use Rattle.term_value.specs.Evaluation.{known_arguments}
use Rattle.term_value.proofs.known.argument_of.Given as goal

-- what the rest of the parameters have is what all have
abbrev pub invariant-loop-k : goal.invariant-loop-k
invariant-loop-k l = known_arguments (drop l.k l.params) (map literal_value (drop l.k l.args)) l.name l.sort ≡ known_arguments l.params (map literal_value l.args) l.name l.sort
