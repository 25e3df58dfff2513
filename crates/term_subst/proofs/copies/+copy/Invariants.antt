use Rattle.std.proofs.Common.{◌≡◌, ◌++◌, drop}
use Rattle.term_subst.proofs.copies.+copy.Given as goal

abbrev pub invariant-copy_all-loop-arg : goal.invariant-copy_all-loop-arg
invariant-copy_all-loop-arg l = l.copies ++ drop l.arg-index l.args ≡ l.args
