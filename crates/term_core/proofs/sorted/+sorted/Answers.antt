use Rattle.term_core.specs.Functions.{functions}
use Rattle.term_core.proofs.Sorting.{lengths_of_calls}
use Rattle.term_core.proofs.sorted.+sorted.Goals as goal

pub are_sorted-returns-then-args-params : goal.are_sorted-returns-then-args-params
are_sorted-returns-then-args-params t c = lengths_of_calls (functions c.args.funs.now) c.args.params.now c.args.args.now c.if-args-params.true
