use Rattle.std.proofs.Common.{◌≡◌, ◌++◌, map, drop}
use Rattle.term_core.specs.Functions.{functions}
use Rattle.term_core.specs.Terms.{tree, tms}
use Rattle.term_core.specs.Printed.{commas, printed_all}
use Rattle.term_core.proofs.Arguments.{behind}
use Rattle.term_core.proofs.printing.+printing.Given as goal

-- what is written so far and the text of the others are that of all
abbrev pub invariant-push_list-loop-t : goal.invariant-push_list-loop-t
invariant-push_list-loop-t l = l.out.items ++ behind l.is_first (printed_all (functions l.f) (tms (map tree (drop l.t-index l.list)))) ≡ l.fn.out.items ++ commas (printed_all (functions l.f) (tms (map tree l.list)))
