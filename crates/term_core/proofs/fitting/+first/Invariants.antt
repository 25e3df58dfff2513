use Rattle.std.proofs.Common.{◌≡◌, drop, map}
use Rattle.term_core.specs.Terms.{tree, tms}
use Rattle.term_core.specs.inner.Uses.{first_sort_all}
use Rattle.term_core.proofs.fitting.+first.Given as goal

-- the name stands first in the rest as in the whole
abbrev pub invariant-first_sort_all-loop-k : goal.invariant-first_sort_all-loop-k
invariant-first_sort_all-loop-k l = first_sort_all l.name (tms (map tree (drop l.k l.terms))) ≡ first_sort_all l.name (tms (map tree l.terms))
