use Rattle.std.proofs.Common.{◌≡◌, drop}
use Rattle.std.specs.List.{list_all}
use Rattle.x64_syntax.specs.declared.type_words.Sort.TheVariants as sort
use Rattle.term_core.specs.Functions.{functions}
use Rattle.term_core.specs.Sorted.{is_sorted}
use Rattle.term_core.specs.Terms.{trees}
use Rattle.term_core.proofs.fitting.all_sorted.Given as goal

-- the rest is sorted as the whole is
abbrev pub invariant-loop-k : goal.invariant-loop-k
invariant-loop-k l = list_all (is_sorted (functions l.funs) sort.Bool) (trees (drop l.k l.terms)) ≡ list_all (is_sorted (functions l.funs) sort.Bool) (trees l.terms)
