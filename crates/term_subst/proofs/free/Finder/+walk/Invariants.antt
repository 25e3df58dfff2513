use Rattle.std.proofs.Common.{◌≡◌, drop, map}
use Rattle.term_core.specs.Terms.{tree, tms}
use Rattle.term_subst.specs.Free.{free_among}
use Rattle.term_subst.specs.inner.Walks.{names_around, names_found, with_names}
use Rattle.term_subst.proofs.free.Finder.+walk.Given as goal

-- the names of what is left, behind those found, are those of the whole
abbrev pub invariant-walk_all-loop-arg : goal.invariant-walk_all-loop-arg
invariant-walk_all-loop-arg l = record {
  found : with_names (names_found l.self) (free_among (names_around l.self) (tms (map tree (drop l.arg-index l.args)))) ≡ with_names (names_found l.initial.self) (free_among (names_around l.initial.self) (tms (map tree l.args)));
  around : names_around l.self ≡ names_around l.initial.self;
}
