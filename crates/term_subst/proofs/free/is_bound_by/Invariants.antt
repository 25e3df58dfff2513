use Rattle.std.proofs.Common.{◌≡◌, drop, map}
use Rattle.term_subst.specs.Free.{is_bound_by}
use Rattle.term_subst.proofs.free.is_bound_by.Given as goal

abbrev pub invariant-loop-name : goal.invariant-loop-name
invariant-loop-name l = is_bound_by (map (λ name. name.now) (drop l.name-index l.names)) l.text l.sort ≡ is_bound_by (map (λ name. name.now) l.names) l.text l.sort
