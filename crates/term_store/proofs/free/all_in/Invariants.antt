use Rattle.std.proofs.Common.{◌≡◌, nat_eq, drop}
use Rattle.std.specs.List.{list_all}
use Rattle.indexmap.specs.IndexSet.{contains}
use Rattle.term_store.proofs.free.all_in.Given as goal

-- what is left decides
abbrev pub invariant-loop-id : goal.invariant-loop-id
invariant-loop-id l = list_all (λ i. contains nat_eq l.seen i) (drop l.id-index l.ids) ≡ list_all (λ i. contains nat_eq l.seen i) l.ids
