use Rattle.std.proofs.Common.{◌≡◌, length, map, take}
use Rattle.term_store.specs.Numbers.{term_at, EachBelow}
use Rattle.term_store.specs.inner.Changing.{changed}
use Rattle.term_store.proofs.store.TermStore.all_known.Given as goal

abbrev pub invariant-loop-k : goal.invariant-loop-k
invariant-loop-k l = record {
  within : EachBelow (length l.self) l.new;
  terms : map (term_at l.self) l.new ≡ map (λ i. changed l.self l.fn.change (term_at l.self i)) (take l.k l.ids);
}
