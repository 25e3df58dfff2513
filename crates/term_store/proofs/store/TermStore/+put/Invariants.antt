use Rattle.std.proofs.Common.{◌≡◌, length, map, take}
use Rattle.term_core.specs.Terms.{tree}
use Rattle.term_store.specs.Numbers.{term_at, EachBelow, Grows}
use Rattle.term_store.proofs.store.TermStore.+put.Given as goal

abbrev pub invariant-put_all-loop-k : goal.invariant-put_all-loop-k
invariant-put_all-loop-k l = record {
  grows : Grows l.initial.self l.self;
  within : EachBelow (length l.self) l.ids;
  terms : map (term_at l.self) l.ids ≡ map tree (take l.k l.terms);
}
