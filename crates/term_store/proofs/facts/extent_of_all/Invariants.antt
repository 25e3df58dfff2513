use Rattle.std.proofs.Common.{ℕ, ◌<◌, ◌≤◌, map, drop, length, get_or}
use Rattle.term_core.specs.Terms.{Tm, tms}
use Rattle.term_store.specs.inner.Kept.{Known, Measured, nothing}
use Rattle.term_store.proofs.facts.extent_of_all.Given as goal

abbrev pub invariant-loop-k : goal.invariant-loop-k
invariant-loop-k l = record {
  within : l.k ≤ length l.ids;
  known : (at : ℕ → Tm) → ((i : ℕ) → i < length l.known → Known (at i) (get_or l.known i nothing)) → Measured (tms (map at (drop l.k l.ids))) l.all;
}

abbrev pub decreases-loop-k : goal.decreases-loop-k
decreases-loop-k l = l.k
