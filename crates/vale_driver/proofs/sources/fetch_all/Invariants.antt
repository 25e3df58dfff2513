use Rattle.std.proofs.Common.{◌≡◌, ℕ, ◌≤◌, List, drop}
use Rattle.vale_driver.specs.Words.{texts}
use Rattle.vale_driver.proofs.Going.{Fetching}
use Rattle.vale_driver.proofs.sources.fetch_all.Given as goal

abbrev pub invariant-loop-number : goal.invariant-loop-number
invariant-loop-number g l = record {
  going : Fetching (g.S.Store.tells l.fn.store) l.sources.items l.number (texts (drop l.number l.files)) (texts l.files);
  count : g.S.Store.faults l.fn.store ≤ g.S.Store.faults l.store;
  same_names : (n : List ℕ) → g.S.Store.may_ask l.store n ≡ g.S.Store.may_ask l.fn.store n;
  same_files : (n : List ℕ) → g.S.Store.tells l.store n ≡ g.S.Store.tells l.fn.store n;
}
