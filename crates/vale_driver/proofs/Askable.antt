-- A store that may be asked for every name.
use Rattle.std.proofs.Common.{◌≡◌, ℕ, Bool, true, List, [], ◌∷◌, Option, Some, None, IsTrue}
use Rattle.std.specs.List.{AllByRecursion}
use Rattle.vale_driver.specs.Words.{Command, files_of}
use Rattle.vale_driver.specs.Ends.{MayAsk}

module _ (may_ask : List ℕ → Bool) (all : (name : List ℕ) → may_ask name ≡ true) where
  each : (names : List (List ℕ)) → AllByRecursion (λ f. IsTrue (may_ask f)) names
  each [] = tt
  each (n ∷ ns) = (all n, each ns)

  pub askable : (form : Option Command) → MayAsk may_ask form
  askable None = tt
  askable (Some c) = each (files_of c)
