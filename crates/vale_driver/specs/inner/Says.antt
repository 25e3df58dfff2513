-- What a line or a text that is written leaves.
use Rattle.std.specs.Prelude.{◌≡◌, ℕ, List, ◌⊎◌}
use Rattle.vale_driver.specs.declared.status.Status.{Status}
use Rattle.vale_driver.specs.declared.status.Status.TheVariants.{WriteFault}
use Rattle.vale_driver.specs.Ends.{Stream, Takes, TakesFront, Fails}

-- the text was written and the status is the answer, or a front of it was and a write failed
abbrev pub SaysOr : Status → Stream → List ℕ → Status → Type 0
SaysOr status s text result = ((result ≡ status) × Takes s text) ⊎ ((result ≡ WriteFault) × (Fails s × TakesFront s text))
