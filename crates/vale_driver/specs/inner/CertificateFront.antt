-- Reading a certificate from its front.
use Rattle.std.specs.Prelude.{◌≡◌, ℕ, zero, suc, Bool, true, false, nat_le, ◌==◌, if◌then◌else◌, List, [], ◌∷◌, ◌++◌, length, Option, Some, None, Result, Ok, Err, codes}
use Rattle.vale_driver.specs.declared.certificate.CertificateFault.{CertificateFault}
use Rattle.vale_driver.specs.declared.certificate.CertificateFault.TheVariants.{NotOfForm, NoMemory}
use Rattle.vale_driver.specs.Words.{value_if}
use Rattle.vale_driver.specs.Certificate.{Pair, hypothesis_limit}
use Rattle.vale_driver.specs.inner.Fronts.{◌>>=◌, strip, number_at}

-- what reading gives, unless memory ran out
abbrev pub Faults : {A : Type 0} → Option A → CertificateFault → Type 0
Faults read NoMemory = Unit {0}
Faults read NotOfForm = read ≡ None

abbrev pub Reads : {A B : Type 0} → (A → B) → Option B → Result A CertificateFault → Type 0
Reads view read (Ok x) = read ≡ Some (view x)
Reads view read (Err e) = Faults read e

unfoldable pub pair_at : List ℕ → Option (Pair × List ℕ)
pair_at bytes = do
  a ← strip (codes "[") bytes
  i ← number_at a
  b ← strip (codes ",") i.1
  f ← number_at b
  c ← strip (codes "]") f.1
  value_if (nat_le i.0 hypothesis_limit) ((i.0, f.0), c)

-- more pairs in front of those that are read
abbrev pub with_pairs : List Pair → Option (List Pair × List ℕ) → Option (List Pair × List ℕ)
with_pairs front None = None
with_pairs front (Some x) = Some (front ++ x.0, x.1)

-- goes on behind a comma, or ends where none stands
abbrev pub behind_comma : Option (List ℕ) → List ℕ → (List ℕ → Option (List Pair × List ℕ)) → Option (List Pair × List ℕ)
behind_comma None bytes go = Some ([], bytes)
behind_comma (Some rest) bytes go = go rest

-- further pairs, each behind a comma, at most so many
unfoldable pub more_at : ℕ → List ℕ → Option (List Pair × List ℕ)
more_at zero bytes = Some ([], bytes)
more_at (suc n) bytes = behind_comma (strip (codes ",") bytes) bytes (λ rest. pair_at rest >>= λ p. with_pairs (p.0 ∷ []) (more_at n p.1))

abbrev pub begins_pair : List ℕ → Bool
begins_pair [] = false
begins_pair (b ∷ bs) = b == 91

unfoldable pub pairs_at : List ℕ → Option (List Pair × List ℕ)
pairs_at bytes =
    if begins_pair bytes then (pair_at bytes >>= λ p. with_pairs (p.0 ∷ []) (more_at (length p.1) p.1))
    else Some ([], bytes)

unfoldable pub opening_at : List ℕ → List ℕ → Option (List ℕ)
opening_at name bytes = do
  a ← strip (codes "{\"condition\":\"") bytes
  b ← strip name a
  strip (codes "()#0\"}\n[\"ring\",[") b

abbrev pub ends : List ℕ → Bool
ends [] = true
ends (b ∷ []) = b == 10
ends _ = false

unfoldable pub certificate_at : List ℕ → List ℕ → Option (List Pair)
certificate_at name bytes = do
  a ← opening_at name bytes
  p ← pairs_at a
  b ← strip (codes "]]") p.1
  value_if (ends b) p.0
