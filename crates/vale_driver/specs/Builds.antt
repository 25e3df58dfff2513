-- Builds: what their files hold, why they are refused, and what a finished one means.
use Rattle.std.specs.Prelude.{◌≡◌, ℕ, true, false, List, Option, Some, map, slice_get}
use Rattle.std.specs.List.{AllByRecursion}
use Rattle.x64_syntax.specs.declared.items.Item.{Item}
use Rattle.x64_meaning.specs.Contract.{Meets, SameRuns}
use Rattle.x64_meaning.specs.Condition.{no_functions}
use Rattle.gas_text.specs.Text.{ReadsAs}
use Rattle.straight_line.specs.declared.form.StraightLine.{StraightLine}
use Rattle.vale_driver.specs.declared.status.Refusal.{Refusal}
use Rattle.vale_driver.specs.Words.{BuildWords}
use Rattle.vale_driver.specs.Told.{IsAsTold, EachAsTold}
use Rattle.vale_driver.specs.Causes.{refusal_of, NoCertificate, NoStep}
use Rattle.vale_driver.specs.Sources.{Source, sources_from, IsShort, Spells, AreNoForm, Phases}
use Rattle.vale_driver.specs.Certificate.{Pair, Proves}
use Rattle.vale_driver.specs.Ring.{ring_closes}
use Rattle.vale_driver.specs.Build.{contract_of, condition_hyps, condition_goal, lowered_code}

-- What the files of a build hold.
pub record BuildFiles : Type 0 where
  pub sources : List (List ℕ)
  pub cert : List ℕ

pub record BuildHolds (tells : List ℕ → Option (List ℕ)) (b : BuildWords) (h : BuildFiles) : Type 0 where
  pub sources : EachAsTold tells b.files h.sources
  pub cert : IsAsTold (tells b.cert) h.cert

-- all that the files hold is told
pub record BuildTold (tells : List ℕ → Option (List ℕ)) (b : BuildWords) (h : BuildFiles) : Type 0 where
  pub sources : map tells b.files ≡ map Some h.sources
  pub cert : tells b.cert ≡ Some h.cert

abbrev pub sources_of : BuildWords → BuildFiles → List Source
sources_of b h = sources_from 0 b.files h.sources

-- The sources are of the form, and the certificate isn't.
pub record CertificateRefused (b : BuildWords) (h : BuildFiles) (r : Refusal) : Type 0 where
  pub program : StraightLine
  pub spells : Spells (sources_of b h) program
  pub not_of_form : (steps : List Pair) → Proves h.cert program.name steps → ⊥
  pub is : r ≡ refusal_of (NoCertificate b.cert)

-- All are of their form, and the certificate's step doesn't apply.
pub record StepRefused (b : BuildWords) (h : BuildFiles) (r : Refusal) : Type 0 where
  pub program : StraightLine
  pub steps : List Pair
  pub spells : Spells (sources_of b h) program
  pub proves : Proves h.cert program.name steps
  pub not_closed : ring_closes (condition_hyps program) (condition_goal program) steps ≡ false
  pub is : r ≡ refusal_of (NoStep b.cert program.name)

-- a refusal that comes after all phases of the sources
pub data Behind (b : BuildWords) (h : BuildFiles) (r : Refusal) : Type 0 where
  no_form : AreNoForm (slice_get b.files 0) (sources_of b h) r → Behind b h r
  no_certificate : CertificateRefused b h r → Behind b h r
  no_step : StepRefused b h r → Behind b h r

-- The first refusal: files that are too long, then texts without tokens, then tokens that aren't declarations, each over
-- all source files; then sources of no form that is built, the certificate's form, and its step.
abbrev pub BuildRefusal : BuildWords → BuildFiles → Refusal → Type 0
BuildRefusal b h r = Phases (sources_of b h) (Behind b h) r

-- the files hold what is told of them, and this is the first refusal
pub record BuildRefused (tells : List ℕ → Option (List ℕ)) (b : BuildWords) (r : Refusal) : Type 0 where
  pub held : BuildFiles
  pub holds : BuildHolds tells b held
  pub first : BuildRefusal b held r

-- nothing is refused
pub record Accepted (b : BuildWords) (h : BuildFiles) (p : StraightLine) (steps : List Pair) : Type 0 where
  pub short : AllByRecursion IsShort (sources_of b h)
  pub spells : Spells (sources_of b h) p
  pub proves : Proves h.cert p.name steps
  pub closes : ring_closes (condition_hyps p) (condition_goal p) steps ≡ true

-- The text reads as exactly the lowered code of the procedure's export, and as nothing else. That export, started in any
-- state that meets what its contract asks, ends without a fault, meets what the contract promises and changes only
-- declared places. Of any two such starts that agree on what is public, the runs take as many steps and make the same
-- observations.
pub record IsRight (p : StraightLine) (text : List ℕ) : Type 0 where
  pub reads : ReadsAs text (lowered_code p)
  pub reads_only : (items : List Item) → ReadsAs text items → items ≡ lowered_code p
  pub meets : Meets no_functions (contract_of p) (lowered_code p) 0
  pub same_runs : SameRuns no_functions (contract_of p) (lowered_code p) 0

-- What a finished build means: nothing of its files is refused, and its text is right.
pub record IsBuilt (tells : List ℕ → Option (List ℕ)) (b : BuildWords) (text : List ℕ) : Type 0 where
  pub held : BuildFiles
  pub holds : BuildHolds tells b held
  pub program : StraightLine
  pub steps : List Pair
  pub accepted : Accepted b held program steps
  pub right : IsRight program text
