-- Why a command ends without output.
use Rattle.std.specs.Prelude.{◌≡◌, ℕ, false, ◌≤◌, ◌<◌, List, length, Option, Some, None, Result, Ok, Err, IfSome, Vec}
use Rattle.std.specs.List.{AllByRecursion}
use Rattle.std.specs.declared.alloc.Global.{Global}
use Rattle.vale_outside.specs.Outside.{Rose}
use Rattle.straight_line.specs.declared.form.StraightLine.{StraightLine}
use Rattle.vale_driver.specs.declared.status.Refusal.{Refusal}
use Rattle.vale_driver.specs.declared.stop.Stop.{Stop}
use Rattle.vale_driver.specs.declared.stop.Stop.TheVariants.{Refused, ReadFault, NoMemory}
use Rattle.vale_driver.specs.Sources.{sources_from, IsShort, Spells}
use Rattle.vale_driver.specs.Certificate.{Pair, Proves}
use Rattle.vale_driver.specs.Told.{IsAsTold, EachAsTold}
use Rattle.vale_driver.specs.Causes.{refusal_of, NoCertificate, NoStep}
use Rattle.vale_driver.specs.Ring.{ring_closes}
use Rattle.vale_driver.specs.Build.{condition_hyps, condition_goal}
use Rattle.vale_driver.specs.Builds.{BuildRefusal}

-- a refusal of which this is so, a fault of the store, or want of memory
abbrev pub StopsBy : (Refusal → Type 0) → Type 0 → Stop → Type 0
StopsBy Refuses Failed (Refused r) = Refuses r
StopsBy Refuses Failed ReadFault = Failed
StopsBy Refuses Failed NoMemory = Unit {0}

abbrev pub NeverRefused : Refusal → Type 0
NeverRefused r = ⊥

-- what a fetch gives of what is told: all of it within the limit, or none where there is more
abbrev pub Fetched : Option (List ℕ) → ℕ → ℕ → ℕ → Result (Option (Vec ℕ Global)) Stop → Type 0
Fetched told limit before now (Ok (Some v)) = (length v.items ≤ limit) × IfSome told (λ held. v.items ≡ held)
Fetched told limit before now (Ok None) = IfSome told (λ held. limit < length held)
Fetched told limit before now (Err e) = StopsBy NeverRefused (Rose before now) e

-- the procedure that the files are together
pub record SourcesSpell (tells : List ℕ → Option (List ℕ)) (files : List (List ℕ)) (p : StraightLine) : Type 0 where
  pub contents : List (List ℕ)
  pub holds : EachAsTold tells files contents
  pub short : AllByRecursion IsShort (sources_from 0 files contents)
  pub spells : Spells (sources_from 0 files contents) p

-- the first refusal is one of the files, whatever the certificate holds
pub record SourcesRefused (tells : List ℕ → Option (List ℕ)) (files : List (List ℕ)) (r : Refusal) : Type 0 where
  pub contents : List (List ℕ)
  pub holds : EachAsTold tells files contents
  pub first : (name cert : List ℕ) → BuildRefusal (record { cert = name; files = files }) (record { sources = contents; cert = cert }) r

-- what a file holds, as is told of it where something is
pub record FileHolds (told : Option (List ℕ)) (Reads : List ℕ → Type 0) : Type 0 where
  pub held : List ℕ
  pub holds : IsAsTold told held
  pub reads : Reads held

-- the certificate isn't of the form
pub record CertificateRefusal (told : Option (List ℕ)) (cert name : List ℕ) (r : Refusal) : Type 0 where
  pub is : r ≡ refusal_of (NoCertificate cert)
  pub none : FileHolds told (λ c. (steps : List Pair) → Proves c name steps → ⊥)

-- the steps don't close the procedure's condition
pub record StepRefusal (program : StraightLine) (steps : List Pair) (cert : List ℕ) (r : Refusal) : Type 0 where
  pub is : r ≡ refusal_of (NoStep cert program.name)
  pub not_closed : ring_closes (condition_hyps program) (condition_goal program) steps ≡ false
