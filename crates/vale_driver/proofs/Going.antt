-- What the loops over instructions and source files keep.
use Rattle.std.proofs.Common.{◌≡◌, ℕ, ◌≤◌, true, List, Option, ◌++◌, map}
use Rattle.std.specs.List.{AllByRecursion, list_all}
use Rattle.x64_syntax.specs.declared.places.MachinePlace.{MachinePlace}
use Rattle.x64_syntax.specs.declared.instructions.Ins.{Ins}
use Rattle.term_core.specs.Terms.{Tm}
use Rattle.x64_meaning.specs.Condition.{Versions, hypotheses, straight_hyps, first_versions, end_versions}
use Rattle.vale_syntax.specs.Programs.{De}
use Rattle.vale_driver.specs.declared.status.Refusal.{Refusal}
use Rattle.vale_driver.specs.declared.sources.Source.{Source as AFile}
use Rattle.vale_driver.specs.declared.sources.Scanned.{Scanned}
use Rattle.vale_driver.specs.Sources.{Source, sources_from, FirstOf, IsShort, HasTokens, LacksToken}
use Rattle.vale_driver.specs.Told.{EachAsTold}
use Rattle.vale_driver.specs.inner.ConditionTerms.{is_built}
use Rattle.vale_driver.specs.inner.Phases.{source_views, scan, scan_view, Parsed, Parses, Unparsed}

-- The equations so far, and those of what is left, are those of all. Each place was written at most once by each
-- instruction.
pub record Hypotheses (old new : List Tm) (v : Versions) (k : ℕ) (rest all : List Ins) : Type 0 where
  pub hyps : new ++ hypotheses v rest ≡ old ++ straight_hyps all
  pub last : end_versions v rest ≡ end_versions first_versions all
  pub few : (p : MachinePlace) → v p ≤ k
  pub built : list_all is_built rest ≡ true

abbrev pub bytes_of : List AFile → List (List ℕ)
bytes_of ss = map (λ s. s.bytes.items) ss

-- The files so far hold what is told of them, in front of whatever the rest holds.
pub record Fetching (tells : List ℕ → Option (List ℕ)) (sources : List AFile) (k : ℕ) (rest all : List (List ℕ)) : Type 0 where
  pub holds : (cs : List (List ℕ)) → EachAsTold tells rest cs → EachAsTold tells all (bytes_of sources ++ cs)
  pub are : (cs : List (List ℕ)) → sources_from 0 all (bytes_of sources ++ cs) ≡ source_views sources ++ sources_from k rest cs
  pub short : AllByRecursion IsShort (source_views sources)

-- The files so far have their tokens: the first of the rest that is refused is the first of all.
pub record Scanning (scanned : List Scanned) (rest all : List Source) : Type 0 where
  pub kept_all : map scan_view scanned ++ map scan rest ≡ map scan all
  pub short : AllByRecursion IsShort rest
  pub first : (r : Refusal) → FirstOf HasTokens LacksToken rest r → FirstOf HasTokens LacksToken all r

-- The declarations so far are those of the files so far: the first of the rest that is refused is the first of all.
pub record Parsing (decls : List De) (rest all : List Scanned) : Type 0 where
  pub parsed : (more : List De) → Parsed rest more → Parsed all (decls ++ more)
  pub first : (r : Refusal) → FirstOf Parses Unparsed rest r → FirstOf Parses Unparsed all r
