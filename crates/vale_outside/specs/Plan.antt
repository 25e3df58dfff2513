-- What objects in memory hold, and which of their calls fail.
use Rattle.std.specs.Prelude.{ℕ, Bool, ◌==◌, ◌||◌, is_none, List, ◌∷◌, [], Option, Some, None, if◌then◌else◌}
use Rattle.std.specs.List.{list_any}
use Rattle.std.specs.Str.{bytes_eq}
use Rattle.vale_outside.specs.Outside.{next_count}

-- the numbers of the calls that are to fail, how many calls there were, and how many failed
pub record Plan : Type 0 where
  pub failing : List ℕ
  pub calls : ℕ
  pub faults : ℕ

abbrev pub no_plan : Plan
no_plan = record { failing = []; calls = 0; faults = 0 }

-- the next call is to fail
abbrev pub next_fails : Plan → Bool
next_fails p = list_any (λ call. call == next_count p.calls) p.failing

-- the plan after one more call: one call more is counted, and one fault more where it failed
abbrev pub after_call : Plan → Bool → Plan
after_call p failed = record {
  failing = p.failing;
  calls = next_count p.calls;
  faults = if failed then next_count p.faults else p.faults;
}

-- the plan with one more call that is to fail
abbrev pub with_failing : Plan → ℕ → Plan
with_failing p call = record { failing = call ∷ p.failing; calls = p.calls; faults = p.faults }

-- a file's name and its bytes
pub record File : Type 0 where
  pub name : List ℕ
  pub bytes : List ℕ

-- what the first file of a name holds
abbrev pub file_bytes : List File → List ℕ → Option (List ℕ)
file_bytes [] name = None
file_bytes (f ∷ fs) name = if bytes_eq f.name name then Some f.bytes else file_bytes fs name

-- the files of a store in memory, and its plan
pub record Files : Type 0 where
  pub files : List File
  pub plan : Plan

-- the next call is to fail, or no file has the name
abbrev pub fetch_fails : Files → List ℕ → Bool
fetch_fails s name = next_fails s.plan || is_none (file_bytes s.files name)

-- the files after a fetch of a name: all stay, and the call is counted, with its fault where it fails
abbrev pub after_fetch : Files → List ℕ → Files
after_fetch s name = record { files = s.files; plan = after_call s.plan (fetch_fails s name) }

-- the bytes that a sink in memory was given, and its plan
pub record Bytes : Type 0 where
  pub bytes : List ℕ
  pub plan : Plan
