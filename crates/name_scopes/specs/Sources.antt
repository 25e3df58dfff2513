-- The first fault of whole sources.
use Rattle.std.specs.Prelude.{◌≡◌, ℕ, ◌+◌, List, [], ◌∷◌, ◌++◌, Option, Some, None, Result, Ok, Err}
use Rattle.vale_syntax.specs.declared.fault.Spotted.{Spotted}
use Rattle.vale_syntax.specs.declared.fault.Spotted.TheVariants.{Refused, NoMemory}
use Rattle.vale_syntax.specs.declared.spot.Spot.{Spot}
use Rattle.vale_syntax.specs.Programs.{De, Procedure, Lemma, Function, Export}
use Rattle.name_scopes.specs.declared.fault.ScopeFault.{ScopeFault}
use Rattle.name_scopes.specs.declared.fault.ScopeFault.TheVariants.{NoExport}
use Rattle.name_scopes.specs.Faults.{Fault, ◌<|>◌}
use Rattle.name_scopes.specs.Globals.{name_of, Table, declared}
use Rattle.name_scopes.specs.Names.{Texts}
use Rattle.name_scopes.specs.Declarations.{decl_fault}

-- the name of the declaration that is at fault, and the fault's place and kind
pub record Refusal : Type 0 where
  pub who : List ℕ
  pub spot : Spot
  pub cause : ScopeFault

abbrev pub refused : List ℕ → Option Fault → Option Refusal
refused who None = None
refused who (Some f) = Some (record { who = who; spot = f.spot; cause = f.cause })

abbrev pub no_spot : Spot
no_spot = record { file = 0; at = 0 }

-- at the end, that no export stood
abbrev pub no_export : Texts → Option Refusal
no_export [] = Some (record { who = []; spot = no_spot; cause = NoExport })
no_export (n ∷ ns) = None

abbrev pub with_export : Texts → De → Texts
with_export exports (Export p n q a) = exports ++ n.text ∷ []
with_export exports d = exports

-- the names of exports
unfoldable pub export_names : List De → Texts
export_names [] = []
export_names (Procedure p n ps cs b ∷ ds) = export_names ds
export_names (Lemma p n bs cs b ∷ ds) = export_names ds
export_names (Function p n bs t z x ∷ ds) = export_names ds
export_names (Export p n q a ∷ ds) = n.text ∷ export_names ds

-- declarations that are numbered from k on, behind exports of those names
unfoldable pub decls_fault : Table → Texts → ℕ → List De → Option Refusal
decls_fault of exports k [] = no_export exports
decls_fault of exports k (d ∷ ds) = refused (name_of d).text (decl_fault of exports k d) <|> decls_fault of (with_export exports d) (k + 1) ds

-- the first fault of declarations, in the order of their tokens; the names of all files are those of all declarations
unfoldable pub first_fault : List De → Option Refusal
first_fault ds = decls_fault (declared ds) [] 0 ds

-- each name is bound by the rules
abbrev pub IsScoped : List De → Type 0
IsScoped ds = first_fault ds ≡ None

-- what is answered: nothing is at fault, or exactly the first fault is told, unless memory ran out
abbrev pub Tells : {A : Type 0} → Result A (Spotted ScopeFault) → Option Refusal → Type 0
Tells (Ok x) o = o ≡ None
Tells (Err (Refused who s c)) o = o ≡ Some (record { who = who; spot = s; cause = c })
Tells (Err NoMemory) o = Unit {0}
