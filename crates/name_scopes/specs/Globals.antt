-- The names that procedures, lemmas and functions share over all files.
use Rattle.std.specs.Prelude.{ℕ, ◌+◌, List, [], ◌∷◌, Option, Some, None, option_map, if◌then◌else◌}
use Rattle.std.specs.Str.{bytes_eq}
use Rattle.vale_syntax.specs.declared.expr.Name.{Name}
use Rattle.vale_syntax.specs.Programs.{De, Procedure, Lemma, Function, Export}
use Rattle.name_scopes.specs.declared.globals.GlobalKind.{GlobalKind}
use Rattle.name_scopes.specs.declared.globals.GlobalKind.TheVariants as kind
use Rattle.name_scopes.specs.declared.globals.GlobalDecl.{GlobalDecl}
use Rattle.name_scopes.specs.Faults.{◌<|>◌}

-- the name that a declaration gives
abbrev pub name_of : De → Name
name_of (Procedure s n ps cs b) = n
name_of (Lemma s n bs cs b) = n
name_of (Function s n bs t z x) = n
name_of (Export s n p a) = n

-- what it is declared as; the names of exports are apart
abbrev pub kind_of : De → Option GlobalKind
kind_of (Procedure s n ps cs b) = Some kind.Procedure
kind_of (Lemma s n bs cs b) = Some kind.Lemma
kind_of (Function s n bs t z x) = Some kind.Function
kind_of (Export s n p a) = None

-- the declaration of number k, where it declares the name
abbrev pub declares : ℕ → De → List ℕ → Option GlobalDecl
declares k d n = if bytes_eq n (name_of d).text then option_map (λ t. record { kind = t; number = k }) (kind_of d) else None

-- the first that declares the name, of declarations that are numbered from k on
unfoldable pub declared_from : ℕ → List De → List ℕ → Option GlobalDecl
declared_from k [] n = None
declared_from k (d ∷ ds) n = declares k d n <|> declared_from (k + 1) ds n

-- What names stand for: each for its first declaration, in whichever file and however late.
abbrev pub Table : Type 0
Table = List ℕ → Option GlobalDecl

abbrev pub declared : List De → Table
declared ds = declared_from 0 ds
