-- The names of a declaration's own, and what a name is bound to.
use Rattle.std.specs.Prelude.{ℕ, Bool, ◌||◌, List, [], ◌∷◌, ◌++◌, codes, Option, Some, None, is_some, if◌then◌else◌}
use Rattle.std.specs.List.{list_any}
use Rattle.std.specs.Str.{bytes_eq}
use Rattle.x64_syntax.specs.Places.{reg_of, xmm_of, flag_of}
use Rattle.x64_syntax.specs.Words.{is_reserved_name}
use Rattle.name_scopes.specs.declared.fault.ScopeFault.{ScopeFault}
use Rattle.name_scopes.specs.declared.fault.ScopeFault.TheVariants.{Reserved, Twice}
use Rattle.name_scopes.specs.declared.globals.GlobalDecl.{GlobalDecl}
use Rattle.name_scopes.specs.declared.binding.Binding.{Binding}
use Rattle.name_scopes.specs.declared.binding.Binding.TheVariants.{Place, AllFlags, Local, Global, Nothing}
use Rattle.name_scopes.specs.Globals.{Table}

-- the texts of names, in the order in which they came
abbrev pub Texts : Type 0
Texts = List (List ℕ)

abbrev pub has : Texts → List ℕ → Bool
has ts n = list_any (λ t. bytes_eq n t) ts

-- the parameters and `ghost` variables so far, and what is known of them and of names bound by `forall` where one stands
pub record Names : Type 0 where
  pub declared : Texts
  pub known : Texts

abbrev pub no_names : Names
no_names = record { declared = []; known = [] }

abbrev pub with_name : Names → List ℕ → Names
with_name names n = record { declared = names.declared ++ n ∷ []; known = names.known ++ n ∷ [] }

-- what a name may not be declared as, where those are taken
abbrev pub new_name : Bool → List ℕ → Option ScopeFault
new_name is_taken n = if is_reserved_name n then Some Reserved else if is_taken then Some Twice else None

-- a parameter or a `ghost` variable repeats none of its declaration, and no name of all files
abbrev pub own_name : Table → Names → List ℕ → Option ScopeFault
own_name of names n = new_name (has names.declared n || (has names.known n || is_some (of n))) n

-- a name that `forall` binds repeats none that is known, and no name of all files
abbrev pub bound_name : Table → Texts → List ℕ → Option ScopeFault
bound_name of known n = new_name (has known n || is_some (of n)) n

-- the name of a register, an xmm register or a flag
abbrev pub is_place_name : List ℕ → Bool
is_place_name n = is_some (reg_of n) || (is_some (xmm_of n) || is_some (flag_of n))

abbrev pub global_binding : Option GlobalDecl → Binding
global_binding None = Nothing
global_binding (Some g) = Global g

-- what a name is bound to, where those names are known; the machine's places come first
abbrev pub binding : Table → Texts → List ℕ → Binding
binding of known n =
    if is_place_name n then Place
    else if bytes_eq n (codes "flags") then AllFlags
    else if has known n then Local
    else global_binding (of n)
