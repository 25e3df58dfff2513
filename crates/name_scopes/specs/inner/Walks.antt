-- What the code holds, as the definitions speak of it, and what a walk answers.
use Rattle.std.specs.Prelude.{◌≡◌, Bool, true, not, Option, Some, None, Result, Ok, Err}
use Rattle.std.specs.Map.{lookup}
use Rattle.std.specs.Str.{bytes_eq}
use Rattle.vale_syntax.specs.Programs.{De, Export}
use Rattle.name_scopes.specs.declared.fault.Stop.{Stop}
use Rattle.name_scopes.specs.declared.fault.Stop.TheVariants as stop
use Rattle.name_scopes.specs.declared.globals.Globals.{Globals}
use Rattle.name_scopes.specs.declared.locals.Locals.{Locals}
use Rattle.name_scopes.specs.declared.scope.Scope.{Scope as AScope}
use Rattle.name_scopes.specs.Faults.{Fault, fault_at}
use Rattle.name_scopes.specs.Globals.{Table}
use Rattle.name_scopes.specs.Names.{Texts, Names, has}
use Rattle.name_scopes.specs.Expressions.{Scope}

abbrev pub table_of : Globals → Table
table_of g n = lookup (λ k. bytes_eq n k.now) g.table.entries

abbrev pub names : Locals → Names
names l = record { declared = l.declared; known = l.known }

abbrev pub view : AScope → Scope
view s = record { of = table_of s.globals.now; home = s.home }

-- what a walk that stops tells, where that is the fault, unless memory ran out
abbrev pub StopsAt : {A : Type 0} → Stop → Result A Fault → Type 0
StopsAt (stop.Fault s c) r = r ≡ Err (fault_at s c)
StopsAt stop.NoMemory r = Unit {0}

-- a walk that ends knows the names behind its part
abbrev pub Walks : Result Unit Stop → Names → Result Names Fault → Type 0
Walks (Ok x) after r = r ≡ Ok after
Walks (Err e) after r = StopsAt e r

abbrev pub IsFault : Stop → Option Fault → Type 0
IsFault (stop.Fault s c) o = o ≡ Some (fault_at s c)
IsFault stop.NoMemory o = Unit {0}

-- a part of which nothing but its fault is asked
abbrev pub Judges : {A : Type 0} → Result A Stop → Option Fault → Type 0
Judges (Ok x) o = o ≡ None
Judges (Err e) o = IsFault e o

-- an export's name is none of those
abbrev pub is_new_export : Texts → De → Bool
is_new_export exports (Export p n q a) = not (has exports n.text)
is_new_export exports d = true
