-- What each kind of declaration may name, and where.
use Rattle.std.specs.Prelude.{ℕ, Bool, true, false, nat_lt, nat_le, Option, Some, None, if◌then◌else◌}
use Rattle.name_scopes.specs.declared.fault.ScopeFault.{ScopeFault}
use Rattle.name_scopes.specs.declared.fault.ScopeFault.TheVariants.{Unknown, NotBefore}
use Rattle.name_scopes.specs.declared.globals.GlobalKind.{GlobalKind}
use Rattle.name_scopes.specs.declared.globals.GlobalKind.TheVariants as kind
use Rattle.name_scopes.specs.declared.home.Home.{Home}
use Rattle.name_scopes.specs.declared.home.Home.TheVariants as home
use Rattle.name_scopes.specs.declared.binding.Binding.{Binding}
use Rattle.name_scopes.specs.declared.binding.Binding.TheVariants.{Place, AllFlags, Local, Global, Nothing}

-- registers, xmm registers and flags stand in procedures and in an export's arguments
abbrev pub knows_places : Home → Bool
knows_places home.Procedure = true
knows_places (home.Lemma k) = false
knows_places (home.Function k) = false
knows_places home.Export = true

-- A procedure's expressions name every function. A lemma names every function, the earlier lemmas and itself; a function
-- the earlier functions; an export every procedure. The numbers are those of the declarations that they stand in.
abbrev pub may_name : Home → GlobalKind → ℕ → Bool
may_name home.Procedure kind.Function n = true
may_name home.Procedure _ n = false
may_name (home.Lemma k) kind.Function n = true
may_name (home.Lemma k) kind.Lemma n = nat_le n k
may_name (home.Lemma k) kind.Procedure n = false
may_name (home.Function k) kind.Function n = nat_lt n k
may_name (home.Function k) _ n = false
may_name home.Export kind.Procedure n = true
may_name home.Export _ n = false

-- a procedure's statements call every procedure and lemma
abbrev pub is_called : GlobalKind → Bool
is_called kind.Procedure = true
is_called kind.Lemma = true
is_called kind.Function = false

abbrev pub before : Bool → Option ScopeFault
before true = None
before false = Some NotBefore

-- a name that stands alone in an expression
abbrev pub alone : Home → Binding → Option ScopeFault
alone h Place = if knows_places h then None else Some Unknown
alone h AllFlags = Some Unknown
alone h Local = None
alone h (Global g) = before (may_name h g.kind g.number)
alone h Nothing = Some Unknown

-- a name before a round bracket, where it is no operator of the language, and the name behind an export's `=`
abbrev pub called : Home → Binding → Option ScopeFault
called h (Global g) = before (may_name h g.kind g.number)
called h _ = Some Unknown

-- a name before the round bracket of a procedure's statement, where it is no instruction
abbrev pub called_by_procedure : Binding → Option ScopeFault
called_by_procedure (Global g) = before (is_called g.kind)
called_by_procedure _ = Some Unknown

-- a name in `reads` or `modifies`
abbrev pub listed : Binding → Option ScopeFault
listed (Global g) = Some NotBefore
listed Nothing = Some Unknown
listed _ = None

-- a name before `[ ] @` or before `:=`
abbrev pub accessed : Binding → Option ScopeFault
accessed AllFlags = Some Unknown
accessed b = listed b
