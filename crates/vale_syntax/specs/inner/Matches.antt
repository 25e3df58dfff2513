-- What a function that looks for something answers, held against what is there.
use Rattle.std.specs.Prelude.{◌≡◌, Option, Some, None, Result, Ok, Err}
use Rattle.vale_syntax.specs.declared.fault.MatchFault.{MatchFault}
use Rattle.vale_syntax.specs.declared.fault.MatchFault.TheVariants.{NoMatch, NoMemory}

abbrev pub Fails : {Y : Type 0} → MatchFault → Option Y → Type 0
Fails NoMatch o = o ≡ None
Fails NoMemory o = Unit {0}

-- what was returned is what is there, unless memory ran out
abbrev pub Gives : {X Y : Type 0} → (X → Y) → Result X MatchFault → Option Y → Type 0
Gives view (Ok x) o = o ≡ Some (view x)
Gives view (Err e) o = Fails e o
