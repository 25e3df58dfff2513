-- The first fault of several parts, in the order of their tokens.
use Rattle.std.specs.Prelude.{Bool, true, false, Option, Some, None, Result, Ok, Err}
use Rattle.vale_syntax.specs.declared.spot.Spot.{Spot}
use Rattle.name_scopes.specs.declared.fault.ScopeFault.{ScopeFault}
use Rattle.name_scopes.specs.declared.fault.ScopeFault.TheVariants.{Twice}

-- where a fault stands, and what it is
pub record Fault : Type 0 where
  pub spot : Spot
  pub cause : ScopeFault

abbrev pub fault_at : Spot → ScopeFault → Fault
fault_at s c = record { spot = s; cause = c }

-- the fault of the first part, or else that of the second
infixr 10 ◌<|>◌
abbrev pub ◌<|>◌ : {F : Type 0} → Option F → Option F → Option F
(Some f) <|> g = Some f
None <|> g = g

-- what a name's rule says, told at the name
abbrev pub told_at : Spot → Option ScopeFault → Option Fault
told_at s None = None
told_at s (Some c) = Some (fault_at s c)

-- what may stand once, and stands again
abbrev pub once : Bool → Spot → Option Fault
once false s = None
once true s = Some (fault_at s Twice)

-- A part has a fault, or something is known behind it. Behind a part without a fault this is known:
abbrev pub unless : {A : Type 0} → Option Fault → A → Result A Fault
unless (Some f) x = Err f
unless None x = Ok x

-- the next part begins with what is known behind the first
infixl 10 ◌>>=◌
abbrev pub ◌>>=◌ : {A B : Type 0} → Result A Fault → (A → Result B Fault) → Result B Fault
(Ok x) >>= f = f x
(Err e) >>= f = Err e

-- the fault alone
abbrev pub fault_of : {A : Type 0} → Result A Fault → Option Fault
fault_of (Ok x) = None
fault_of (Err f) = Some f
