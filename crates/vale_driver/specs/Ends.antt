-- How a run of the program ends.
use Rattle.std.specs.Prelude.{◌≡◌, ℕ, List, Option, Some, None, IsSome, IsTrue, IfSome, Bool, ◌⊎◌}
use Rattle.std.specs.List.{AllByRecursion}
use Rattle.vale_outside.specs.Outside.{Rose, Appends, AppendsFront}
use Rattle.vale_driver.specs.declared.status.Refusal.{Refusal}
use Rattle.vale_driver.specs.declared.status.Status.{Status}
use Rattle.vale_driver.specs.declared.status.Status.TheVariants.{Done, Refused, Usage, ReadFault, WriteFault, NoMemory}
use Rattle.vale_driver.specs.Words.{Command, files_of}
use Rattle.vale_driver.specs.Commands.{Held, TellsAll, FirstRefusal, IsRefused, IsOutput}
use Rattle.vale_driver.specs.Lines.{refusal_line, usage_line, read_fault_line}

-- What a store tells of its files, and its counts of faults before and after.
pub record Files : Type 0 where
  pub tells : List ℕ → Option (List ℕ)
  pub before : ℕ
  pub after : ℕ

abbrev pub files : (List ℕ → Option (List ℕ)) → ℕ → ℕ → Files
files tells before after = record { tells = tells; before = before; after = after }

-- What a stream told before and tells now, and its counts of faults before and after.
pub record Stream : Type 0 where
  pub told : Option (List ℕ)
  pub tells : Option (List ℕ)
  pub before : ℕ
  pub after : ℕ

abbrev pub stream : Option (List ℕ) → Option (List ℕ) → ℕ → ℕ → Stream
stream told tells before after = record { told = told; tells = tells; before = before; after = after }

-- nothing was written
abbrev pub IsSilent : Stream → Type 0
IsSilent s = s.tells ≡ s.told

-- the text was written, or a front of it
abbrev pub Takes : Stream → List ℕ → Type 0
Takes s text = Appends s.told s.tells text

abbrev pub TakesFront : Stream → List ℕ → Type 0
TakesFront s text = AppendsFront s.told s.tells text

-- a call failed
abbrev pub Fails : Stream → Type 0
Fails s = Rose s.before s.after

abbrev pub StoreFails : Files → Type 0
StoreFails f = Rose f.before f.after

-- the files that the words name may all be asked for
abbrev pub MayAsk : (List ℕ → Bool) → Option Command → Type 0
MayAsk may_ask form = IfSome form (λ c. AllByRecursion (λ f. IsTrue (may_ask f)) (files_of c))

-- the words ask for a command, of which this is so
abbrev pub Asks : Option Command → (Command → Type 0) → Type 0
Asks None P = ⊥
Asks (Some c) P = P c

-- the output of the command, of which this is so
pub record SomeOutput (f : Files) (c : Command) (P : List ℕ → Type 0) : Type 0 where
  pub text : List ℕ
  pub output : IsOutput f.tells c text
  pub so : P text

-- the line of a refusal
pub record IsRefusalLine (f : Files) (c : Command) (line : List ℕ) : Type 0 where
  pub refusal : Refusal
  pub refused : IsRefused f.tells c refusal
  pub is : line ≡ refusal_line refusal

-- the line of a refusal, a usage line, or the line of a read fault
abbrev pub IsLine : Option Command → Files → List ℕ → Type 0
IsLine None f line = line ≡ usage_line
IsLine (Some c) f line = IsRefusalLine f c line ⊎ (StoreFails f × (line ≡ read_fault_line))

-- a front of such a line was written
pub record SaidFront (form : Option Command) (f : Files) (err : Stream) : Type 0 where
  pub line : List ℕ
  pub is_line : IsLine form f line
  pub front : TakesFront err line

-- `out` failed within the output, or `err` within the line
abbrev pub IsUnwritten : Option Command → Files → Stream → Stream → Type 0
IsUnwritten form f out err =
    (Fails out × (Asks form (λ c. SomeOutput f c (TakesFront out)) × IsSilent err)) ⊎ (Fails err × (SaidFront form f err × IsSilent out))

-- What is known after each answer: of the words, of what the store tells, and of what was written to `out` and `err`.
abbrev pub Ends : Option Command → Files → Stream → Stream → Status → Type 0
Ends form f out err Done = Asks form (λ c. SomeOutput f c (Takes out)) × IsSilent err
Ends form f out err (Refused r) = Asks form (λ c. IsRefused f.tells c r) × (Takes err (refusal_line r) × IsSilent out)
Ends form f out err Usage = (form ≡ None) × (Takes err usage_line × IsSilent out)
Ends form f out err ReadFault = IsSome form × (StoreFails f × (Takes err read_fault_line × IsSilent out))
Ends form f out err WriteFault = IsUnwritten form f out err
Ends form f out err NoMemory = IsSome form × (IsSilent out × IsSilent err)

-- no call failed
pub record IsQuiet (f : Files) (out err : Stream) : Type 0 where
  pub store : StoreFails f → ⊥
  pub output : Fails out → ⊥
  pub line : Fails err → ⊥

-- The answer where no call failed: Usage exactly where the words are no command, and where the store tells all that the
-- files hold, the first refusal where there is one, and else Done; but for want of memory.
pub record IsExact (form : Option Command) (f : Files) (status : Status) : Type 0 where
  pub usage : form ≡ None → status ≡ Usage
  pub refused : (c : Command) (h : Held c) (r : Refusal) → form ≡ Some c → TellsAll f.tells c h → FirstRefusal c h r → (status ≡ Refused r) ⊎ (status ≡ NoMemory)
  pub done : (c : Command) (h : Held c) → form ≡ Some c → TellsAll f.tells c h → ((r : Refusal) → FirstRefusal c h r → ⊥) → (status ≡ Done) ⊎ (status ≡ NoMemory)

abbrev pub Exactly : Option Command → Files → Stream → Stream → Status → Type 0
Exactly form f out err status = IsQuiet f out err → IsExact form f status
