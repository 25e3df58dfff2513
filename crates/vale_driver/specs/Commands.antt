-- What commands refuse, and what they write where they refuse nothing.
use Rattle.std.specs.Prelude.{◌≡◌, ℕ, List, Option, Some}
use Rattle.vale_driver.specs.declared.status.Refusal.{Refusal}
use Rattle.vale_driver.specs.Words.{EvalWords, Command, Build, Read, Eval}
use Rattle.vale_driver.specs.Told.{IsAsTold}
use Rattle.vale_driver.specs.Builds.{BuildFiles, BuildHolds, BuildTold, BuildRefusal, IsBuilt}
use Rattle.vale_driver.specs.Texts.{TextRefused, IsReading, EvalRefused, IsReport}

-- what a command's files hold: sources and a certificate, a text, or a text and a state
pub record TextAndState : Type 0 where
  pub text : List ℕ
  pub state : List ℕ

abbrev pub Held : Command → Type 0
Held (Build b) = BuildFiles
Held (Read file) = List ℕ
Held (Eval e) = TextAndState

-- the files hold what is told of them, where something is
abbrev pub Holds : (List ℕ → Option (List ℕ)) → (c : Command) → Held c → Type 0
Holds tells (Build b) h = BuildHolds tells b h
Holds tells (Read file) text = IsAsTold (tells file) text
Holds tells (Eval e) h = IsAsTold (tells e.text) h.text × IsAsTold (tells e.state) h.state

-- all that they hold is told
abbrev pub TellsAll : (List ℕ → Option (List ℕ)) → (c : Command) → Held c → Type 0
TellsAll tells (Build b) h = BuildTold tells b h
TellsAll tells (Read file) text = tells file ≡ Some text
TellsAll tells (Eval e) h = (tells e.text ≡ Some h.text) × (tells e.state ≡ Some h.state)

-- the first refusal
abbrev pub FirstRefusal : (c : Command) → Held c → Refusal → Type 0
FirstRefusal (Build b) h r = BuildRefusal b h r
FirstRefusal (Read file) text r = TextRefused file text r
FirstRefusal (Eval e) h r = EvalRefused e h.text h.state r

-- the files hold what is told of them, and this is the first refusal
pub record IsRefused (tells : List ℕ → Option (List ℕ)) (c : Command) (r : Refusal) : Type 0 where
  pub held : Held c
  pub holds : Holds tells c held
  pub first : FirstRefusal c held r

-- What is written where nothing is refused: the text of a build, the listing of a text, or the report of a run.
pub record WritesReading (tells : List ℕ → Option (List ℕ)) (file out : List ℕ) : Type 0 where
  pub text : List ℕ
  pub holds : IsAsTold (tells file) text
  pub reading : IsReading text out

pub record WritesReport (tells : List ℕ → Option (List ℕ)) (e : EvalWords) (out : List ℕ) : Type 0 where
  pub held : TextAndState
  pub holds : Holds tells (Eval e) held
  pub report : IsReport e held.text held.state out

abbrev pub IsOutput : (List ℕ → Option (List ℕ)) → Command → List ℕ → Type 0
IsOutput tells (Build b) out = IsBuilt tells b out
IsOutput tells (Read file) out = WritesReading tells file out
IsOutput tells (Eval e) out = WritesReport tells e out
