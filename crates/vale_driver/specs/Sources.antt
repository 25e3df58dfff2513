-- What source files give, phase by phase over all files: their sizes, their tokens, their declarations.
use Rattle.std.specs.Prelude.{◌≡◌, ◌⊎◌, ℕ, ◌+◌, ◌<◌, ◌≤◌, List, [], ◌∷◌, ◌++◌, length, Option, Some, None}
use Rattle.std.specs.List.{AllByRecursion}
use Rattle.vale_syntax.specs.declared.spot.Spot.{Spot}
use Rattle.vale_syntax.specs.declared.token.Token.{Token}
use Rattle.vale_syntax.specs.declared.token.NotAToken.{NotAToken}
use Rattle.vale_syntax.specs.Tokens.{tokens_from, All, Nothing}
use Rattle.vale_syntax.specs.Programs.{De}
use Rattle.vale_syntax.specs.Declarations.{AreDecls}
use Rattle.vale_parser.specs.Sources.{StopsAt}
use Rattle.straight_line.specs.declared.form.StraightLine.{StraightLine}
use Rattle.straight_line.specs.Form.{straight_line}
use Rattle.vale_driver.specs.declared.status.Refusal.{Refusal}
use Rattle.vale_driver.specs.Limits.{source_limit}
use Rattle.vale_driver.specs.Causes.{refusal_of}
use Rattle.vale_driver.specs.Causes as cause

-- a source file: its number, its name and its bytes
pub record Source : Type 0 where
  pub number : ℕ
  pub name : List ℕ
  pub bytes : List ℕ

-- names and what the files hold, numbered from k on
abbrev pub sources_from : ℕ → List (List ℕ) → List (List ℕ) → List Source
sources_from k (n ∷ ns) (c ∷ cs) = record { number = k; name = n; bytes = c } ∷ sources_from (k + 1) ns cs
sources_from k _ _ = []

-- The first in a list that is refused: those before it pass.
abbrev pub FirstOf : {A : Type 0} → (A → Type 0) → (A → Refusal → Type 0) → List A → Refusal → Type 0
FirstOf Passes IsRefused [] r = ⊥
FirstOf Passes IsRefused (x ∷ xs) r = IsRefused x r ⊎ (Passes x × FirstOf Passes IsRefused xs r)

-- A phase over all of a list: the first that doesn't pass is refused, or all pass and a later phase refuses.
pub data Phase {A : Type 0} (Passes : A → Type 0) (IsRefused : A → Refusal → Type 0) (xs : List A) (Later : Refusal → Type 0) (r : Refusal) : Type 0 where
  now : FirstOf Passes IsRefused xs r → Phase Passes IsRefused xs Later r
  later : AllByRecursion Passes xs → Later r → Phase Passes IsRefused xs Later r

-- sizes
abbrev pub IsShort : Source → Type 0
IsShort s = length s.bytes ≤ source_limit

pub record IsTooLong (s : Source) (r : Refusal) : Type 0 where
  pub long : source_limit < length s.bytes
  pub is : r ≡ refusal_of (cause.TooLong s.name)

-- tokens
pub record HasTokens (s : Source) : Type 0 where
  pub tokens : List Token
  pub all : tokens_from s.number 0 0 s.bytes ≡ All tokens

pub record LacksToken (s : Source) (r : Refusal) : Type 0 where
  pub why : NotAToken
  pub at : ℕ
  pub nothing : tokens_from s.number 0 0 s.bytes ≡ Nothing why at
  pub is : r ≡ refusal_of (cause.NoToken s.name at why)

-- declarations
pub record HasDecls (s : Source) (decls : List De) : Type 0 where
  pub tokens : List Token
  pub all : tokens_from s.number 0 0 s.bytes ≡ All tokens
  pub are : AreDecls tokens decls

abbrev pub IsRead : Source → Type 0
IsRead s = (decls : List De) × HasDecls s decls

pub record LacksDeclaration (s : Source) (r : Refusal) : Type 0 where
  pub tokens : List Token
  pub all : tokens_from s.number 0 0 s.bytes ≡ All tokens
  pub first : Spot
  pub stops : StopsAt tokens first
  pub is : r ≡ refusal_of (cause.NoDeclaration s.name first.at)

-- the declarations of all files, one file behind the other
abbrev pub Declared : List Source → List De → Type 0
Declared [] decls = decls ≡ []
Declared (s ∷ ss) decls = (xs : List De) × (ys : List De) × HasDecls s xs × Declared ss ys × (decls ≡ xs ++ ys)

-- the procedure of the form that the sources are together
pub record Spells (ss : List Source) (p : StraightLine) : Type 0 where
  pub decls : List De
  pub declared : Declared ss decls
  pub is_form : straight_line decls ≡ Some p

-- The sources are together of no form that is built. The refusal names the first file.
pub record AreNoForm (file : Option (List ℕ)) (ss : List Source) (r : Refusal) : Type 0 where
  pub decls : List De
  pub declared : Declared ss decls
  pub none : straight_line decls ≡ None
  pub is : r ≡ refusal_of (cause.NoForm file)

-- a refusal by one of the phases, or by what comes after them
abbrev pub Phases : List Source → (Refusal → Type 0) → Refusal → Type 0
Phases ss Later r = Phase IsShort IsTooLong ss (Phase HasTokens LacksToken ss (Phase IsRead LacksDeclaration ss Later)) r
