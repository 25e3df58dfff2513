-- Assignments that agree with what is known.
use Rattle.std.specs.Prelude.{◌≡◌, ℕ, List, Bool, true, Some}
use Rattle.x64_syntax.specs.declared.type_words.Sort.{Sort}
use Rattle.term_core.specs.Value.{Val, Assignment, cast}
use Rattle.term_core.specs.Literals.{Known}

-- an assignment gives each known name that p accepts, read as a value of its sort, its known value
abbrev pub Agrees : (List ℕ → Sort → Bool) → Known → Assignment → Type 0
Agrees p known a = (text : List ℕ) (s : Sort) (v : Val) → p text s ≡ true → known text s ≡ Some v → v ≡ cast s (a text s)
