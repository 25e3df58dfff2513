-- Texts and the things that have them as names.
use Rattle.std.specs.Prelude.{ℕ, List, Bool, Option, option_map}
use Rattle.std.specs.List.{find, list_any}
use Rattle.std.specs.Str.{bytes_eq, str_eq_ignore_ascii_case}
use Rattle.x64_syntax.specs.declared.words.Case.{Case}
use Rattle.x64_syntax.specs.declared.words.Case.TheVariants.{Exact, Ignored}

-- the first of several that has the name
abbrev pub first_of_name : {A : Type 0} → (A → List ℕ) → List A → List ℕ → Option A
first_of_name name_of all name = find (λ x. bytes_eq (name_of x) name) all

-- what stands beside the name in a table
abbrev pub table_value : {A : Type 0} → List (List ℕ × A) → List ℕ → Option A
table_value rows name = option_map (λ r. r.1) (first_of_name (λ r. r.0) rows name)

-- the same text, or the same but for the case of its letters
abbrev pub same_text : Case → List ℕ → List ℕ → Bool
same_text Exact a b = bytes_eq a b
same_text Ignored a b = str_eq_ignore_ascii_case a b

-- one of several has the name
abbrev pub some_has_name : {A : Type 0} → Case → (A → List ℕ) → List A → List ℕ → Bool
some_has_name case name_of all name = list_any (λ x. same_text case (name_of x) name) all
