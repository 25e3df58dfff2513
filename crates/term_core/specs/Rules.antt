-- The rules that functions obey.
use Rattle.std.specs.Prelude.{ℕ, ◌-◌, List, length, slice_get, [], ◌∷◌, ◌++◌, Bool, true, not, ◌&&◌, ◌||◌, Option, Some, None, is_none, codes, if◌then◌else◌}
use Rattle.std.specs.List.{list_any}
use Rattle.std.specs.Str.{bytes_eq}
use Rattle.x64_syntax.specs.declared.type_words.Sort.{Sort}
use Rattle.x64_syntax.specs.declared.type_words.Sort.TheVariants as sort
use Rattle.x64_syntax.specs.Words.{built_in_of}
use Rattle.term_core.specs.declared.functions.Variable.{Variable}
use Rattle.term_core.specs.declared.functions.BrokenRule.{BrokenRule}
use Rattle.term_core.specs.declared.functions.BrokenRule.TheVariants.{BuiltIn, NameTwice, ParamTwice, ParamPrev, LastParam, Sorts, FreeName}
use Rattle.term_core.specs.Operators.{sort_eq}
use Rattle.term_core.specs.Terms.{Tm, Tms, Name, Int, W64, W128, TruthTerm, Un, Bin, Ite, Put, PutDword, Clmul, Shift, Call, All, no_tms, more_tms}
use Rattle.term_core.specs.Functions.{Function}
use Rattle.term_core.specs.Sorted.{is_sorted, is_of_sort}

-- the name with the sort is that variable
abbrev pub is_variable : Variable → List ℕ → Sort → Bool
is_variable v text s = bytes_eq v.name text && sort_eq v.sort s

-- the name with the sort is what a quantifier over that name binds
abbrev pub is_bound : List ℕ → List ℕ → Sort → Bool
is_bound name text s = bytes_eq name text && sort_eq sort.Int s

abbrev mutual
  -- each free variable of a term is one of those
  pub free_all : (List ℕ → Sort → Bool) → Tm → Bool
  free_all p (Name text s) = p text s
  free_all p (Int z) = true
  free_all p (W64 n) = true
  free_all p (W128 n) = true
  free_all p (TruthTerm b) = true
  free_all p (Un op t) = free_all p t
  free_all p (Bin op t u) = free_all p t && free_all p u
  free_all p (Ite c t u) = free_all p c && (free_all p t && free_all p u)
  free_all p (Put x i w) = free_all p x && (free_all p i && free_all p w)
  free_all p (PutDword x j w) = free_all p x && (free_all p j && free_all p w)
  free_all p (Clmul t u n) = free_all p t && free_all p u
  free_all p (Shift op n t) = free_all p t
  free_all p (Call k s args) = all_free_all p args
  free_all p (All name low high body) =
      free_all p low && (free_all p high && free_all (λ text s. is_bound name text s || p text s) body)

  pub all_free_all : (List ℕ → Sort → Bool) → Tms → Bool
  all_free_all p no_tms = true
  all_free_all p (more_tms t ts) = free_all p t && all_free_all p ts

-- the name of the value at one less
abbrev pub prev : List ℕ
prev = codes "prev"

abbrev pub has_name : List ℕ → Variable → Bool
has_name name v = bytes_eq v.name name

-- no two have one name
abbrev pub names_differ : List Variable → Bool
names_differ [] = true
names_differ (v ∷ vs) = not (list_any (has_name v.name) vs) && names_differ vs

-- the last one is a number
abbrev pub last_is_number : List Variable → Bool
last_is_number vs = is_of_sort sort.Int (slice_get vs (length vs - 1))

abbrev pub holds_of : {A : Type 0} → (A → Bool) → Option A → Bool
holds_of p None = true
holds_of p (Some x) = p x

abbrev pub is_param : Function → List ℕ → Sort → Bool
is_param f text s = list_any (λ v. is_variable v text s) f.params

-- a parameter, or, in the body of a function that has a zero part, `prev`
abbrev pub is_in_body : Function → Option Tm → List ℕ → Sort → Bool
is_in_body f None text s = is_param f text s
is_in_body f (Some z) text s = (bytes_eq prev text && sort_eq f.result s) || is_param f text s

-- a function's rules, behind the functions that it may call, with what is told where one is broken
abbrev pub rules : List Function → Function → List (Bool × BrokenRule)
rules earlier f =
    (is_none (built_in_of f.name), BuiltIn)
    ∷ (not (list_any (λ g. bytes_eq g.name f.name) earlier), NameTwice)
    ∷ (names_differ f.params, ParamTwice)
    ∷ (not (list_any (has_name prev) f.params), ParamPrev)
    ∷ (is_none f.zero_part || last_is_number f.params, LastParam)
    ∷ (holds_of (is_sorted earlier f.result) f.zero_part && is_sorted earlier f.result f.body, Sorts)
    ∷ (holds_of (free_all (is_param f)) f.zero_part && free_all (is_in_body f f.zero_part) f.body, FreeName)
    ∷ []

-- the first rule that is broken
abbrev pub first_broken : List (Bool × BrokenRule) → Option BrokenRule
first_broken [] = None
first_broken ((holds, rule) ∷ rest) = if holds then first_broken rest else Some rule

abbrev pub broken_rule : List Function → Function → Option BrokenRule
broken_rule earlier f = first_broken (rules earlier f)

-- each function obeys the rules behind the ones before it
abbrev pub all_obey : List Function → List Function → Bool
all_obey earlier [] = true
all_obey earlier (f ∷ fs) = is_none (broken_rule earlier f) && all_obey (earlier ++ f ∷ []) fs
