-- The term that an expression is, over names with their sorts and over functions.
use Rattle.std.specs.Prelude.{ℕ, ◌+◌, ◌==◌, List, [], ◌∷◌, Bool, ◌||◌, true, false, codes, Option, Some, None, is_some, option_map, if◌then◌else◌}
use Rattle.std.specs.List.{list_any}
use Rattle.std.specs.Str.{bytes_eq}
use Rattle.x64_syntax.specs.declared.built_in.BuiltIn.{BuiltIn}
use Rattle.x64_syntax.specs.declared.type_words.Sort.{Sort}
use Rattle.x64_syntax.specs.declared.type_words.Sort.TheVariants as sort
use Rattle.x64_syntax.specs.Words.{built_in_of}
use Rattle.vale_syntax.specs.declared.expr.Name.{Name as AName}
use Rattle.vale_syntax.specs.Trees.{Ex, Exs, none, more, Int, Word, Wide, True, False, Prev, Name, Call, Index, Unary, Binary}
use Rattle.name_scopes.specs.Names.{Texts, has}
use Rattle.name_scopes.specs.Expressions.{name_alone}
use Rattle.term_core.specs.declared.functions.Variable.{Variable}
use Rattle.term_core.specs.declared.operator.Operator.{Operator}
use Rattle.term_core.specs.declared.operator.Operator.TheVariants as operator
use Rattle.term_core.specs.declared.operator.BinOp.TheVariants as bin
use Rattle.term_core.specs.Operators.{operator_of}
use Rattle.term_core.specs.Terms.{Tm}
use Rattle.term_core.specs.Terms as tm
use Rattle.term_core.specs.Functions.{Function}
use Rattle.term_core.specs.Sorted.{first_named}
use Rattle.operand_types.specs.Operations.{bin_term, unary_term, binary_term, one_term, two_term, three_term, all_term, function_from, call_term}

-- the sort of each name, and none where it isn't one of them
abbrev pub Sorts : Type 0
Sorts = List ℕ → Option Sort

-- the sorts of a list's names, the first of a name
abbrev pub sorts_of : List Variable → Sorts
sorts_of vs name = option_map (λ v. v.sort) (first_named name vs)

-- what terms are over: names, those that `forall` binds around the place, the innermost first, and functions
pub record Known : Type 0 where
  pub sorts : Sorts
  pub bound : Texts
  pub functions : List Function

-- a name that `forall` binds is a number
abbrev pub sort_at : Known → List ℕ → Option Sort
sort_at k name = if has k.bound name then Some sort.Int else k.sorts name

abbrev pub with_bound : Known → List ℕ → Known
with_bound k name = record { sorts = k.sorts; bound = name ∷ k.bound; functions = k.functions }

abbrev pub name_term : List ℕ → Option Sort → Option Tm
name_term name None = None
name_term name (Some s) = Some (tm.Name name s)

-- the name of a recursive function's value at one less
abbrev pub prev : List ℕ
prev = codes "prev"

-- what is made of parts, where each of them is a term
abbrev pub of_one : Option Tm → (Tm → Option Tm) → Option Tm
of_one None make = None
of_one (Some t) make = make t

abbrev pub of_two : Option Tm → Option Tm → (Tm → Tm → Option Tm) → Option Tm
of_two None o make = None
of_two (Some t) o make = of_one o (make t)

abbrev pub of_all : Option (List Tm) → (List Tm → Option Tm) → Option Tm
of_all None make = None
of_all (Some ts) make = make ts

abbrev pub in_front : Option Tm → Option (List Tm) → Option (List Tm)
in_front None rest = None
in_front (Some t) None = None
in_front (Some t) (Some ts) = Some (t ∷ ts)

-- `forall` binds a new name
abbrev pub over_new : Known → Option AName → (List ℕ → Option Tm) → Option Tm
over_new k None make = None
over_new k (Some i) make = if is_some (sort_at k i.text) then None else make i.text

-- what is known in an argument of `forall`, of that number from 0: the fourth alone knows the name
abbrev pub known_in : Known → List ℕ → ℕ → Known
known_in k name n = if n == 3 then with_bound k name else k

abbrev pub over_range : List ℕ → List Tm → Option Tm
over_range name (low ∷ high ∷ body ∷ []) = all_term name low high body
over_range name _ = None

-- another operator takes one, two or three terms
abbrev pub over : Operator → List Tm → Option Tm
over op (t ∷ []) = one_term op t
over op (t ∷ u ∷ []) = two_term op t u
over op (t ∷ u ∷ v ∷ []) = three_term op t u v
over op _ = None

abbrev pub is_all : Operator → Bool
is_all operator.All = true
is_all _ = false

abbrev pub over_arguments : Operator → Option Tm → Option (List Tm) → Option Tm
over_arguments op for_all ts = if is_all op then for_all else of_all ts (over op)

-- an operator that is written as a call; those that stand in sources alone make no term
abbrev pub operation : Option Operator → (Operator → Option Tm) → Option Tm
operation None make = None
operation (Some op) make = make op

-- a call: of an operator, or else of a function
abbrev pub called : Option BuiltIn → Option Tm → (BuiltIn → Option Tm) → Option Tm
called None function operator = function
called (Some word) function operator = operator word

unfoldable mutual
  pub term_of : Known → Ex → Option Tm
  term_of k (Int p z) = Some (tm.Int z)
  term_of k (Word p n) = Some (tm.W64 n)
  term_of k (Wide p n) = Some (tm.W128 n)
  term_of k (True p) = Some (tm.TruthTerm true)
  term_of k (False p) = Some (tm.TruthTerm false)
  term_of k (Prev p) = name_term prev (sort_at k prev)
  term_of k (Name n) = name_term n.text (sort_at k n.text)
  term_of k (Call f xs) =
      called (built_in_of f.text) (of_all (terms_of k xs) (call_term (function_from 0 k.functions f.text))) (λ word. operation (operator_of word) (λ op. over_arguments op (forall_of k xs) (terms_of k xs)))
  term_of k (Index p x i) = of_two (term_of k x) (term_of k i) (bin_term bin.Index)
  term_of k (Unary p o x) = of_one (term_of k x) (unary_term o)
  term_of k (Binary p o x y) = of_two (term_of k x) (term_of k y) (binary_term o)

  pub terms_of : Known → Exs → Option (List Tm)
  terms_of k none = Some []
  terms_of k (more x xs) = in_front (term_of k x) (terms_of k xs)

  -- `forall(i, lo, hi, p)`
  pub forall_of : Known → Exs → Option Tm
  forall_of k none = None
  forall_of k (more i xs) = over_new k (name_alone i) (λ name. of_all (range_of k name 1 xs) (over_range name))

  -- arguments of `forall` behind the name, numbered from n on
  pub range_of : Known → List ℕ → ℕ → Exs → Option (List Tm)
  range_of k name n none = Some []
  range_of k name n (more x xs) = in_front (term_of (known_in k name n) x) (range_of k name (n + 1) xs)
