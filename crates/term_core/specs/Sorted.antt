-- When a term is well formed: each part has the sorts that its operator takes, each call those of its function, and each
-- name one sort.
use Rattle.std.specs.Prelude.{ℕ, List, [], ◌∷◌, ◌++◌, map, Bool, true, false, ◌&&◌, Option, Some, None, slice_get, flat_map}
use Rattle.std.specs.List.{list_all, find}
use Rattle.std.specs.Str.{bytes_eq}
use Rattle.x64_syntax.specs.declared.type_words.Sort.{Sort}
use Rattle.x64_syntax.specs.declared.type_words.Sort.TheVariants as sort
use Rattle.term_core.specs.declared.functions.Variable.{Variable}
use Rattle.term_core.specs.Operators.{sort_eq, both_are, un_takes, bin_takes, counted_takes}
use Rattle.term_core.specs.Terms.{Tm, Tms, Name, Int, W64, W128, TruthTerm, Un, Bin, Ite, Put, PutDword, Clmul, Shift, Call, All, no_tms, more_tms, tm_sort}
use Rattle.term_core.specs.Functions.{Function}

abbrev pub tms_sorts : Tms → List Sort
tms_sorts no_tms = []
tms_sorts (more_tms t ts) = tm_sort t ∷ tms_sorts ts

abbrev pub sorts_eq : List Sort → List Sort → Bool
sorts_eq [] [] = true
sorts_eq (s ∷ ss) (t ∷ ts) = sort_eq s t && sorts_eq ss ts
sorts_eq _ _ = false

-- the function takes arguments of these sorts and gives this one
abbrev pub fun_takes : Option Function → Sort → List Sort → Bool
fun_takes None s sorts = false
fun_takes (Some f) s sorts = sort_eq s f.result && sorts_eq sorts (map (λ p. p.sort) f.params)

-- an array, a number and a word
abbrev pub put_takes : Sort → Sort → Sort → Bool
put_takes s t u = sort_eq s sort.Arr && (sort_eq t sort.Int && sort_eq u sort.W64)

-- a truth and two of one sort
abbrev pub ite_takes : Sort → Sort → Sort → Bool
ite_takes s t u = sort_eq s sort.Bool && sort_eq u t

-- two numbers and a truth
abbrev pub all_takes : Sort → Sort → Sort → Bool
all_takes s t u = sort_eq s sort.Int && (sort_eq t sort.Int && sort_eq u sort.Bool)

abbrev mutual
  -- each part has the sorts that its operator takes, and each call those of the function with its number
  pub well_sorted : List Function → Tm → Bool
  well_sorted fs (Name text s) = true
  well_sorted fs (Int z) = true
  well_sorted fs (W64 n) = true
  well_sorted fs (W128 n) = true
  well_sorted fs (TruthTerm b) = true
  well_sorted fs (Un op t) = un_takes op (tm_sort t) && well_sorted fs t
  well_sorted fs (Bin op t u) = bin_takes op (tm_sort t) (tm_sort u) && (well_sorted fs t && well_sorted fs u)
  well_sorted fs (Ite c t u) = ite_takes (tm_sort c) (tm_sort t) (tm_sort u) && (well_sorted fs c && (well_sorted fs t && well_sorted fs u))
  well_sorted fs (Put x i w) = put_takes (tm_sort x) (tm_sort i) (tm_sort w) && (well_sorted fs x && (well_sorted fs i && well_sorted fs w))
  well_sorted fs (PutDword x j w) = put_takes (tm_sort x) (tm_sort j) (tm_sort w) && (well_sorted fs x && (well_sorted fs j && well_sorted fs w))
  well_sorted fs (Clmul t u n) = both_are sort.W128 (tm_sort t) (tm_sort u) && (well_sorted fs t && well_sorted fs u)
  well_sorted fs (Shift op n t) = counted_takes op n (tm_sort t) && well_sorted fs t
  well_sorted fs (Call k s args) = fun_takes (slice_get fs k) s (tms_sorts args) && all_well_sorted fs args
  well_sorted fs (All text low high body) =
      all_takes (tm_sort low) (tm_sort high) (tm_sort body) && (well_sorted fs low && (well_sorted fs high && well_sorted fs body))

  pub all_well_sorted : List Function → Tms → Bool
  all_well_sorted fs no_tms = true
  all_well_sorted fs (more_tms t ts) = well_sorted fs t && all_well_sorted fs ts

-- a term of the sort, each part of which has the sorts that it should have
abbrev pub is_sorted : List Function → Sort → Tm → Bool
is_sorted fs s t = well_sorted fs t && sort_eq (tm_sort t) s

abbrev pub variable : List ℕ → Sort → Variable
variable text s = record { name = text; sort = s }

abbrev mutual
  -- the variables of a term in their order, those too that a quantifier binds, each as often as it stands there
  pub variables : Tm → List Variable
  variables (Name text s) = variable text s ∷ []
  variables (Int z) = []
  variables (W64 n) = []
  variables (W128 n) = []
  variables (TruthTerm b) = []
  variables (Un op t) = variables t
  variables (Bin op t u) = variables t ++ variables u
  variables (Ite c t u) = variables c ++ (variables t ++ variables u)
  variables (Put x i w) = variables x ++ (variables i ++ variables w)
  variables (PutDword x j w) = variables x ++ (variables j ++ variables w)
  variables (Clmul t u n) = variables t ++ variables u
  variables (Shift op n t) = variables t
  variables (Call k s args) = all_variables args
  variables (All text low high body) = variable text sort.Int ∷ variables low ++ (variables high ++ variables body)

  pub all_variables : Tms → List Variable
  all_variables no_tms = []
  all_variables (more_tms t ts) = variables t ++ all_variables ts

abbrev pub is_of_sort : Sort → Option Variable → Bool
is_of_sort s None = false
is_of_sort s (Some v) = sort_eq v.sort s

-- the first of the variables with that name
abbrev pub first_named : List ℕ → List Variable → Option Variable
first_named name vs = find (λ v. bytes_eq v.name name) vs

-- the first variable of that name has that sort
abbrev pub has_sort : List Variable → Variable → Bool
has_sort vs v = is_of_sort v.sort (first_named v.name vs)

-- each name has one sort: that with which it stands first
abbrev pub one_sort_each : List Variable → Bool
one_sort_each vs = list_all (has_sort vs) vs

-- a term that fits the functions
abbrev pub tm_fits : List Function → Tm → Bool
tm_fits fs t = well_sorted fs t && one_sort_each (variables t)

-- hypotheses and a goal that fit the functions: each is a truth, and each name has one sort throughout
abbrev pub sequent_fits : List Function → List Tm → Tm → Bool
sequent_fits fs hyps goal =
    list_all (is_sorted fs sort.Bool) (goal ∷ hyps) && one_sort_each (flat_map variables (goal ∷ hyps))
