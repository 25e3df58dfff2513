-- The sort of a term as it is worked out: none where a part has a sort that its operator doesn't take.
use Rattle.std.specs.Prelude.{List, [], ◌∷◌, Bool, true, false, ◌&&◌, Option, Some, None, slice_get}
use Rattle.x64_syntax.specs.declared.type_words.Sort.{Sort}
use Rattle.x64_syntax.specs.declared.type_words.Sort.TheVariants as sort
use Rattle.term_core.specs.declared.functions.Variable.{Variable}
use Rattle.term_core.specs.Operators.{sort_eq, both_are, un_result, bin_result, counted_result, given_if}
use Rattle.term_core.specs.Terms.{Tm, Tms, Name, Int, W64, W128, TruthTerm, Un, Bin, Ite, Put, PutDword, Clmul, Shift, Call, All, no_tms, more_tms}
use Rattle.term_core.specs.Functions.{Function}
use Rattle.term_core.specs.Sorted.{ite_takes, put_takes, all_takes}
use Rattle.term_core.specs.inner.Uses.{is_the}

-- what follows from what is there
abbrev pub given_some : {A : Type 0} → Option A → (A → Option Sort) → Option Sort
given_some None gives = None
given_some (Some x) gives = gives x

abbrev pub two : Option Sort → Option Sort → (Sort → Sort → Option Sort) → Option Sort
two s t gives = given_some s (λ a. given_some t (gives a))

abbrev pub three : Option Sort → Option Sort → Option Sort → (Sort → Sort → Sort → Option Sort) → Option Sort
three s t u gives = given_some s (λ a. two t u (gives a))

abbrev mutual
  pub checked_sort : List Function → Tm → Option Sort
  checked_sort fs (Name text s) = Some s
  checked_sort fs (Int z) = Some sort.Int
  checked_sort fs (W64 n) = Some sort.W64
  checked_sort fs (W128 n) = Some sort.W128
  checked_sort fs (TruthTerm b) = Some sort.Bool
  checked_sort fs (Un op t) = given_some (checked_sort fs t) (un_result op)
  checked_sort fs (Bin op t u) = two (checked_sort fs t) (checked_sort fs u) (bin_result op)
  checked_sort fs (Ite c t u) = three (checked_sort fs c) (checked_sort fs t) (checked_sort fs u) (λ s a b. given_if (ite_takes s a b) a)
  checked_sort fs (Put x i w) = three (checked_sort fs x) (checked_sort fs i) (checked_sort fs w) (λ s a b. given_if (put_takes s a b) sort.Arr)
  checked_sort fs (PutDword x j w) = three (checked_sort fs x) (checked_sort fs j) (checked_sort fs w) (λ s a b. given_if (put_takes s a b) sort.Arr)
  checked_sort fs (Clmul t u n) = two (checked_sort fs t) (checked_sort fs u) (λ a b. given_if (both_are sort.W128 a b) sort.W128)
  checked_sort fs (Shift op n t) = given_some (checked_sort fs t) (counted_result op n)
  checked_sort fs (Call k s args) = given_some (slice_get fs k) (λ f. given_if (sort_eq s f.result && checked_arguments fs f.params args) s)
  checked_sort fs (All text low high body) =
      three (checked_sort fs low) (checked_sort fs high) (checked_sort fs body) (λ s a b. given_if (all_takes s a b) sort.Bool)

  pub checked_arguments : List Function → List Variable → Tms → Bool
  checked_arguments fs [] no_tms = true
  checked_arguments fs (p ∷ ps) (more_tms t ts) = is_the p.sort (checked_sort fs t) && checked_arguments fs ps ts
  checked_arguments fs _ _ = false
