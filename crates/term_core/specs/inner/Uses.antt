-- The variables of a term as they are looked for.
use Rattle.std.specs.Prelude.{ℕ, List, Bool, true, false, ◌&&◌, Option, Some, None, if◌then◌else◌}
use Rattle.std.specs.Str.{bytes_eq}
use Rattle.x64_syntax.specs.declared.type_words.Sort.{Sort}
use Rattle.x64_syntax.specs.declared.type_words.Sort.TheVariants as sort
use Rattle.term_core.specs.Operators.{sort_eq}
use Rattle.term_core.specs.Terms.{Tm, Tms, Name, Int, W64, W128, TruthTerm, Un, Bin, Ite, Put, PutDword, Clmul, Shift, Call, All, no_tms, more_tms, tms}

abbrev pub or_else : Option Sort → Option Sort → Option Sort
or_else (Some s) other = Some s
or_else None other = other

abbrev mutual
  -- the sort with which a name stands first in a term
  pub first_sort : List ℕ → Tm → Option Sort
  first_sort name (Name text s) = if bytes_eq text name then Some s else None
  first_sort name (Int z) = None
  first_sort name (W64 n) = None
  first_sort name (W128 n) = None
  first_sort name (TruthTerm b) = None
  first_sort name (Un op t) = first_sort name t
  first_sort name (Bin op t u) = or_else (first_sort name t) (first_sort name u)
  first_sort name (Ite c t u) = or_else (or_else (first_sort name c) (first_sort name t)) (first_sort name u)
  first_sort name (Put x i w) = or_else (or_else (first_sort name x) (first_sort name i)) (first_sort name w)
  first_sort name (PutDword x j w) = or_else (or_else (first_sort name x) (first_sort name j)) (first_sort name w)
  first_sort name (Clmul t u n) = or_else (first_sort name t) (first_sort name u)
  first_sort name (Shift op n t) = first_sort name t
  first_sort name (Call k s args) = first_sort_all name args
  first_sort name (All text low high body) =
      if bytes_eq text name then Some sort.Int else or_else (or_else (first_sort name low) (first_sort name high)) (first_sort name body)

  pub first_sort_all : List ℕ → Tms → Option Sort
  first_sort_all name no_tms = None
  first_sort_all name (more_tms t ts) = or_else (first_sort name t) (first_sort_all name ts)

-- the sort is there, and it is this one
abbrev pub is_the : Sort → Option Sort → Bool
is_the s None = false
is_the s (Some t) = sort_eq t s

abbrev mutual
  -- each variable of a term has the sort of its name
  pub agrees : (List ℕ → Option Sort) → Tm → Bool
  agrees of (Name text s) = is_the s (of text)
  agrees of (Int z) = true
  agrees of (W64 n) = true
  agrees of (W128 n) = true
  agrees of (TruthTerm b) = true
  agrees of (Un op t) = agrees of t
  agrees of (Bin op t u) = agrees of t && agrees of u
  agrees of (Ite c t u) = agrees of c && (agrees of t && agrees of u)
  agrees of (Put x i w) = agrees of x && (agrees of i && agrees of w)
  agrees of (PutDword x j w) = agrees of x && (agrees of j && agrees of w)
  agrees of (Clmul t u n) = agrees of t && agrees of u
  agrees of (Shift op n t) = agrees of t
  agrees of (Call k s args) = all_agree of args
  agrees of (All text low high body) = is_the sort.Int (of text) && (agrees of low && (agrees of high && agrees of body))

  pub all_agree : (List ℕ → Option Sort) → Tms → Bool
  all_agree of no_tms = true
  all_agree of (more_tms t ts) = agrees of t && all_agree of ts

-- the sort with which a name stands first in a sequent
abbrev pub first_in : List Tm → Tm → List ℕ → Option Sort
first_in hyps goal name = or_else (first_sort name goal) (first_sort_all name (tms hyps))
