-- The names that are free in a term.
use Rattle.std.specs.Prelude.{ℕ, List, [], ◌∷◌, ◌++◌, Bool, not, if◌then◌else◌}
use Rattle.std.specs.List.{filter, list_any}
use Rattle.std.specs.Str.{bytes_eq}
use Rattle.x64_syntax.specs.declared.type_words.Sort.{Sort}
use Rattle.term_core.specs.Terms.{Tm, Tms, Name, Int, W64, W128, TruthTerm, Un, Bin, Ite, Put, PutDword, Clmul, Shift, Call, All, no_tms, more_tms}
use Rattle.term_core.specs.Rules.{is_bound}

-- one of the quantifiers over these names binds the name with the sort
abbrev pub is_bound_by : List (List ℕ) → List ℕ → Sort → Bool
is_bound_by names text s = list_any (λ name. is_bound name text s) names

abbrev mutual
  -- the names of free variables in their order, each as often as it stands there, behind quantifiers over those around
  pub free_inside : List (List ℕ) → Tm → List (List ℕ)
  free_inside around (Name text s) = if is_bound_by around text s then [] else text ∷ []
  free_inside around (Int z) = []
  free_inside around (W64 n) = []
  free_inside around (W128 n) = []
  free_inside around (TruthTerm b) = []
  free_inside around (Un op t) = free_inside around t
  free_inside around (Bin op t u) = free_inside around t ++ free_inside around u
  free_inside around (Ite c t u) = free_inside around c ++ free_inside around t ++ free_inside around u
  free_inside around (Put x i w) = free_inside around x ++ free_inside around i ++ free_inside around w
  free_inside around (PutDword x j w) = free_inside around x ++ free_inside around j ++ free_inside around w
  free_inside around (Clmul t u n) = free_inside around t ++ free_inside around u
  free_inside around (Shift op n t) = free_inside around t
  free_inside around (Call k s args) = free_among around args
  free_inside around (All name low high body) =
      free_inside around low ++ free_inside around high ++ free_inside (around ++ name ∷ []) body

  pub free_among : List (List ℕ) → Tms → List (List ℕ)
  free_among around no_tms = []
  free_among around (more_tms t ts) = free_inside around t ++ free_among around ts

-- each name once, where it stands first
abbrev pub first_ones : List (List ℕ) → List (List ℕ)
first_ones [] = []
first_ones (name ∷ names) = name ∷ filter (λ other. not (bytes_eq other name)) (first_ones names)

abbrev pub free_names : Tm → List (List ℕ)
free_names t = first_ones (free_inside [] t)
