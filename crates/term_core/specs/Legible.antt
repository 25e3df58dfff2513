-- Which terms are told from one another by their texts: their names are those of the grammar, and each has one sort; their
-- numbers are within their types.
use Rattle.std.specs.Prelude.{◌≡◌, ℕ, ◌^◌, List, [], ◌∷◌, length, take, drop, Bool, true, false, ◌&&◌, ◌||◌, ◌==◌, nat_lt, nat_le, nat_abs, is_none}
use Rattle.std.specs.List.{list_all, prefix_len}
use Rattle.x64_syntax.specs.Words.{is_digit_byte, is_name_byte, is_name_text, keyword_of}
use Rattle.x64_syntax.specs.declared.type_words.Sort.{Sort}
use Rattle.term_core.specs.declared.functions.Variable.{Variable}
use Rattle.term_core.specs.Operators.{sort_eq}
use Rattle.term_core.specs.Terms.{Tm, Tms, Name, Int, W64, W128, TruthTerm, Un, Bin, Ite, Put, PutDword, Clmul, Shift, Call, All, no_tms, more_tms}
use Rattle.term_core.specs.Value.{T, T128}
use Rattle.term_core.specs.Functions.{Function}
use Rattle.term_core.specs.Rules.{all_obey}
use Rattle.term_core.specs.Sorted.{well_sorted, variables}

-- a lower-case letter or a digit
abbrev pub is_stamp_byte : ℕ → Bool
is_stamp_byte b = is_digit_byte b || (nat_le 97 b && nat_le b 122)

-- a dot, and lower-case letters or digits
abbrev pub is_stamp : List ℕ → Bool
is_stamp [] = false
is_stamp (b ∷ bs) = (b == 46) && (nat_lt 0 (length bs) && list_all is_stamp_byte bs)

-- a name with a stamp behind it
abbrev pub is_stamped_text : List ℕ → Bool
is_stamped_text text = let n = prefix_len is_name_byte text in is_name_text (take n text) && is_stamp (drop n text)

-- what a name in a term may be: a name that is no keyword, or a stamped name
unfoldable pub is_term_name : List ℕ → Bool
is_term_name text = (is_name_text text && is_none (keyword_of text)) || is_stamped_text text

-- numbers of 128 bits with sign, and words of 64 and of 128 bits; constants are bytes
abbrev mutual
  pub in_range : Tm → Bool
  in_range (Name text s) = true
  in_range (Int z) = nat_le (nat_abs z) (2 ^ 127)
  in_range (W64 n) = nat_lt n T
  in_range (W128 n) = nat_lt n T128
  in_range (TruthTerm b) = true
  in_range (Un op t) = in_range t
  in_range (Bin op t u) = in_range t && in_range u
  in_range (Ite c t u) = in_range c && (in_range t && in_range u)
  in_range (Put x i w) = in_range x && (in_range i && in_range w)
  in_range (PutDword x j w) = in_range x && (in_range j && in_range w)
  in_range (Clmul t u n) = nat_lt n 256 && (in_range t && in_range u)
  in_range (Shift op n t) = nat_lt n 256 && in_range t
  in_range (Call k s args) = all_in_range args
  in_range (All text low high body) = in_range low && (in_range high && in_range body)

  pub all_in_range : Tms → Bool
  all_in_range no_tms = true
  all_in_range (more_tms t ts) = in_range t && all_in_range ts

-- a variable with a name of the grammar, of the sort that is given to this name
abbrev pub is_legible : (List ℕ → Sort) → Variable → Bool
is_legible sorts v = is_term_name v.name && sort_eq v.sort (sorts v.name)

-- a term whose names have the sorts that are given to them
pub record IsLegible (fs : List Function) (sorts : List ℕ → Sort) (t : Tm) : Type 0 where
  pub sorted : well_sorted fs t ≡ true
  pub names : list_all (is_legible sorts) (variables t) ≡ true
  pub numbers : in_range t ≡ true

-- functions that obey the rules, with names of the grammar
pub record AreLegible (fs : List Function) : Type 0 where
  pub obey : all_obey [] fs ≡ true
  pub names : list_all (λ f. is_term_name f.name) fs ≡ true
