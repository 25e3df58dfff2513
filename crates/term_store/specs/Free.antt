-- Whether variables are free in a term. A variable is a name with a sort; a quantifier binds its name as an `int`.
use Rattle.std.specs.Prelude.{ℕ, List, Bool, false, not, ◌&&◌, ◌||◌}
use Rattle.std.specs.Str.{bytes_eq}
use Rattle.x64_syntax.specs.declared.type_words.Sort.{Sort}
use Rattle.term_core.specs.Operators.{sort_eq}
use Rattle.term_core.specs.Rules.{is_bound, free_all}
use Rattle.term_core.specs.Terms.{Tm, Tms, Name, Int, W64, W128, TruthTerm, Un, Bin, Ite, Put, PutDword, Clmul, Shift, Call, All, no_tms, more_tms}

abbrev mutual
  -- the variable stands in a term where no quantifier around binds it
  pub is_free : List ℕ → Sort → Tm → Bool
  is_free x s (Name text t) = bytes_eq x text && sort_eq s t
  is_free x s (Int z) = false
  is_free x s (W64 n) = false
  is_free x s (W128 n) = false
  is_free x s (TruthTerm b) = false
  is_free x s (Un op t) = is_free x s t
  is_free x s (Bin op t u) = is_free x s t || is_free x s u
  is_free x s (Ite c t u) = is_free x s c || (is_free x s t || is_free x s u)
  is_free x s (Put a i w) = is_free x s a || (is_free x s i || is_free x s w)
  is_free x s (PutDword a j w) = is_free x s a || (is_free x s j || is_free x s w)
  is_free x s (Clmul t u n) = is_free x s t || is_free x s u
  is_free x s (Shift op n t) = is_free x s t
  is_free x s (Call k t args) = is_free_among x s args
  is_free x s (All name low high body) =
      is_free x s low || (is_free x s high || (not (is_bound name x s) && is_free x s body))

  pub is_free_among : List ℕ → Sort → Tms → Bool
  is_free_among x s no_tms = false
  is_free_among x s (more_tms t ts) = is_free x s t || is_free_among x s ts

-- some name is free in a term
abbrev pub has_free_names : Tm → Bool
has_free_names t = not (free_all (λ x s. false) t)
