-- How deep a term is.
use Rattle.std.specs.Prelude.{ℕ, ◌+◌, max}
use Rattle.term_core.specs.Terms.{Tm, Tms, Name, Int, W64, W128, TruthTerm, Un, Bin, Ite, Put, PutDword, Clmul, Shift, Call, All, no_tms, more_tms}
use Rattle.term_subst.specs.Sizes.{at_most_64_bits}

abbrev mutual
  -- the nodes on the longest way from the term down to a part that has no parts
  pub levels : Tm → ℕ
  levels (Name text s) = 1
  levels (Int z) = 1
  levels (W64 n) = 1
  levels (W128 n) = 1
  levels (TruthTerm b) = 1
  levels (Un op t) = levels t + 1
  levels (Bin op t u) = max (levels t) (levels u) + 1
  levels (Ite c t u) = max (levels c) (max (levels t) (levels u)) + 1
  levels (Put x i w) = max (levels x) (max (levels i) (levels w)) + 1
  levels (PutDword x j w) = max (levels x) (max (levels j) (levels w)) + 1
  levels (Clmul t u n) = max (levels t) (levels u) + 1
  levels (Shift op n t) = levels t + 1
  levels (Call k s args) = most_levels args + 1
  levels (All text low high body) = max (levels low) (max (levels high) (levels body)) + 1

  pub most_levels : Tms → ℕ
  most_levels no_tms = 0
  most_levels (more_tms t ts) = max (levels t) (most_levels ts)

abbrev pub depth : Tm → ℕ
depth t = at_most_64_bits (levels t)
