-- How many nodes a term has.
use Rattle.std.specs.Prelude.{ℕ, ◌+◌, ◌-◌, ◌^◌, min}
use Rattle.term_core.specs.Terms.{Tm, Tms, Name, Int, W64, W128, TruthTerm, Un, Bin, Ite, Put, PutDword, Clmul, Shift, Call, All, no_tms, more_tms}

abbrev mutual
  pub nodes : Tm → ℕ
  nodes (Name text s) = 1
  nodes (Int z) = 1
  nodes (W64 n) = 1
  nodes (W128 n) = 1
  nodes (TruthTerm b) = 1
  nodes (Un op t) = nodes t + 1
  nodes (Bin op t u) = nodes t + nodes u + 1
  nodes (Ite c t u) = nodes c + nodes t + nodes u + 1
  nodes (Put x i w) = nodes x + nodes i + nodes w + 1
  nodes (PutDword x j w) = nodes x + nodes j + nodes w + 1
  nodes (Clmul t u n) = nodes t + nodes u + 1
  nodes (Shift op n t) = nodes t + 1
  nodes (Call k s args) = all_nodes args + 1
  nodes (All text low high body) = nodes low + nodes high + nodes body + 1

  pub all_nodes : Tms → ℕ
  all_nodes no_tms = 0
  all_nodes (more_tms t ts) = nodes t + all_nodes ts

-- a number, or the greatest one of 64 bits where it has more
abbrev pub at_most_64_bits : ℕ → ℕ
at_most_64_bits n = min n (2 ^ 64 - 1)

abbrev pub size : Tm → ℕ
size t = at_most_64_bits (nodes t)
