-- The terms that the numbers of a store stand for.
use Rattle.std.specs.Prelude.{◌≡◌, ℕ, ◌<◌, ◌≤◌, List, [], ◌∷◌, ◌++◌, length, map, slice_index_or}
use Rattle.term_core.specs.Terms.{Tm, tms, Name, Int, W64, W128, TruthTerm, Un, Bin, Ite, Put, PutDword, Clmul, Shift, Call, All}
use Rattle.term_store.specs.declared.node.Node.{Node}
use Rattle.term_store.specs.declared.node.Node.TheVariants as node

-- the term of a node whose parts stand for these terms
abbrev pub assemble : (ℕ → Tm) → Node → Tm
assemble at (node.Name text s) = Name text s
assemble at (node.Int z) = Int z
assemble at (node.W64 n) = W64 n
assemble at (node.W128 n) = W128 n
assemble at (node.Bool b) = TruthTerm b
assemble at (node.Un op a) = Un op (at a)
assemble at (node.Bin op a b) = Bin op (at a) (at b)
assemble at (node.Ite c a b) = Ite (at c) (at a) (at b)
assemble at (node.Put x i w) = Put (at x) (at i) (at w)
assemble at (node.PutDword x j w) = PutDword (at x) (at j) (at w)
assemble at (node.Clmul a b n) = Clmul (at a) (at b) n
assemble at (node.Shift op n a) = Shift op n (at a)
assemble at (node.Call f s args) = Call f s (tms (map at args))
assemble at (node.All text low high body) = All text (at low) (at high) (at body)

unfoldable pub term_of : List Tm → ℕ → Tm
term_of ts i = slice_index_or ts i (W64 0)

-- the terms of nodes behind those that stand for the terms ts
unfoldable pub terms_behind : List Tm → List Node → List Tm
terms_behind ts [] = ts
terms_behind ts (n ∷ ns) = terms_behind (ts ++ assemble (term_of ts) n ∷ []) ns

-- the term that a number of the store stands for
unfoldable pub term_at : List Node → ℕ → Tm
term_at ns i = term_of (terms_behind [] ns) i

abbrev pub EachBelow : ℕ → List ℕ → Type 0
EachBelow k [] = Unit {0}
EachBelow k (x ∷ xs) = (x < k) × EachBelow k xs

-- the parts of a node have numbers below k
abbrev pub PartsBelow : ℕ → Node → Type 0
PartsBelow k (node.Name text s) = Unit {0}
PartsBelow k (node.Int z) = Unit {0}
PartsBelow k (node.W64 n) = Unit {0}
PartsBelow k (node.W128 n) = Unit {0}
PartsBelow k (node.Bool b) = Unit {0}
PartsBelow k (node.Un op a) = a < k
PartsBelow k (node.Bin op a b) = (a < k) × (b < k)
PartsBelow k (node.Ite c a b) = (c < k) × (a < k) × (b < k)
PartsBelow k (node.Put x i w) = (x < k) × (i < k) × (w < k)
PartsBelow k (node.PutDword x j w) = (x < k) × (j < k) × (w < k)
PartsBelow k (node.Clmul a b n) = (a < k) × (b < k)
PartsBelow k (node.Shift op n a) = a < k
PartsBelow k (node.Call f s args) = EachBelow k args
PartsBelow k (node.All text low high body) = (low < k) × (high < k) × (body < k)

-- earlier numbers keep their terms
pub record Grows (old new : List Node) : Type 0 where
  pub longer : length old ≤ length new
  pub kept : (i : ℕ) → i < length old → term_at new i ≡ term_at old i
