-- Changes of the terms that numbers stand for.
use Rattle.std.specs.Prelude.{◌≡◌, ℕ, ◌<◌, List, length, nat_eq, Bool, Some, if◌then◌else◌}
use Rattle.indexmap.specs.IndexMap.{IndexMap, get}
use Rattle.term_core.specs.Terms.{Tm, Tms, Name, Int, W64, W128, TruthTerm, Un, Bin, Ite, Put, PutDword, Clmul, Shift, Call, All, no_tms, more_tms}
use Rattle.term_store.specs.declared.node.Node.{Node}
use Rattle.term_store.specs.declared.change.Change.{Change}
use Rattle.term_store.specs.Numbers.{term_at}
use Rattle.term_store.specs.Changes.{rebuild, replaced, binds_none}

-- the numbers of a change are below k
abbrev pub FitsBelow : ℕ → Change → Type 0
FitsBelow k c = (c.from < k) × (c.to < k) × (c.beside < k)

-- the names of the quantifiers that the change goes under
abbrev pub goes_under : List Node → Change → List ℕ → Bool
goes_under ns c = binds_none (term_at ns c.from) (term_at ns c.beside)

abbrev pub changed : List Node → Change → Tm → Tm
changed ns c = rebuild (replaced (term_at ns c.from) (term_at ns c.to)) (goes_under ns c)

abbrev pub over_all : (Tm → Tm) → Tms → Tms
over_all f no_tms = no_tms
over_all f (more_tms t ts) = more_tms (f t) (over_all f ts)

-- the parts changed by f, but what a quantifier is over only for some names
abbrev pub over : (Tm → Tm) → (List ℕ → Bool) → Tm → Tm
over f names (Name text s) = Name text s
over f names (Int z) = Int z
over f names (W64 n) = W64 n
over f names (W128 n) = W128 n
over f names (TruthTerm b) = TruthTerm b
over f names (Un op t) = Un op (f t)
over f names (Bin op t u) = Bin op (f t) (f u)
over f names (Ite c t u) = Ite (f c) (f t) (f u)
over f names (Put x i w) = Put (f x) (f i) (f w)
over f names (PutDword x j w) = PutDword (f x) (f j) (f w)
over f names (Clmul t u n) = Clmul (f t) (f u) n
over f names (Shift op n t) = Shift op n (f t)
over f names (Call k s args) = Call k s (over_all f args)
over f names (All x low high body) = All x (f low) (f high) (if names x then f body else body)

-- what a change gave for the numbers so far
pub record Right {S : Type 0} (ns : List Node) (c : Change) (memo : IndexMap ℕ ℕ S) : Type 0 where
  pub right : (k v : ℕ) → get nat_eq memo k ≡ Some v → (k < length ns) × (v < length ns) × (term_at ns v ≡ changed ns c (term_at ns k))
