-- What walks over numbers look at, and what they remember.
use Rattle.std.specs.Prelude.{◌≡◌, ℕ, ◌<◌, List, [], ◌∷◌, Bool, true, false, ◌&&◌, length, nat_eq, if◌then◌else◌}
use Rattle.std.specs.Str.{bytes_eq}
use Rattle.indexmap.specs.IndexSet.{IndexSet, contains}
use Rattle.x64_syntax.specs.declared.type_words.Sort.{Sort}
use Rattle.term_core.specs.Operators.{sort_eq}
use Rattle.term_core.specs.Rules.{is_bound}
use Rattle.term_store.specs.declared.node.Node.{Node}
use Rattle.term_store.specs.declared.node.Node.TheVariants as node
use Rattle.term_store.specs.Numbers.{term_at}
use Rattle.term_core.specs.Terms.{Tm}
use Rattle.term_store.specs.Free.{is_free}

abbrev pub is_variable : List ℕ → Sort → Node → Bool
is_variable x s (node.Name text t) = bytes_eq x text && sort_eq s t
is_variable x s _ = false

-- the parts of a node in which a variable may be free that is free in its term
abbrev pub open_parts : List ℕ → Sort → Node → List ℕ
open_parts x s (node.Name text t) = []
open_parts x s (node.Int z) = []
open_parts x s (node.W64 n) = []
open_parts x s (node.W128 n) = []
open_parts x s (node.Bool b) = []
open_parts x s (node.Un op a) = a ∷ []
open_parts x s (node.Bin op a b) = a ∷ b ∷ []
open_parts x s (node.Ite c a b) = c ∷ a ∷ b ∷ []
open_parts x s (node.Put a i w) = a ∷ i ∷ w ∷ []
open_parts x s (node.PutDword a j w) = a ∷ j ∷ w ∷ []
open_parts x s (node.Clmul a b n) = a ∷ b ∷ []
open_parts x s (node.Shift op n a) = a ∷ []
open_parts x s (node.Call f t args) = args
open_parts x s (node.All text low high body) = if is_bound text x s then low ∷ high ∷ [] else low ∷ high ∷ body ∷ []

-- the variable isn't free in what was seen
pub record Clean {S : Type 0} (ns : List Node) (x : List ℕ) (s : Sort) (seen : IndexSet ℕ S) : Type 0 where
  pub clean : (k : ℕ) → contains nat_eq seen k ≡ true → is_free x s (term_at ns k) ≡ false

-- the variable is free in the term of number root where it is free in that of number i
pub record Leads (ns : List Node) (x : List ℕ) (s : Sort) (root i : ℕ) : Type 0 where
  pub within : i < length ns
  pub leads : is_free x s (term_at ns i) ≡ true → is_free x s (term_at ns root) ≡ true

abbrev pub all_parts : Node → List ℕ
all_parts (node.Name text t) = []
all_parts (node.Int z) = []
all_parts (node.W64 n) = []
all_parts (node.W128 n) = []
all_parts (node.Bool b) = []
all_parts (node.Un op a) = a ∷ []
all_parts (node.Bin op a b) = a ∷ b ∷ []
all_parts (node.Ite c a b) = c ∷ a ∷ b ∷ []
all_parts (node.Put a i w) = a ∷ i ∷ w ∷ []
all_parts (node.PutDword a j w) = a ∷ j ∷ w ∷ []
all_parts (node.Clmul a b n) = a ∷ b ∷ []
all_parts (node.Shift op n a) = a ∷ []
all_parts (node.Call f t args) = args
all_parts (node.All text low high body) = low ∷ high ∷ body ∷ []

-- the node is a name that is free in the term t
abbrev pub is_free_name : Tm → Node → Bool
is_free_name t (node.Name text s) = is_free text s t
is_free_name t _ = false

-- no variable that is free in the term of number root is free in what was seen
pub record Bare {S : Type 0} (ns : List Node) (root : ℕ) (seen : IndexSet ℕ S) : Type 0 where
  pub clean : (x : List ℕ) (s : Sort) → is_free x s (term_at ns root) ≡ true → Clean ns x s seen
