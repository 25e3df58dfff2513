-- What a store keeps: nodes whose parts come before them, and facts of their terms.
use Rattle.std.specs.Prelude.{◌≡◌, ℕ, ◌<◌, ◌≤◌, List, length, slice_index_or}
use Rattle.x64_syntax.specs.declared.type_words.Sort.TheVariants as sort
use Rattle.term_core.specs.Terms.{Tm, Tms, tm_sort}
use Rattle.term_subst.specs.Sizes.{size, all_nodes, at_most_64_bits}
use Rattle.term_store.specs.declared.node.Node.{Node}
use Rattle.term_store.specs.declared.node.Node.TheVariants as node
use Rattle.term_store.specs.declared.facts.Facts.{Facts}
use Rattle.term_store.specs.declared.facts.Extent.{Extent}
use Rattle.term_store.specs.Depths.{depth, most_levels}
use Rattle.term_store.specs.Numbers.{term_at, PartsBelow}

-- the facts of a term
pub record Known (t : Tm) (f : Facts) : Type 0 where
  pub size : f.extent.size ≡ size t
  pub depth : f.extent.depth ≡ depth t
  pub sort : f.sort ≡ tm_sort t

-- how large terms are together, and how deep the deepest one is
pub record Measured (ts : Tms) (e : Extent) : Type 0 where
  pub size : e.size ≡ at_most_64_bits (all_nodes ts)
  pub depth : e.depth ≡ at_most_64_bits (most_levels ts)

abbrev pub nothing : Facts
nothing = record { extent = record { size = 0; depth = 0 }; sort = sort.Int }

-- the parts of each node have smaller numbers
pub record Numbered (ns : List Node) : Type 0 where
  pub below : (i : ℕ) → i < length ns → PartsBelow i (slice_index_or ns i (node.W64 0))

-- the facts of each number
pub record Filed (ns : List Node) (fs : List Facts) : Type 0 where
  pub enough : length ns ≤ length fs
  pub known : (i : ℕ) → i < length ns → Known (term_at ns i) (slice_index_or fs i nothing)

pub record Stored (ns : List Node) (fs : List Facts) : Type 0 where
  pub numbered : Numbered ns
  pub filed : Filed ns fs
