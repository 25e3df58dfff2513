-- Terms replaced everywhere.
use Rattle.std.specs.Prelude.{ℕ, List, Bool, not, ◌&&◌, ◌||◌, Option, None, Some, if◌then◌else◌}
use Rattle.std.specs.Str.{bytes_eq}
use Rattle.x64_syntax.specs.declared.type_words.Sort.{Sort}
use Rattle.x64_syntax.specs.declared.type_words.Sort.TheVariants as sort
use Rattle.term_core.specs.Operators.{sort_eq}
use Rattle.term_core.specs.Terms.{Tm, Tms, Name, Int, W64, W128, TruthTerm, Un, Bin, Ite, Put, PutDword, Clmul, Shift, Call, All, no_tms, more_tms, tm_eq}
use Rattle.term_subst.specs.Substituted.{Images, or_else, with_images}
use Rattle.term_store.specs.Free.{is_free}

abbrev mutual
  -- each part that has an image by f replaced by it, from the root down: an image isn't gone into, nor is what a
  -- quantifier is over where its name isn't among the names
  pub rebuild : (Tm → Option Tm) → (List ℕ → Bool) → Tm → Tm
  rebuild f names (Name text s) = or_else (f (Name text s)) (Name text s)
  rebuild f names (Int z) = or_else (f (Int z)) (Int z)
  rebuild f names (W64 n) = or_else (f (W64 n)) (W64 n)
  rebuild f names (W128 n) = or_else (f (W128 n)) (W128 n)
  rebuild f names (TruthTerm b) = or_else (f (TruthTerm b)) (TruthTerm b)
  rebuild f names (Un op t) = or_else (f (Un op t)) (Un op (rebuild f names t))
  rebuild f names (Bin op t u) = or_else (f (Bin op t u)) (Bin op (rebuild f names t) (rebuild f names u))
  rebuild f names (Ite c t u) =
      or_else (f (Ite c t u)) (Ite (rebuild f names c) (rebuild f names t) (rebuild f names u))
  rebuild f names (Put x i w) =
      or_else (f (Put x i w)) (Put (rebuild f names x) (rebuild f names i) (rebuild f names w))
  rebuild f names (PutDword x j w) =
      or_else (f (PutDword x j w)) (PutDword (rebuild f names x) (rebuild f names j) (rebuild f names w))
  rebuild f names (Clmul t u n) = or_else (f (Clmul t u n)) (Clmul (rebuild f names t) (rebuild f names u) n)
  rebuild f names (Shift op n t) = or_else (f (Shift op n t)) (Shift op n (rebuild f names t))
  rebuild f names (Call k s args) = or_else (f (Call k s args)) (Call k s (rebuild_all f names args))
  rebuild f names (All x low high body) =
      or_else (f (All x low high body))
      (All x (rebuild f names low) (rebuild f names high) (if names x then rebuild f names body else body))

  pub rebuild_all : (Tm → Option Tm) → (List ℕ → Bool) → Tms → Tms
  rebuild_all f names no_tms = no_tms
  rebuild_all f names (more_tms t ts) = more_tms (rebuild f names t) (rebuild_all f names ts)

-- b where the term is a
abbrev pub replaced : Tm → Tm → Tm → Option Tm
replaced a b t = if tm_eq t a then Some b else None

-- a quantifier over the name binds no free name of a and none of b
abbrev pub binds_none : Tm → Tm → List ℕ → Bool
binds_none a b name = not (is_free name sort.Int a || is_free name sort.Int b)

-- a replaced by b everywhere, but under a quantifier only where its name is free in neither
abbrev pub replace : Tm → Tm → Tm → Tm
replace a b = rebuild (replaced a b) (binds_none a b)

-- u for the variable
abbrev pub put_for : List ℕ → Sort → Tm → Images
put_for x s u text t = if bytes_eq x text && sort_eq s t then Some u else None

-- u put for each free occurrence of the variable
abbrev pub substitute : List ℕ → Sort → Tm → Tm → Tm
substitute x s u = with_images (put_for x s u)
