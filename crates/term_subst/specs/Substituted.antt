-- Terms put for free variables. A variable is a name with a sort; a quantifier binds its name as an `int`.
use Rattle.std.specs.Prelude.{ℕ, List, Bool, true, not, ◌&&◌, Option, None, Some, if◌then◌else◌}
use Rattle.std.specs.Str.{bytes_eq}
use Rattle.x64_syntax.specs.declared.type_words.Sort.{Sort}
use Rattle.term_core.specs.Operators.{sort_eq}
use Rattle.term_core.specs.Terms.{Tm, Tms, Name, Int, W64, W128, TruthTerm, Un, Bin, Ite, Put, PutDword, Clmul, Shift, Call, All, no_tms, more_tms, tm_sort}
use Rattle.term_core.specs.Rules.{is_bound, free_all, holds_of}

-- what is put for a variable
abbrev pub Images : Type 0
Images = List ℕ → Sort → Option Tm

-- without what is put for the variable that a quantifier over the name binds
abbrev pub without : List ℕ → Images → Images
without name f text s = if is_bound name text s then None else f text s

abbrev pub or_else : Option Tm → Tm → Tm
or_else None t = t
or_else (Some u) t = u

abbrev mutual
  -- what is put for them in place of all free variables at once; no bound name is changed
  pub with_images : Images → Tm → Tm
  with_images f (Name text s) = or_else (f text s) (Name text s)
  with_images f (Int z) = Int z
  with_images f (W64 n) = W64 n
  with_images f (W128 n) = W128 n
  with_images f (TruthTerm b) = TruthTerm b
  with_images f (Un op t) = Un op (with_images f t)
  with_images f (Bin op t u) = Bin op (with_images f t) (with_images f u)
  with_images f (Ite c t u) = Ite (with_images f c) (with_images f t) (with_images f u)
  with_images f (Put x i w) = Put (with_images f x) (with_images f i) (with_images f w)
  with_images f (PutDword x j w) = PutDword (with_images f x) (with_images f j) (with_images f w)
  with_images f (Clmul t u n) = Clmul (with_images f t) (with_images f u) n
  with_images f (Shift op n t) = Shift op n (with_images f t)
  with_images f (Call k s args) = Call k s (all_with_images f args)
  with_images f (All name low high body) =
      All name (with_images f low) (with_images f high) (with_images (without name f) body)

  pub all_with_images : Images → Tms → Tms
  all_with_images f no_tms = no_tms
  all_with_images f (more_tms t ts) = more_tms (with_images f t) (all_with_images f ts)

-- a term for the variable of that name and the term's sort, and nothing for others
abbrev pub image : List ℕ → Tm → Images
image name by text s = if bytes_eq name text && sort_eq (tm_sort by) s then Some by else None

-- a term put for a variable of its sort, by the variable's name
abbrev pub substituted : List ℕ → Tm → Tm → Tm
substituted name by t = with_images (image name by) t

abbrev mutual
  -- what is put for a variable has only free variables that p accepts and that no quantifier around the place binds
  pub puts_freely : (List ℕ → Sort → Bool) → Images → Tm → Bool
  puts_freely p f (Name text s) = holds_of (free_all p) (f text s)
  puts_freely p f (Int z) = true
  puts_freely p f (W64 n) = true
  puts_freely p f (W128 n) = true
  puts_freely p f (TruthTerm b) = true
  puts_freely p f (Un op t) = puts_freely p f t
  puts_freely p f (Bin op t u) = puts_freely p f t && puts_freely p f u
  puts_freely p f (Ite c t u) = puts_freely p f c && (puts_freely p f t && puts_freely p f u)
  puts_freely p f (Put x i w) = puts_freely p f x && (puts_freely p f i && puts_freely p f w)
  puts_freely p f (PutDword x j w) = puts_freely p f x && (puts_freely p f j && puts_freely p f w)
  puts_freely p f (Clmul t u n) = puts_freely p f t && puts_freely p f u
  puts_freely p f (Shift op n t) = puts_freely p f t
  puts_freely p f (Call k s args) = all_put_freely p f args
  puts_freely p f (All name low high body) =
      puts_freely p f low
      && (puts_freely p f high && puts_freely (λ text s. not (is_bound name text s) && p text s) (without name f) body)

  pub all_put_freely : (List ℕ → Sort → Bool) → Images → Tms → Bool
  all_put_freely p f no_tms = true
  all_put_freely p f (more_tms t ts) = puts_freely p f t && all_put_freely p f ts

-- no free variable of what is put for a variable is bound where it is put
abbrev pub captures_nothing : Images → Tm → Bool
captures_nothing f t = puts_freely (λ text s. true) f t
