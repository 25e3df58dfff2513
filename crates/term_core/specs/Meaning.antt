-- What functions mean: each by its parts and the meaning of the ones before it.
use Rattle.std.specs.Prelude.{ℕ, zero, suc, ◌-◌, ℤ, pos, negsuc, List, [], ◌∷◌, length, ◌==◌, Option, Some, None, slice_index_or, slice_set, if◌then◌else◌}
use Rattle.term_core.specs.declared.functions.Variable.{Variable}
use Rattle.term_core.specs.Terms.{Tm}
use Rattle.term_core.specs.Value.{Val, Whole, whole, Functions, Assignment, assigned, value, count}
use Rattle.term_core.specs.Functions.{Function}
use Rattle.term_core.specs.Rules.{prev}

-- each parameter has the value of its argument
abbrev pub arguments : List Variable → List Val → Assignment
arguments (p ∷ ps) (v ∷ vs) = assigned p.name p.sort v (arguments ps vs)
arguments _ _ = λ text s. Whole (pos 0)

-- the last argument, a number
abbrev pub last_number : List Val → ℤ
last_number vs = whole (slice_index_or vs (length vs - 1) (Whole (pos 0)))

-- the arguments with another number as the last one
abbrev pub with_last : List Val → ℤ → List Val
with_last vs z = slice_set vs (length vs - 1) (Whole z)

-- the number itself where it is 0 or less, else 0
abbrev pub at_most_0 : ℤ → ℤ
at_most_0 (pos n) = pos 0
at_most_0 (negsuc n) = negsuc n

-- the value of a recursive function after so many turns: at first that of its zero part, then that of its body
abbrev pub turns : Functions → Function → Tm → List Val → ℕ → Val
turns m f z vs zero = value m (arguments f.params (with_last vs (at_most_0 (last_number vs)))) z
turns m f z vs (suc n) = value m (assigned prev f.result (turns m f z vs n) (arguments f.params (with_last vs (pos (suc n))))) f.body

-- a function's value, by the meaning of the functions that it calls
abbrev pub fun_value : Functions → Function → Option Tm → List Val → Val
fun_value m f None vs = value m (arguments f.params vs) f.body
fun_value m f (Some z) vs = turns m f z vs (count (last_number vs))

-- one more function, with the next number
abbrev pub with_function : Functions → ℕ → Function → Functions
with_function m k f j vs = if j == k then fun_value m f f.zero_part vs else m j vs

abbrev pub meaning_from : Functions → ℕ → List Function → Functions
meaning_from m k [] = m
meaning_from m k (f ∷ fs) = meaning_from (with_function m k f) (suc k) fs

-- what the functions of a list mean, by their numbers
abbrev pub meaning : List Function → Functions
meaning fs = meaning_from (λ k vs. Whole (pos 0)) 0 fs
