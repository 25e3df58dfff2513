-- Calls with what the function is made of put in their place.
use Rattle.std.specs.Prelude.{ℕ, pos, List, ◌∷◌, Bool, true, false, ◌&&◌, Option, None, Some, option_map, slice_get, if◌then◌else◌}
use Rattle.std.specs.Str.{bytes_eq}
use Rattle.x64_syntax.specs.declared.type_words.Sort.{Sort}
use Rattle.term_core.specs.declared.operator.BinOp.TheVariants as bin
use Rattle.term_core.specs.declared.functions.Variable.{Variable}
use Rattle.term_core.specs.Operators.{sort_eq}
use Rattle.term_core.specs.Terms.{Tm, Tms, Int, Bin, Ite, Call, no_tms, more_tms}
use Rattle.term_core.specs.Functions.{Function}
use Rattle.term_core.specs.Rules.{is_variable, prev}
use Rattle.term_subst.specs.Substituted.{Images, with_images, captures_nothing}

-- for each parameter its argument
abbrev pub argument_of : List Variable → Tms → Images
argument_of (p ∷ ps) (more_tms t ts) text s = if is_variable p text s then Some t else argument_of ps ts text s
argument_of _ _ text s = None

-- for `prev` of the function's sort the call with one less, and else what f has
abbrev pub or_previous : Sort → Tm → Images → Images
or_previous result call f text s = if bytes_eq prev text && sort_eq result s then Some call else f text s

abbrev pub last_argument : Tms → Tm
last_argument no_tms = Int (pos 0)
last_argument (more_tms t no_tms) = t
last_argument (more_tms t (more_tms u us)) = last_argument (more_tms u us)

-- the arguments with one less in place of the last one
abbrev pub with_one_less : Tms → Tms
with_one_less no_tms = no_tms
with_one_less (more_tms t no_tms) = more_tms (Bin bin.Sub t (Int (pos 1))) no_tms
with_one_less (more_tms t (more_tms u us)) = more_tms t (with_one_less (more_tms u us))

-- what is put for the parameters and `prev` in the body of a function with number k
abbrev pub step_images : Function → ℕ → Tms → Images
step_images f k args = or_previous f.result (Call k f.result (with_one_less args)) (argument_of f.params args)

-- a recursive function's zero part where the last argument is 0 or less, else its body; another function's body
abbrev pub unfolded_by : Function → ℕ → Tms → Option Tm → Tm
unfolded_by f k args None = with_images (argument_of f.params args) f.body
unfolded_by f k args (Some z) =
    Ite (Bin bin.Le (last_argument args) (Int (pos 0)))
    (with_images (argument_of f.params args) z)
    (with_images (step_images f k args) f.body)

-- a call unfolded, and nothing where the term isn't a call of one of the functions
abbrev pub unfolded : List Function → Tm → Option Tm
unfolded fs (Call k s args) = option_map (λ f. unfolded_by f k args f.zero_part) (slice_get fs k)
unfolded fs _ = None

-- no free name of the arguments is bound where it is put
abbrev pub parts_capture_nothing : Function → ℕ → Tms → Option Tm → Bool
parts_capture_nothing f k args None = captures_nothing (argument_of f.params args) f.body
parts_capture_nothing f k args (Some z) =
    captures_nothing (argument_of f.params args) z && captures_nothing (step_images f k args) f.body

abbrev pub fun_captures_nothing : Option Function → ℕ → Tms → Bool
fun_captures_nothing None k args = true
fun_captures_nothing (Some f) k args = parts_capture_nothing f k args f.zero_part

abbrev pub unfolding_captures_nothing : List Function → Tm → Bool
unfolding_captures_nothing fs (Call k s args) = fun_captures_nothing (slice_get fs k) k args
unfolding_captures_nothing fs _ = true

abbrev pub is_call : Tm → Bool
is_call (Call k s args) = true
is_call _ = false
