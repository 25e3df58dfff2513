-- The terms that the language's operators make, where they take their arguments.
use Rattle.std.specs.Prelude.{ℕ, nat_lt, nat_le, ◌+◌, ◌^◌, ◌==◌, ℤ, pos, negsuc, Bool, ◌&&◌, ◌||◌, List, [], ◌∷◌, map, Option, Some, None, option_map, if◌then◌else◌}
use Rattle.std.specs.Str.{bytes_eq}
use Rattle.x64_syntax.specs.declared.type_words.Sort.{Sort}
use Rattle.x64_syntax.specs.declared.type_words.Sort.TheVariants as sort
use Rattle.vale_syntax.specs.declared.mark.BinaryOp.{BinaryOp}
use Rattle.vale_syntax.specs.declared.mark.BinaryOp.TheVariants as binary
use Rattle.vale_syntax.specs.declared.mark.UnaryOp.{UnaryOp}
use Rattle.vale_syntax.specs.declared.mark.UnaryOp.TheVariants as unary
use Rattle.term_core.specs.declared.operator.Operator.{Operator}
use Rattle.term_core.specs.declared.operator.Operator.TheVariants as operator
use Rattle.term_core.specs.declared.operator.UnOp.{UnOp}
use Rattle.term_core.specs.declared.operator.UnOp.TheVariants as un
use Rattle.term_core.specs.declared.operator.BinOp.{BinOp}
use Rattle.term_core.specs.declared.operator.BinOp.TheVariants as bin
use Rattle.term_core.specs.declared.operator.CountedOp.{CountedOp}
use Rattle.term_core.specs.Operators.{sort_eq, both_are, un_takes, bin_takes, counted_takes}
use Rattle.term_core.specs.Terms.{Tm, tms, tm_sort}
use Rattle.term_core.specs.Terms as tm
use Rattle.term_core.specs.Functions.{Function}
use Rattle.term_core.specs.Sorted.{sorts_eq, put_takes, ite_takes, all_takes}

-- a term, where the operator takes its arguments
abbrev pub taken : Bool → Tm → Option Tm
taken takes t = if takes then Some t else None

abbrev pub un_term : UnOp → Tm → Option Tm
un_term op t = taken (un_takes op (tm_sort t)) (tm.Un op t)

abbrev pub bin_term : BinOp → Tm → Tm → Option Tm
bin_term op t u = taken (bin_takes op (tm_sort t) (tm_sort u)) (tm.Bin op t u)

-- words are in the order of their numbers
abbrev pub order_term : BinOp → Tm → Tm → Option Tm
order_term op t u = if both_are sort.W64 (tm_sort t) (tm_sort u) then Some (tm.Bin op (tm.Un un.Int t) (tm.Un un.Int u)) else bin_term op t u

abbrev pub negated : Option Tm → Option Tm
negated None = None
negated (Some t) = Some (tm.Un un.LogicNot t)

abbrev pub unary_term : UnaryOp → Tm → Option Tm
unary_term unary.Not t = un_term un.LogicNot t
unary_term unary.Neg t = un_term un.Neg t

-- `a > b` is `b < a`, and `a >= b` is `b <= a`
abbrev pub binary_term : BinaryOp → Tm → Tm → Option Tm
binary_term binary.Mul t u = bin_term bin.Mul t u
binary_term binary.Add t u = bin_term bin.Add t u
binary_term binary.Sub t u = bin_term bin.Sub t u
binary_term binary.Eq t u = bin_term bin.Eq t u
binary_term binary.Ne t u = negated (bin_term bin.Eq t u)
binary_term binary.Lt t u = order_term bin.Lt t u
binary_term binary.Le t u = order_term bin.Le t u
binary_term binary.Gt t u = order_term bin.Lt u t
binary_term binary.Ge t u = order_term bin.Le u t
binary_term binary.And t u = bin_term bin.LogicAnd t u
binary_term binary.Or t u = bin_term bin.LogicOr t u
binary_term binary.Implies t u = bin_term bin.Implies t u

-- a constant is written as a number, and has 8 bits
abbrev pub constant : Tm → Option ℕ
constant (tm.Int (pos n)) = if nat_le n 255 then Some n else None
constant _ = None

abbrev pub counted_term : CountedOp → Tm → Option ℕ → Option Tm
counted_term op t None = None
counted_term op t (Some n) = taken (counted_takes op n (tm_sort t)) (tm.Shift op n t)

-- a constant that chooses a word of each argument
abbrev pub chooses_words : ℕ → Bool
chooses_words n = ((n == 0) || (n == 1)) || ((n == 16) || (n == 17))

abbrev pub clmul_term : Tm → Tm → Option ℕ → Option Tm
clmul_term t u None = None
clmul_term t u (Some n) = taken (chooses_words n && both_are sort.W128 (tm_sort t) (tm_sort u)) (tm.Clmul t u n)

-- operators that are written as calls, by how many arguments stand there
abbrev pub one_term : Operator → Tm → Option Tm
one_term (operator.Un op) t = un_term op t
one_term _ t = None

abbrev pub two_term : Operator → Tm → Tm → Option Tm
two_term (operator.Bin op) t u = bin_term op t u
two_term (operator.Counted op) t u = counted_term op t (constant u)
two_term _ t u = None

abbrev pub three_term : Operator → Tm → Tm → Tm → Option Tm
three_term operator.Ite t u v = taken (ite_takes (tm_sort t) (tm_sort u) (tm_sort v)) (tm.Ite t u v)
three_term operator.Put t u v = taken (put_takes (tm_sort t) (tm_sort u) (tm_sort v)) (tm.Put t u v)
three_term operator.PutDword t u v = taken (put_takes (tm_sort t) (tm_sort u) (tm_sort v)) (tm.PutDword t u v)
three_term operator.Clmul t u v = clmul_term t u (constant v)
three_term _ t u v = None

-- `forall` over a name
abbrev pub all_term : List ℕ → Tm → Tm → Tm → Option Tm
all_term name low high body = taken (all_takes (tm_sort low) (tm_sort high) (tm_sort body)) (tm.All name low high body)

-- a function with its number, of 32 bits
pub record Numbered : Type 0 where
  pub number : ℕ
  pub function : Function

abbrev pub numbered : ℕ → Function → Option Numbered
numbered k f = if nat_lt k (2 ^ 32) then Some (record { number = k; function = f }) else None

-- the first function of the name, of functions that are numbered from k on
unfoldable pub function_from : ℕ → List Function → List ℕ → Option Numbered
function_from k [] name = None
function_from k (f ∷ fs) name = if bytes_eq f.name name then numbered k f else function_from (k + 1) fs name

-- a call of a function, where the arguments have the sorts of its parameters
abbrev pub call_term : Option Numbered → List Tm → Option Tm
call_term None ts = None
call_term (Some f) ts = taken (sorts_eq (map tm_sort ts) (map (λ p. p.sort) f.function.params)) (tm.Call f.number f.function.result (tms ts))
