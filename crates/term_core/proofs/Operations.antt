-- Operators by their words and marks.
use Rattle.std.proofs.Common.{◌≡◌, ℕ, suc, pos, cond, List, [], ◌∷◌, Option, Some, None, refl, arith}
use Rattle.std.specs.Prelude.{slice_get, codes}
use Rattle.std.specs.Str.{bytes_eq}
use Rattle.x64_syntax.specs.declared.type_words.Sort.{Sort}
use Rattle.x64_syntax.specs.declared.type_words.Sort.TheVariants as sort
use Rattle.x64_syntax.specs.declared.built_in.BuiltIn.{BuiltIn}
use Rattle.x64_syntax.specs.Tables.{built_in}
use Rattle.x64_syntax.specs.Words.{built_in_of}
use Rattle.term_core.specs.declared.operator.Operator.{Operator}
use Rattle.term_core.specs.declared.operator.Operator.TheVariants as operator
use Rattle.term_core.specs.declared.operator.UnOp.TheVariants as un
use Rattle.term_core.specs.declared.operator.BinOp.{BinOp}
use Rattle.term_core.specs.declared.operator.BinOp.TheVariants as bin
use Rattle.term_core.specs.declared.operator.CountedOp.{CountedOp}
use Rattle.term_core.specs.declared.operator.CountedOp.TheVariants as counted
use Rattle.term_core.specs.Operators.{operator_of}
use Rattle.term_core.specs.Terms.{Tm, Tms, Name, Int, Un, Bin, Ite, Put, PutDword, Clmul, Shift, Call, All, no_tms, more_tms, un_eq, bin_eq, counted_eq}
use Rattle.term_core.specs.Functions.{Function}
use Rattle.term_core.specs.Printed.{operator_word}
use Rattle.term_core.proofs.Forms.{IsWord}

-- an operator on its arguments, as they are written
abbrev pub operation : Operator → Tms → Tm
operation (operator.Un o) (more_tms a no_tms) = Un o a
operation (operator.Bin o) (more_tms a (more_tms b no_tms)) = Bin o a b
operation (operator.Counted o) (more_tms a (more_tms (Int (pos n)) no_tms)) = Shift o n a
operation operator.Ite (more_tms c (more_tms a (more_tms b no_tms))) = Ite c a b
operation operator.Put (more_tms x (more_tms i (more_tms w no_tms))) = Put x i w
operation operator.PutDword (more_tms x (more_tms j (more_tms w no_tms))) = PutDword x j w
operation operator.Clmul (more_tms a (more_tms b (more_tms (Int (pos n)) no_tms))) = Clmul a b n
operation operator.All (more_tms (Name text s) (more_tms low (more_tms high (more_tms body no_tms)))) = All text low high body
operation _ _ = Int (pos 0)

-- the number of the first function that has the name
abbrev pub number_in : List Function → List ℕ → ℕ
number_in [] name = 0
number_in (f ∷ fs) name = cond (bytes_eq f.name name) 0 (suc (number_in fs name))

abbrev pub result_of : Option Function → Sort
result_of None = sort.Int
result_of (Some f) = f.result

abbrev pub function_call : List Function → ℕ → Tms → Tm
function_call fs k args = Call k (result_of (slice_get fs k)) args

abbrev pub operator_call : Option Operator → Tms → Tm
operator_call None args = Int (pos 0)
operator_call (Some op) args = operation op args

abbrev pub named_call : List Function → List ℕ → Option BuiltIn → Tms → Tm
named_call fs w None args = function_call fs (number_in fs w) args
named_call fs w (Some b) args = operator_call (operator_of b) args

-- what a word before round brackets says
abbrev pub call_term : List Function → List ℕ → Tms → Tm
call_term fs w args = cond (bytes_eq w (codes "-")) (operation (operator.Un un.Neg) args) (named_call fs w (built_in_of w) args)

-- the operator that is written so between its arguments
abbrev pub mark_operator : List ℕ → BinOp
mark_operator o =
    cond (bytes_eq o (codes "+")) bin.Add (cond (bytes_eq o (codes "-")) bin.Sub (cond (bytes_eq o (codes "*")) bin.Mul
    (cond (bytes_eq o (codes "==")) bin.Eq (cond (bytes_eq o (codes "<")) bin.Lt (cond (bytes_eq o (codes "<=")) bin.Le
    (cond (bytes_eq o (codes "&&")) bin.LogicAnd (cond (bytes_eq o (codes "||")) bin.LogicOr bin.Implies)))))))

-- an operator that is told by its word
pub record IsCalled (op : Operator) : Type 0 where
  pub word : IsWord (operator_word op)
  pub called : (fs : List Function) (args : Tms) → call_term fs (operator_word op) args ≡ operation op args

pub un_int : IsCalled (operator.Un un.Int)
unfolding operator_word built_in un_eq bin_eq counted_eq
un_int = record { word = record { some = omega arith; all = refl }; called = λ fs args. refl }

pub un_word : IsCalled (operator.Un un.Word)
unfolding operator_word built_in un_eq bin_eq counted_eq
un_word = record { word = record { some = omega arith; all = refl }; called = λ fs args. refl }

pub un_not : IsCalled (operator.Un un.Not)
unfolding operator_word built_in un_eq bin_eq counted_eq
un_not = record { word = record { some = omega arith; all = refl }; called = λ fs args. refl }

pub un_hi : IsCalled (operator.Un un.Hi)
unfolding operator_word built_in un_eq bin_eq counted_eq
un_hi = record { word = record { some = omega arith; all = refl }; called = λ fs args. refl }

pub un_lo : IsCalled (operator.Un un.Lo)
unfolding operator_word built_in un_eq bin_eq counted_eq
un_lo = record { word = record { some = omega arith; all = refl }; called = λ fs args. refl }

pub un_len : IsCalled (operator.Un un.Len)
unfolding operator_word built_in un_eq bin_eq counted_eq
un_len = record { word = record { some = omega arith; all = refl }; called = λ fs args. refl }

pub bin_div : IsCalled (operator.Bin bin.Div)
unfolding operator_word built_in un_eq bin_eq counted_eq
bin_div = record { word = record { some = omega arith; all = refl }; called = λ fs args. refl }

pub bin_mod : IsCalled (operator.Bin bin.Mod)
unfolding operator_word built_in un_eq bin_eq counted_eq
bin_mod = record { word = record { some = omega arith; all = refl }; called = λ fs args. refl }

pub bin_and : IsCalled (operator.Bin bin.And)
unfolding operator_word built_in un_eq bin_eq counted_eq
bin_and = record { word = record { some = omega arith; all = refl }; called = λ fs args. refl }

pub bin_or : IsCalled (operator.Bin bin.Or)
unfolding operator_word built_in un_eq bin_eq counted_eq
bin_or = record { word = record { some = omega arith; all = refl }; called = λ fs args. refl }

pub bin_xor : IsCalled (operator.Bin bin.Xor)
unfolding operator_word built_in un_eq bin_eq counted_eq
bin_xor = record { word = record { some = omega arith; all = refl }; called = λ fs args. refl }

pub bin_mulhi : IsCalled (operator.Bin bin.Mulhi)
unfolding operator_word built_in un_eq bin_eq counted_eq
bin_mulhi = record { word = record { some = omega arith; all = refl }; called = λ fs args. refl }

pub bin_pair : IsCalled (operator.Bin bin.Pair)
unfolding operator_word built_in un_eq bin_eq counted_eq
bin_pair = record { word = record { some = omega arith; all = refl }; called = λ fs args. refl }

pub bin_paddd : IsCalled (operator.Bin bin.Paddd)
unfolding operator_word built_in un_eq bin_eq counted_eq
bin_paddd = record { word = record { some = omega arith; all = refl }; called = λ fs args. refl }

pub bin_pshufb : IsCalled (operator.Bin bin.Pshufb)
unfolding operator_word built_in un_eq bin_eq counted_eq
bin_pshufb = record { word = record { some = omega arith; all = refl }; called = λ fs args. refl }

pub bin_aesenc : IsCalled (operator.Bin bin.Aesenc)
unfolding operator_word built_in un_eq bin_eq counted_eq
bin_aesenc = record { word = record { some = omega arith; all = refl }; called = λ fs args. refl }

pub bin_aesenclast : IsCalled (operator.Bin bin.Aesenclast)
unfolding operator_word built_in un_eq bin_eq counted_eq
bin_aesenclast = record { word = record { some = omega arith; all = refl }; called = λ fs args. refl }

pub bin_byteat : IsCalled (operator.Bin bin.ByteAt)
unfolding operator_word built_in un_eq bin_eq counted_eq
bin_byteat = record { word = record { some = omega arith; all = refl }; called = λ fs args. refl }

pub bin_dwordat : IsCalled (operator.Bin bin.DwordAt)
unfolding operator_word built_in un_eq bin_eq counted_eq
bin_dwordat = record { word = record { some = omega arith; all = refl }; called = λ fs args. refl }

pub counted_called : (op : CountedOp) → IsCalled (operator.Counted op)
unfolding operator_word built_in un_eq bin_eq counted_eq
counted_called counted.Shl = record { word = record { some = omega arith; all = refl }; called = λ fs args. refl }
counted_called counted.Shr = record { word = record { some = omega arith; all = refl }; called = λ fs args. refl }
counted_called counted.Rol = record { word = record { some = omega arith; all = refl }; called = λ fs args. refl }
counted_called counted.Ror = record { word = record { some = omega arith; all = refl }; called = λ fs args. refl }
counted_called counted.Pshufd = record { word = record { some = omega arith; all = refl }; called = λ fs args. refl }
counted_called counted.Pslld = record { word = record { some = omega arith; all = refl }; called = λ fs args. refl }
counted_called counted.Psrld = record { word = record { some = omega arith; all = refl }; called = λ fs args. refl }
counted_called counted.Pslldq = record { word = record { some = omega arith; all = refl }; called = λ fs args. refl }
counted_called counted.Psrldq = record { word = record { some = omega arith; all = refl }; called = λ fs args. refl }

pub ite_called : IsCalled operator.Ite
unfolding operator_word built_in un_eq bin_eq counted_eq
ite_called = record { word = record { some = omega arith; all = refl }; called = λ fs args. refl }

pub put_called : IsCalled operator.Put
unfolding operator_word built_in un_eq bin_eq counted_eq
put_called = record { word = record { some = omega arith; all = refl }; called = λ fs args. refl }

pub put_dword_called : IsCalled operator.PutDword
unfolding operator_word built_in un_eq bin_eq counted_eq
put_dword_called = record { word = record { some = omega arith; all = refl }; called = λ fs args. refl }

pub clmul_called : IsCalled operator.Clmul
unfolding operator_word built_in un_eq bin_eq counted_eq
clmul_called = record { word = record { some = omega arith; all = refl }; called = λ fs args. refl }

pub all_called : IsCalled operator.All
unfolding operator_word built_in un_eq bin_eq counted_eq
all_called = record { word = record { some = omega arith; all = refl }; called = λ fs args. refl }
