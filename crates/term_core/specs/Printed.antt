-- The text of a term.
use Rattle.std.specs.Prelude.{ℕ, List, [], ◌∷◌, ◌++◌, Bool, true, false, Option, Some, None, slice_get, codes, decimal}
use Rattle.std.specs.Fmt.{signed_decimal}
use Rattle.std.specs.List.{find}
use Rattle.x64_syntax.specs.declared.built_in.BuiltIn.{BuiltIn}
use Rattle.x64_syntax.specs.Tables.{built_in}
use Rattle.term_core.specs.declared.operator.Operator.{Operator}
use Rattle.term_core.specs.declared.operator.Operator.TheVariants as operator
use Rattle.term_core.specs.declared.operator.UnOp.{UnOp}
use Rattle.term_core.specs.declared.operator.UnOp.TheVariants as un
use Rattle.term_core.specs.declared.operator.BinOp.{BinOp}
use Rattle.term_core.specs.declared.operator.BinOp.TheVariants as bin
use Rattle.term_core.specs.Operators.{operator_of}
use Rattle.term_core.specs.Terms.{Tm, Tms, Name, Int, W64, W128, TruthTerm, Un, Bin, Ite, Put, PutDword, Clmul, Shift, Call, All, no_tms, more_tms, un_eq, bin_eq, counted_eq}
use Rattle.term_core.specs.Functions.{Function}

abbrev pub operator_eq : Operator → Operator → Bool
operator_eq (operator.Un o) (operator.Un p) = un_eq o p
operator_eq (operator.Bin o) (operator.Bin p) = bin_eq o p
operator_eq (operator.Counted o) (operator.Counted p) = counted_eq o p
operator_eq operator.Ite operator.Ite = true
operator_eq operator.Put operator.Put = true
operator_eq operator.PutDword operator.PutDword = true
operator_eq operator.Clmul operator.Clmul = true
operator_eq operator.All operator.All = true
operator_eq _ _ = false

abbrev pub is_operator : Operator → Option Operator → Bool
is_operator o None = false
is_operator o (Some p) = operator_eq o p

abbrev pub row_word : Option (List ℕ × BuiltIn) → List ℕ
row_word None = []
row_word (Some row) = row.0

-- how an operator that is written as a call is written: the name of the row that stands for it in the table of these
unfoldable pub operator_word : Operator → List ℕ
operator_word o = row_word (find (λ row. is_operator o (operator_of row.1)) built_in)

-- texts one behind the other, with a comma and a blank between them
abbrev pub commas : List (List ℕ) → List ℕ
commas [] = []
commas (a ∷ []) = a
commas (a ∷ b ∷ cs) = a ++ codes ", " ++ commas (b ∷ cs)

abbrev pub call_text : List ℕ → List (List ℕ) → List ℕ
call_text word args = word ++ codes "(" ++ commas args ++ codes ")"

abbrev pub infix_text : List ℕ → List ℕ → List ℕ → List ℕ
infix_text mark a b = codes "(" ++ a ++ (codes " " ++ mark ++ codes " ") ++ b ++ codes ")"

abbrev pub un_text : UnOp → List ℕ → List ℕ
un_text un.Neg a = codes "-(" ++ a ++ codes ")"
un_text un.LogicNot p = codes "!" ++ p
un_text op a = call_text (operator_word (operator.Un op)) (a ∷ [])

abbrev pub bin_text : BinOp → List ℕ → List ℕ → List ℕ
bin_text bin.Add a b = infix_text (codes "+") a b
bin_text bin.Sub a b = infix_text (codes "-") a b
bin_text bin.Mul a b = infix_text (codes "*") a b
bin_text bin.Eq a b = infix_text (codes "==") a b
bin_text bin.Lt a b = infix_text (codes "<") a b
bin_text bin.Le a b = infix_text (codes "<=") a b
bin_text bin.LogicAnd p q = infix_text (codes "&&") p q
bin_text bin.LogicOr p q = infix_text (codes "||") p q
bin_text bin.Implies p q = infix_text (codes "==>") p q
bin_text bin.Index x i = x ++ codes "[" ++ i ++ codes "]"
bin_text op a b = call_text (operator_word (operator.Bin op)) (a ∷ b ∷ [])

abbrev pub truth_text : Bool → List ℕ
truth_text true = codes "true"
truth_text false = codes "false"

abbrev pub name_of : Option Function → List ℕ
name_of None = []
name_of (Some f) = f.name

-- the name of the function with the number
abbrev pub function_name : List Function → ℕ → List ℕ
function_name fs k = name_of (slice_get fs k)

unfoldable mutual
  -- Operators between two terms stand in round brackets, with a blank on each side; numbers are decimal, with the suffix of
  -- their sort.
  pub printed : List Function → Tm → List ℕ
  printed fs (Name text s) = text
  printed fs (Int z) = signed_decimal z
  printed fs (W64 n) = decimal n ++ codes "w"
  printed fs (W128 n) = decimal n ++ codes "v"
  printed fs (TruthTerm b) = truth_text b
  printed fs (Un op a) = un_text op (printed fs a)
  printed fs (Bin op a b) = bin_text op (printed fs a) (printed fs b)
  printed fs (Ite c a b) = call_text (operator_word operator.Ite) (printed fs c ∷ printed fs a ∷ printed fs b ∷ [])
  printed fs (Put x i w) = call_text (operator_word operator.Put) (printed fs x ∷ printed fs i ∷ printed fs w ∷ [])
  printed fs (PutDword x j w) = call_text (operator_word operator.PutDword) (printed fs x ∷ printed fs j ∷ printed fs w ∷ [])
  printed fs (Clmul a b n) = call_text (operator_word operator.Clmul) (printed fs a ∷ printed fs b ∷ decimal n ∷ [])
  printed fs (Shift op n a) = call_text (operator_word (operator.Counted op)) (printed fs a ∷ decimal n ∷ [])
  printed fs (Call k s args) = call_text (function_name fs k) (printed_all fs args)
  printed fs (All text low high body) =
      call_text (operator_word operator.All) (text ∷ printed fs low ∷ printed fs high ∷ printed fs body ∷ [])

  pub printed_all : List Function → Tms → List (List ℕ)
  printed_all fs no_tms = []
  printed_all fs (more_tms t ts) = printed fs t ∷ printed_all fs ts
