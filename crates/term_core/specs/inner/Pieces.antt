-- The pieces of a text round its arguments.
use Rattle.std.specs.Prelude.{ℕ, List, [], ◌++◌, codes}
use Rattle.term_core.specs.declared.operator.Operator.TheVariants as operator
use Rattle.term_core.specs.declared.operator.UnOp.{UnOp}
use Rattle.term_core.specs.declared.operator.UnOp.TheVariants as un
use Rattle.term_core.specs.declared.operator.BinOp.{BinOp}
use Rattle.term_core.specs.declared.operator.BinOp.TheVariants as bin
use Rattle.term_core.specs.Printed.{operator_word}

-- what stands before an argument, and behind it
abbrev pub un_front : UnOp → List ℕ
un_front un.Neg = codes "-("
un_front un.LogicNot = codes "!"
un_front op = operator_word (operator.Un op) ++ codes "("

abbrev pub un_end : UnOp → List ℕ
un_end un.LogicNot = []
un_end _ = codes ")"

-- what stands before two arguments, between them, and behind them
abbrev pub bin_front : BinOp → List ℕ
bin_front bin.Index = []
bin_front bin.Add = codes "("
bin_front bin.Sub = codes "("
bin_front bin.Mul = codes "("
bin_front bin.Eq = codes "("
bin_front bin.Lt = codes "("
bin_front bin.Le = codes "("
bin_front bin.LogicAnd = codes "("
bin_front bin.LogicOr = codes "("
bin_front bin.Implies = codes "("
bin_front op = operator_word (operator.Bin op) ++ codes "("

abbrev pub bin_middle : BinOp → List ℕ
bin_middle bin.Index = codes "["
bin_middle bin.Add = codes " + "
bin_middle bin.Sub = codes " - "
bin_middle bin.Mul = codes " * "
bin_middle bin.Eq = codes " == "
bin_middle bin.Lt = codes " < "
bin_middle bin.Le = codes " <= "
bin_middle bin.LogicAnd = codes " && "
bin_middle bin.LogicOr = codes " || "
bin_middle bin.Implies = codes " ==> "
bin_middle _ = codes ", "

abbrev pub bin_end : BinOp → List ℕ
bin_end bin.Index = codes "]"
bin_end _ = codes ")"
