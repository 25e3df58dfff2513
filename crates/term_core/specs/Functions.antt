-- Functions of sources.
use Rattle.std.specs.Prelude.{ℕ, List, map, Option, option_map}
use Rattle.x64_syntax.specs.declared.type_words.Sort.{Sort}
use Rattle.term_core.specs.declared.functions.Variable.{Variable}
use Rattle.term_core.specs.declared.functions.Fun.{Fun}
use Rattle.term_core.specs.Terms.{Tm, tree}

-- A function that isn't recursive is worth its body. A recursive one is worth its zero part where its last argument is 0
-- or less, and else its body, in which `prev` is its value at one less.
pub record Function : Type 0 where
  pub name : List ℕ
  pub params : List Variable
  pub result : Sort
  pub zero_part : Option Tm
  pub body : Tm

abbrev pub function : Fun → Function
function f = record { name = f.name; params = f.params; result = f.result; zero_part = option_map tree f.zero_part; body = tree f.body }

abbrev pub functions : List Fun → List Function
functions = map function
