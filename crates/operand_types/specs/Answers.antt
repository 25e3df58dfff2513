-- What `term_in` answers.
use Rattle.std.specs.Prelude.{◌≡◌, Option, Some, None, Result, Ok, Err}
use Rattle.term_core.specs.declared.term.Term.{Term}
use Rattle.term_core.specs.Terms.{Tm, tree}
use Rattle.operand_types.specs.declared.fault.TermFault.{TermFault}
use Rattle.operand_types.specs.declared.fault.TermFault.TheVariants as fault

-- exactly that term is given, or there is none, unless memory ran out
abbrev pub Makes : Result Term TermFault → Option Tm → Type 0
Makes (Ok t) o = o ≡ Some (tree t)
Makes (Err fault.Unfit) o = o ≡ None
Makes (Err fault.NoMemory) o = Unit {0}
