-- What is answered: a value, or why there is none. Want of memory is a free answer.
use Rattle.std.specs.Prelude.{◌≡◌, Result, Ok, Err}
use Rattle.term_core.specs.declared.literal.Literal.{Literal}
use Rattle.term_core.specs.Literals.{literal_value}
use Rattle.term_core.specs.Value.{Val}
use Rattle.term_value.specs.declared.fault.ValueFault.{ValueFault}
use Rattle.term_value.specs.declared.fault.ValueFault.TheVariants.{Unbound, Long, TooWide, NoMemory}

-- why there is none
abbrev pub Fails : Result Val ValueFault → ValueFault → Type 0
Fails wanted Unbound = wanted ≡ Err Unbound
Fails wanted Long = wanted ≡ Err Long
Fails wanted TooWide = wanted ≡ Err TooWide
Fails wanted NoMemory = Unit {0}

abbrev pub Answers : Result Val ValueFault → Result Literal ValueFault → Type 0
Answers wanted (Ok x) = wanted ≡ Ok (literal_value x)
Answers wanted (Err fault) = Fails wanted fault
