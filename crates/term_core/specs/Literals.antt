-- Literals as values, and the values that an environment gives to names.
use Rattle.std.specs.Prelude.{ℕ, List, Bool, ◌&&◌, Option, Some, None, option_map, find}
use Rattle.std.specs.Str.{bytes_eq}
use Rattle.x64_syntax.specs.declared.type_words.Sort.{Sort}
use Rattle.x64_syntax.specs.declared.type_words.Sort.TheVariants as sort
use Rattle.term_core.specs.declared.literal.Literal.{Literal}
use Rattle.term_core.specs.declared.literal.Literal.TheVariants as literal
use Rattle.term_core.specs.declared.literal.Entry.{Entry}
use Rattle.term_core.specs.Operators.{sort_eq}
use Rattle.term_core.specs.Value.{Val, Whole, Truth, Word, Wide, Array}

abbrev pub literal_value : Literal → Val
literal_value (literal.Int z) = Whole z
literal_value (literal.Bool b) = Truth b
literal_value (literal.W64 n) = Word n
literal_value (literal.W128 n) = Wide n
literal_value (literal.Arr ws) = Array ws.items

abbrev pub literal_sort : Literal → Sort
literal_sort (literal.Int z) = sort.Int
literal_sort (literal.Bool b) = sort.Bool
literal_sort (literal.W64 n) = sort.W64
literal_sort (literal.W128 n) = sort.W128
literal_sort (literal.Arr ws) = sort.Arr

abbrev pub val_sort : Val → Sort
val_sort (Whole z) = sort.Int
val_sort (Truth b) = sort.Bool
val_sort (Word n) = sort.W64
val_sort (Wide n) = sort.W128
val_sort (Array ws) = sort.Arr

-- the values of the variables that have one
abbrev pub Known : Type 0
Known = List ℕ → Sort → Option Val

-- the literal is an entry of the name where it is of the name's sort, and the first entry counts
abbrev pub entry_value : List Entry → Known
entry_value es text s = option_map (λ e. literal_value e.value) (find (λ e. bytes_eq e.name text && sort_eq (literal_sort e.value) s) es)
