-- Expressions over the values of places before and after: the right sides of the instruction table, and what contracts
-- ask. Such an expression is read twice: as a value, and as a term.
use Rattle.std.specs.Prelude.{ℕ, ℤ, Bool, true, ◌&&◌, ◌||◌, false, if◌then◌else◌, ◌%◌, List}
use Rattle.x64_syntax.specs.declared.places.MachinePlace.{MachinePlace}
use Rattle.x64_syntax.specs.Places.{place_eq}
pub use Rattle.x64_syntax.specs.Instructions.{is_among as among}
use Rattle.x64_syntax.specs.declared.type_words.Sort.{Sort}
use Rattle.x64_syntax.specs.declared.type_words.Sort.TheVariants as sort
use Rattle.term_core.specs.declared.operator.UnOp.{UnOp}
use Rattle.term_core.specs.declared.operator.BinOp.{BinOp}
use Rattle.term_core.specs.declared.operator.CountedOp.{CountedOp}
use Rattle.term_core.specs.Operators.{un_sort, bin_sort, counted_sort}
use Rattle.term_core.specs.Terms.{Tm}
use Rattle.term_core.specs.Terms as tm
use Rattle.term_core.specs.Value.{T, Val, Whole, Word, truth, cast, un_value, bin_value, clmul_value, counted_value}
use Rattle.x64_meaning.specs.State.{place_sort}

pub data Exp : Type 0 where
  -- a place's value before and after
  Before : MachinePlace → Exp
  After : MachinePlace → Exp
  -- a word of those that are loaded, the lowest first
  Loaded : ℕ → Exp
  Int : ℤ → Exp
  W64 : ℕ → Exp
  Un : UnOp → Exp → Exp
  Bin : BinOp → Exp → Exp → Exp
  Ite : Exp → Exp → Exp → Exp
  Clmul : Exp → Exp → ℕ → Exp
  Shift : CountedOp → ℕ → Exp → Exp

abbrev pub exp_sort : Exp → Sort
exp_sort (Before p) = place_sort p
exp_sort (After p) = place_sort p
exp_sort (Loaded k) = sort.W64
exp_sort (Int z) = sort.Int
exp_sort (W64 n) = sort.W64
exp_sort (Un op e) = un_sort op (exp_sort e)
exp_sort (Bin op e f) = bin_sort op (exp_sort e)
exp_sort (Ite c e f) = exp_sort e
exp_sort (Clmul e f n) = sort.W128
exp_sort (Shift op n e) = counted_sort op

-- where nothing is loaded
abbrev pub no_words : ℕ → Val
no_words k = Word 0

-- the value, by what the places hold before and after, and the words that are loaded
abbrev pub exp_value : (MachinePlace → Val) → (MachinePlace → Val) → (ℕ → Val) → Exp → Val
exp_value before after loaded (Before p) = before p
exp_value before after loaded (After p) = after p
exp_value before after loaded (Loaded k) = loaded k
exp_value before after loaded (Int z) = Whole z
exp_value before after loaded (W64 n) = Word (n % T)
exp_value before after loaded (Un op e) = un_value op (exp_sort e) (exp_value before after loaded e)
exp_value before after loaded (Bin op e f) =
    bin_value op (exp_sort e) (exp_value before after loaded e) (exp_value before after loaded f)
exp_value before after loaded (Ite c e f) =
    if truth (exp_value before after loaded c)
    then exp_value before after loaded e
    else cast (exp_sort e) (exp_value before after loaded f)
exp_value before after loaded (Clmul e f n) = clmul_value (exp_value before after loaded e) (exp_value before after loaded f) n
exp_value before after loaded (Shift op n e) = counted_value op n (exp_value before after loaded e)

-- the term, by the terms of the places before and after, and of the words that are loaded
abbrev pub exp_term : (MachinePlace → Tm) → (MachinePlace → Tm) → (ℕ → Tm) → Exp → Tm
exp_term before after loaded (Before p) = before p
exp_term before after loaded (After p) = after p
exp_term before after loaded (Loaded k) = loaded k
exp_term before after loaded (Int z) = tm.Int z
exp_term before after loaded (W64 n) = tm.W64 n
exp_term before after loaded (Un op e) = tm.Un op (exp_term before after loaded e)
exp_term before after loaded (Bin op e f) = tm.Bin op (exp_term before after loaded e) (exp_term before after loaded f)
exp_term before after loaded (Ite c e f) =
    tm.Ite (exp_term before after loaded c) (exp_term before after loaded e) (exp_term before after loaded f)
exp_term before after loaded (Clmul e f n) = tm.Clmul (exp_term before after loaded e) (exp_term before after loaded f) n
exp_term before after loaded (Shift op n e) = tm.Shift op n (exp_term before after loaded e)

-- the expression takes the value before of the place
abbrev pub takes : MachinePlace → Exp → Bool
takes p (Before q) = place_eq p q
takes p (After q) = false
takes p (Loaded k) = false
takes p (Int z) = false
takes p (W64 n) = false
takes p (Un op e) = takes p e
takes p (Bin op e f) = takes p e || takes p f
takes p (Ite c e f) = takes p c || (takes p e || takes p f)
takes p (Clmul e f n) = takes p e || takes p f
takes p (Shift op n e) = takes p e

-- the expression takes the values after of these places alone
abbrev pub knows : List MachinePlace → Exp → Bool
knows places (Before q) = true
knows places (After q) = among places q
knows places (Loaded k) = true
knows places (Int z) = true
knows places (W64 n) = true
knows places (Un op e) = knows places e
knows places (Bin op e f) = knows places e && knows places f
knows places (Ite c e f) = knows places c && (knows places e && knows places f)
knows places (Clmul e f n) = knows places e && knows places f
knows places (Shift op n e) = knows places e
