-- What one instruction does, and runs of flat code.
use Rattle.std.specs.Prelude.{◌≡◌, ℕ, zero, suc, ◌+◌, ◌-◌, ◌/◌, ◌%◌, take, Bool, true, false, ◌&&◌, ◌==◌, List, [], ◌∷◌, ◌++◌, Option, Some, None, slice_get, position}
use Rattle.std.specs.List.{find}
use Rattle.std.specs.Int.{to_le_bytes, w64}
use Rattle.x64_syntax.specs.declared.places.Reg.TheVariants.{Rsp}
use Rattle.x64_syntax.specs.declared.places.FlagName.{FlagName}
use Rattle.x64_syntax.specs.declared.places.FlagName.TheVariants.{Cf, Zf, Sf, Of}
use Rattle.x64_syntax.specs.declared.places.MachinePlace.TheVariants.{Reg, Flag}
use Rattle.x64_syntax.specs.declared.operands.Mem.{Mem}
use Rattle.x64_syntax.specs.declared.instructions.Ins.{Ins}
use Rattle.x64_syntax.specs.declared.instructions.Ins.TheVariants.{Push, Pop}
use Rattle.x64_syntax.specs.Instructions.{cond_flags, loads_from, stores_to}
use Rattle.x64_blocks.specs.Memory.{Range, store}
use Rattle.x64_syntax.specs.declared.conditions.Cond.{Cond}
use Rattle.x64_syntax.specs.declared.items.Item.{Item}
use Rattle.x64_syntax.specs.declared.items.Item.TheVariants as item
use Rattle.term_core.specs.Value.{T, Val, Word, word, truth}
use Rattle.x64_meaning.specs.declared.machine.Flag.{Flag as FlagValue}
use Rattle.x64_meaning.specs.declared.machine.Flag.TheVariants.{Zero, One, Undefined}
use Rattle.x64_meaning.specs.declared.machine.Obs.{Obs}
use Rattle.x64_meaning.specs.declared.machine.Obs.TheVariants.{Access as AccessOf, Branch}
use Rattle.x64_meaning.specs.declared.machine.Fault.{Fault}
use Rattle.x64_meaning.specs.declared.machine.Fault.TheVariants.{Outside, UndefinedFlag}
use Rattle.x64_meaning.specs.State.{State, flag, reg, read, write, load}
use Rattle.x64_meaning.specs.Exp.{Exp, exp_value, no_words}
use Rattle.x64_meaning.specs.Table.{holds, address_of, equations, stored_words, load_size, store_size, apply, reads}

-- the value of an expression over one state
abbrev pub value_in : State → Exp → Val
value_in s e = exp_value (read s) (read s) no_words e

-- the address of a memory operand, as in the table
abbrev pub address : State → Mem → ℕ
address s m = word (value_in s (address_of m))

abbrev pub is_undefined : FlagValue → Bool
is_undefined Zero = false
is_undefined One = false
is_undefined Undefined = true

-- the first of the flags that is read and undefined
abbrev pub first_undefined : (FlagName → Bool) → State → Option FlagName
first_undefined is_read s = find (λ f. is_read f && is_undefined (flag s f)) (Cf ∷ Zf ∷ Sf ∷ Of ∷ [])

-- what a step leaves and what an observer sees of it, or why it can't be made
pub data Outcome : Type 0 where
  Done : State → List Obs → Outcome
  Faulted : Fault → Outcome

-- the access of an instruction: where and of how many bytes it loads, or where it stores
pub data Access : Type 0 where
  No : Access
  Loads : ℕ → ℕ → Access
  Stores : ℕ → Access

abbrev pub operand_access : State → Ins → Option Mem → Option Mem → Access
operand_access s i None None = No
operand_access s i (Some m) _ = Loads (address s m) (load_size i)
operand_access s i None (Some m) = Stores (address s m)

-- the slot below the stack pointer is pushed, and the one at it popped
abbrev pub access : State → Ins → Access
access s (Push r) = Stores ((reg s Rsp + (T - 8)) % T)
access s (Pop d) = Loads (reg s Rsp) 8
access s i = operand_access s i (loads_from i) (stores_to i)

-- the stack pointer after an instruction
abbrev pub after_stack : Ins → State → State
after_stack (Push r) s = write s (Reg Rsp) (Word ((reg s Rsp + (T - 8)) % T))
after_stack (Pop d) s = write s (Reg Rsp) (Word ((reg s Rsp + 8) % T))
after_stack i s = s

-- the words of a number, the lowest first
abbrev pub word_in : ℕ → ℕ → Val
word_in n zero = Word (n % T)
word_in n (suc k) = word_in (n / T) k

-- the state after, by the words that are loaded
abbrev pub after : State → (ℕ → Val) → Ins → State
after s loaded i = after_stack i (apply s loaded (equations i) s)

-- the bytes of words, and those of an instruction's words that are stored
abbrev pub bytes_of : State → List Exp → List ℕ
bytes_of s [] = []
bytes_of s (e ∷ es) = to_le_bytes w64 (word (value_in s e)) ++ bytes_of s es

abbrev pub stored_bytes : State → Ins → List ℕ
stored_bytes s i = take (store_size i) (bytes_of s (stored_words i))

abbrev pub with_loaded : State → Ins → ℕ → ℕ → Option ℕ → Outcome
with_loaded s i a size None = Faulted (Outside a)
with_loaded s i a size (Some n) = Done (after s (word_in n) i) (AccessOf a size false ∷ [])

abbrev pub with_stored : State → Ins → ℕ → ℕ → Option (List Range) → Outcome
with_stored s i a size None = Faulted (Outside a)
with_stored s i a size (Some bs) = Done (record (after s no_words i) { blocks = bs }) (AccessOf a size true ∷ [])

abbrev pub with_access : State → Ins → Access → Outcome
with_access s i No = Done (after s no_words i) []
with_access s i (Loads a size) = with_loaded s i a size (load s a size)
with_access s i (Stores a) = with_stored s i a (store_size i) (store s.blocks a (stored_bytes s i))

abbrev pub with_flags : State → Ins → Option FlagName → Outcome
with_flags s i (Some f) = Faulted (UndefinedFlag f)
with_flags s i None = with_access s i (access s i)

-- What an instruction does: an undefined flag that it reads is a fault, and so is an access that no block holds;
-- else each place on the left of its equations gets the value on the right, the words that it stores are stored, PUSH
-- and POP move the stack pointer, and nothing else differs.
abbrev pub does : Ins → State → Outcome
does i s = with_flags s i (first_undefined (λ f. reads i (Flag f)) s)

-- whether a condition holds, as in the table
abbrev pub cond_holds : Cond → State → Bool
cond_holds c s = truth (value_in s (holds c))

-- One step: it goes on at a position, with the state that it leaves and with what is seen of it; it ends the run; it can't
-- be made; or it leaves the list.
pub data Step : Type 0 where
  GoesOn : ℕ → State → List Obs → Step
  Ends : Step
  Stops : Fault → Step
  Leaves : Step

abbrev pub is_label : ℕ → Item → Bool
is_label l (item.Label m) = l == m
is_label l _ = false

-- a step to a label
abbrev pub label_step : Option ℕ → State → List Obs → Step
label_step None s seen = Leaves
label_step (Some pos) s seen = GoesOn pos s seen

abbrev pub ins_step : Outcome → ℕ → Step
ins_step (Done s seen) pos = GoesOn (pos + 1) s seen
ins_step (Faulted f) pos = Stops f

-- a conditional jump, by the first flag that it reads and that is undefined, and by whether its condition holds
abbrev pub branch_step : Option FlagName → Bool → Option ℕ → ℕ → State → Step
branch_step (Some f) is_met target pos s = Stops (UndefinedFlag f)
branch_step None true target pos s = label_step target s (Branch true ∷ [])
branch_step None false target pos s = GoesOn (pos + 1) s (Branch false ∷ [])

-- by the item at the position; labels and entries do nothing, and `ret` ends the run
abbrev pub item_step : List Item → Option Item → ℕ → State → Step
item_step items None pos s = Leaves
item_step items (Some (item.Ins i)) pos s = ins_step (does i s) pos
item_step items (Some (item.Label l)) pos s = GoesOn (pos + 1) s []
item_step items (Some (item.Entry name)) pos s = GoesOn (pos + 1) s []
item_step items (Some (item.Jmp l)) pos s = label_step (position (is_label l) items) s []
item_step items (Some (item.Jcc c l)) pos s =
    branch_step (find (λ f. is_undefined (flag s f)) (cond_flags c)) (cond_holds c s) (position (is_label l) items) pos s
item_step items (Some item.Ret) pos s = Ends

abbrev pub step : List Item → ℕ → State → Step
step items pos s = item_step items (slice_get items pos) pos s

-- the state of a run, what was seen so far, and how many steps were made
pub record Way : Type 0 where
  pub state : State
  pub seen : List Obs
  pub steps : ℕ

abbrev pub start : State → Way
start s = record { state = s; seen = []; steps = 0 }

-- the way after one more step
abbrev pub next_way : Way → State → List Obs → Way
next_way w s seen = record { state = s; seen = w.seen ++ seen; steps = w.steps + 1 }

-- how a run stands after at most so many steps
pub data End : Type 0 where
  Running : ℕ → Way → End
  Ended : Way → End
  Stopped : Fault → End
  Past : End

-- what follows a step
abbrev pub follow : Way → Step → (ℕ → Way → End) → End
follow w (GoesOn pos s seen) next = next pos (next_way w s seen)
follow w Ends next = Ended (next_way w w.state [])
follow w (Stops f) next = Stopped f
follow w Leaves next = Past

-- at most so many steps from a position
abbrev pub run : List Item → ℕ → ℕ → Way → End
run items zero pos w = Running pos w
run items (suc n) pos w = follow w (step items pos w.state) (run items n)

-- these items stand in a list from a position on
abbrev pub StandAt : List Item → ℕ → List Item → Type 0
StandAt items at [] = Unit {0}
StandAt items at (i ∷ is) = (slice_get items at ≡ Some i) × StandAt items (at + 1) is
