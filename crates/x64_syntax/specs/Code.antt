-- Structured code, without where it lies in memory, and which code is the machine's.
use Rattle.std.specs.Prelude.{ℕ, zero, suc, ◌+◌, Bool, true, false, ◌&&◌, ◌==◌, is_ok, is_none, Option, Some, None, option_and_then, if◌then◌else◌}
use Rattle.x64_syntax.specs.declared.places.Reg.{Reg as GeneralReg}
use Rattle.x64_syntax.specs.declared.operands.Mem.{Mem}
use Rattle.x64_syntax.specs.declared.operands.Opr.{Opr}
use Rattle.x64_syntax.specs.declared.conditions.Cmp.{Cmp}
use Rattle.x64_syntax.specs.declared.instructions.AluOp.TheVariants as alu
use Rattle.x64_syntax.specs.declared.instructions.Ins.{Ins}
use Rattle.x64_syntax.specs.declared.instructions.Ins.TheVariants.{Alu, Push, Pop}
use Rattle.x64_syntax.specs.Ranges.{is_u32}
use Rattle.x64_syntax.specs.Instructions.{accesses, form_of}

-- code, each node with the rest of its list
pub data Prog : Type 0 where
  Done : Prog
  Step : Ins → Option ℕ → Prog → Prog
  If : Cmp → GeneralReg → Opr → Prog → Prog → Prog → Prog
  Loop : Cmp → GeneralReg → Opr → Prog → Prog → Prog

-- a block, of a number of 32 bits, where there is an access
abbrev pub has_block : Option ℕ → Option Mem → Bool
has_block None None = true
has_block (Some k) (Some m) = is_u32 k
has_block _ _ = false

-- an instruction of the machine, with a block exactly where it loads from or stores to a memory operand
abbrev pub is_step : Ins → Option ℕ → Bool
is_step i block = is_ok (form_of i) && has_block block (accesses i)

-- a test compares what Cmp64 compares, and nothing in memory
abbrev pub is_test : GeneralReg → Opr → Bool
is_test left right = is_ok (form_of (Alu alu.Cmp left right)) && is_none (accesses (Alu alu.Cmp left right))

abbrev pub are_forms : Prog → Bool
are_forms Done = true
are_forms (Step i b p) = is_step i b && are_forms p
are_forms (If c l r first second p) = (is_test l r && (are_forms first && are_forms second)) && are_forms p
are_forms (Loop c l r body p) = (is_test l r && are_forms body) && are_forms p

-- how many nodes there are, nested ones included
abbrev pub nodes : Prog → ℕ
nodes Done = 0
nodes (Step i b p) = 1 + nodes p
nodes (If c l r first second p) = 1 + nodes first + nodes second + nodes p
nodes (Loop c l r body p) = 1 + nodes body + nodes p

-- how many slots are pushed after an instruction; there has to be one to pop
abbrev pub slots_after : Ins → ℕ → Option ℕ
slots_after (Push s) k = Some (k + 1)
slots_after (Pop d) zero = None
slots_after (Pop d) (suc k) = Some k
slots_after i k = Some k

-- how many slots both arms leave
abbrev pub common_slots : Option ℕ → Option ℕ → Option ℕ
common_slots (Some a) (Some b) = if a == b then Some a else None
common_slots _ _ = None

abbrev pub none_left : Option ℕ → Bool
none_left (Some zero) = true
none_left _ = false

-- How many slots are pushed after code, by how many are before: both arms leave as many, a turn leaves none, and neither
-- pops what was pushed before it.
abbrev pub slots : Prog → ℕ → Option ℕ
slots Done k = Some k
slots (Step i b p) k = option_and_then (slots p) (slots_after i k)
slots (If c l r first second p) k = option_and_then (λ m. slots p (k + m)) (common_slots (slots first 0) (slots second 0))
slots (Loop c l r body p) k = if none_left (slots body 0) then slots p k else None

-- The instructions and tests are the machine's, there are fewer than 2^32 nodes, and all that is pushed is popped.
abbrev pub code_ok : Prog → Bool
code_ok p = are_forms p && (is_u32 (nodes p) && none_left (slots p 0))
