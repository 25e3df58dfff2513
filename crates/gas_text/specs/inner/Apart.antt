-- How a line is taken apart. Only what a line can be is found: whether it is that line is told by the printed line.
use Rattle.std.specs.Prelude.{ℕ, ◌-◌, ◌^◌, ℤ, pos, neg_ℤ, ◌==◌, List, [], ◌∷◌, codes, Option, Some, None, option_map, option_and_then, if◌then◌else◌}
use Rattle.std.specs.Str.{bytes_eq}
use Rattle.x64_syntax.specs.declared.places.Reg.{Reg}
use Rattle.x64_syntax.specs.declared.operands.Mem.{Mem}
use Rattle.x64_syntax.specs.declared.instructions.Ins.{Ins}
use Rattle.x64_syntax.specs.declared.items.Item.{Item}
use Rattle.x64_syntax.specs.declared.items.Item.TheVariants as item
use Rattle.x64_syntax.specs.declared.operations.Operation.{Operation}
use Rattle.x64_syntax.specs.declared.operations.Operation.TheVariants as op
use Rattle.x64_syntax.specs.Places.{reg_of, low_of, xmm_of}
use Rattle.x64_syntax.specs.Ranges.{is_i32}
use Rattle.x64_syntax.specs.inner.Digits.{number_of}
use Rattle.x64_syntax.specs.inner.Mnemonics.{gas_operation_of}
use Rattle.asm_lines.specs.declared.forms.Part.{Part}
use Rattle.asm_lines.specs.declared.forms.Part.TheVariants.{General, Low, Wide, Number, Memory}
use Rattle.asm_lines.specs.declared.forms.Parts.{Parts}
use Rattle.asm_lines.specs.declared.forms.Parts.TheVariants.{One, Two, Three}
use Rattle.asm_lines.specs.inner.Assembled.{instruction, at_most}
use Rattle.asm_lines.specs.inner.Conditions.{cond_of}

-- what is before the first such byte, and what is behind it
abbrev pub sides_of : ℕ → List ℕ → Option (List ℕ × List ℕ)
sides_of b [] = None
sides_of b (x ∷ xs) = if x == b then Some ([], xs) else option_map (λ p. (x ∷ p.0, p.1)) (sides_of b xs)

-- a text as far as a comma
abbrev pub front_of : Option (List ℕ × List ℕ) → List ℕ → List ℕ
front_of None text = text
front_of (Some p) text = p.0

abbrev pub before_comma : List ℕ → List ℕ
before_comma text = front_of (sides_of 44 text) text

-- a number with sign
abbrev pub number : List ℕ → Option ℤ
number [] = None
number (b ∷ bs) = if b == 45 then option_map (λ n. neg_ℤ (pos n)) (number_of bs) else option_map pos (number_of (b ∷ bs))

-- `%rax`
abbrev pub register : List ℕ → Option Reg
register [] = None
register (b ∷ bs) = if b == 37 then reg_of bs else None

-- a number of 32 bits with sign
abbrev pub displacement : ℤ → Option ℤ
displacement z = if is_i32 z then Some z else None

-- `%rcx,8`
abbrev pub index_of : List ℕ → Option (Reg × ℕ)
index_of text =
    option_and_then (λ p. option_and_then (λ r. option_map (λ n. (r, n)) (option_and_then (at_most 255) (number p.1))) (register p.0)) (sides_of 44 text)

-- what is between the parentheses, with a displacement
abbrev pub address_of : ℤ → List ℕ → Option (List ℕ × List ℕ) → Option Mem
address_of z inside None = option_map (λ r. record { base = r; index = None; disp = z }) (register inside)
address_of z inside (Some p) = option_and_then (λ r. option_map (λ i. record { base = r; index = Some i; disp = z }) (index_of p.1)) (register p.0)

-- `0(%rsi)`, `-8(%rsi,%rcx,8)`
abbrev pub memory : List ℕ → Option Mem
memory text =
    option_and_then (λ p. option_and_then (λ q. option_and_then (λ z. address_of z q.0 (sides_of 44 q.0)) (option_and_then displacement (number p.0))) (sides_of 41 p.1)) (sides_of 40 text)

abbrev pub narrow_part : Option Reg → List ℕ → Option Part
narrow_part (Some r) name = Some (Low r)
narrow_part None name = option_map Wide (xmm_of name)

abbrev pub register_part : Option Reg → List ℕ → Option Part
register_part (Some r) name = Some (General r)
register_part None name = narrow_part (low_of name) name

-- the operand that a text begins with
abbrev pub part_of : List ℕ → Option Part
part_of [] = None
part_of (b ∷ bs) =
    if b == 37 then register_part (reg_of (before_comma bs)) (before_comma bs)
    else if b == 36 then option_map Number (number (before_comma bs))
    else option_map Memory (memory (b ∷ bs))

-- the operands behind the last, and behind the last two
abbrev pub more_parts : Part → Part → Option (List ℕ × List ℕ) → Option Parts
more_parts a b None = Some (Two b a)
more_parts a b (Some p) = option_map (λ c. Three c b a) (part_of p.1)

abbrev pub parts_behind : Part → Option (List ℕ × List ℕ) → Option Parts
parts_behind a None = Some (One a)
parts_behind a (Some p) = option_and_then (λ b. more_parts a b (sides_of 32 p.1)) (part_of p.1)

-- operands with blanks between them, the last of a source first
abbrev pub parts_of : List ℕ → Option Parts
parts_of text = option_and_then (λ a. parts_behind a (sides_of 32 text)) (part_of text)

-- three instructions are called `movq` and two `movl`: they differ in what is written
abbrev pub operation_by_operands : Operation → Parts → Operation
operation_by_operands op.Mov (Two (Memory m) s) = op.Store
operation_by_operands op.Mov (Two (Wide d) s) = op.XMovq
operation_by_operands op.Load4 (Two (Memory m) s) = op.Store4
operation_by_operands o ps = o

abbrev pub mnemonic_operation : List ℕ → Option Operation
mnemonic_operation mnemonic = if bytes_eq mnemonic (codes "movabsq") then Some op.Mov else gas_operation_of mnemonic

abbrev pub ins_of : List ℕ → List ℕ → Option Ins
ins_of mnemonic text = option_and_then (λ ps. option_and_then (λ o. instruction (operation_by_operands o ps) ps) (mnemonic_operation mnemonic)) (parts_of text)

-- `L12`
abbrev pub label_of : List ℕ → Option ℕ
label_of [] = None
label_of (b ∷ bs) = if b == 76 then option_and_then (λ n. at_most (2 ^ 32 - 1) (pos n)) (number_of bs) else None

-- a conditional jump, or an instruction
abbrev pub item_by_mnemonic : List ℕ → List ℕ → Option Item
item_by_mnemonic [] text = None
item_by_mnemonic (b ∷ bs) text =
    if b == 106 then option_and_then (λ c. option_map (item.Jcc c) (label_of text)) (cond_of bs)
    else option_map item.Ins (ins_of (b ∷ bs) text)

-- the item of a mnemonic and operands
abbrev pub item_of : List ℕ → List ℕ → Option Item
item_of mnemonic text = if bytes_eq mnemonic (codes "jmp") then option_map item.Jmp (label_of text) else item_by_mnemonic mnemonic text

abbrev pub item_of_sides : Option (List ℕ × List ℕ) → Option Item
item_of_sides None = Some item.Ret
item_of_sides (Some p) = item_of p.0 p.1

-- the item that a line can be, by what is behind its tab
abbrev pub found_item : List ℕ → Option Item
found_item [] = None
found_item (b ∷ bs) = if b == 9 then item_of_sides (sides_of 32 bs) else None
