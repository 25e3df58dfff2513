-- The text of items in GAS syntax, as GNU's assembler takes it.
use Rattle.std.specs.Prelude.{ℕ, List, [], ◌∷◌, ◌++◌, decimal, codes, Option, Some, None}
use Rattle.std.specs.Fmt.{signed_decimal}
use Rattle.x64_syntax.specs.declared.places.Reg.{Reg}
use Rattle.x64_syntax.specs.declared.operands.Mem.{Mem}
use Rattle.x64_syntax.specs.declared.instructions.Ins.{Ins}
use Rattle.x64_syntax.specs.declared.items.Item.{Item}
use Rattle.x64_syntax.specs.declared.items.Item.TheVariants as item
use Rattle.x64_syntax.specs.Places.{reg_name, low_name, xmm_name}
use Rattle.asm_lines.specs.declared.forms.Part.{Part}
use Rattle.asm_lines.specs.declared.forms.Part.TheVariants.{General, Low, Wide, Number, Memory}
use Rattle.asm_lines.specs.declared.forms.Parts.{Parts}
use Rattle.asm_lines.specs.declared.forms.Parts.TheVariants.{One, Two, Three}
use Rattle.asm_lines.specs.declared.lines.Syntax.TheVariants.{Gas}
use Rattle.asm_lines.specs.Operands.{operands}
use Rattle.asm_lines.specs.Lines.{cond_name, mnemonic}

abbrev pub index_text : Option (Reg × ℕ) → List ℕ
index_text None = []
index_text (Some i) = codes ",%" ++ (reg_name i.0 ++ (codes "," ++ decimal i.1))

-- `0(%rsi)`, `-8(%rsi,%rcx,8)`
abbrev pub memory_text : Mem → List ℕ
memory_text m = signed_decimal m.disp ++ (codes "(%" ++ (reg_name m.base ++ (index_text m.index ++ codes ")")))

-- `%rax`, `%eax`, `%xmm0`, `$1`, `0(%rsi)`
abbrev pub part_text : Part → List ℕ
part_text (General r) = codes "%" ++ reg_name r
part_text (Low r) = codes "%" ++ low_name r
part_text (Wide x) = codes "%" ++ xmm_name x
part_text (Number z) = codes "$" ++ signed_decimal z
part_text (Memory m) = memory_text m

-- the operands the other way round than in a source: the place that is written comes last
abbrev pub operands_text : Parts → List ℕ
operands_text (One a) = part_text a
operands_text (Two a b) = part_text b ++ (codes ", " ++ part_text a)
operands_text (Three a b c) = part_text c ++ (codes ", " ++ (part_text b ++ (codes ", " ++ part_text a)))

abbrev pub ins_line : Ins → List ℕ
ins_line i = codes "\t" ++ (mnemonic Gas i ++ (codes " " ++ operands_text (operands i)))

-- the line of an item; an entry has a further one, its name and a colon
abbrev pub line : Item → List ℕ
line (item.Ins i) = ins_line i
line (item.Label l) = codes "L" ++ (decimal l ++ codes ":")
line (item.Jmp l) = codes "\tjmp L" ++ decimal l
line (item.Jcc c l) = codes "\tj" ++ (cond_name c ++ (codes " L" ++ decimal l))
line item.Ret = codes "\tret"
line (item.Entry name) = codes ".globl " ++ name

-- the lines of an item
abbrev pub lines : Item → List (List ℕ)
lines (item.Entry name) = line (item.Entry name) ∷ (name ++ codes ":") ∷ []
lines i = line i ∷ []

-- lines, each with its newline
abbrev pub unlines : List (List ℕ) → List ℕ
unlines [] = []
unlines (l ∷ ls) = l ++ (codes "\n" ++ unlines ls)

unfoldable pub items_text : List Item → List ℕ
items_text [] = []
items_text (i ∷ is) = unlines (lines i) ++ items_text is

abbrev pub gas_text : List Item → List ℕ
gas_text is = codes ".text\n" ++ items_text is
