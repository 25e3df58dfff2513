-- How items are listed, a line each.
use Rattle.std.specs.Prelude.{ℕ, List, [], ◌++◌, decimal, codes, Option, Some, None}
use Rattle.std.specs.Fmt.{signed_decimal}
use Rattle.x64_syntax.specs.declared.places.Reg.{Reg}
use Rattle.x64_syntax.specs.declared.operands.Mem.{Mem}
use Rattle.x64_syntax.specs.declared.instructions.Ins.{Ins}
use Rattle.x64_syntax.specs.declared.items.Item.{Item}
use Rattle.x64_syntax.specs.declared.items.Item.TheVariants as item
use Rattle.x64_syntax.specs.Places.{reg_name, xmm_name}
use Rattle.x64_syntax.specs.Operations.{operation_name}
use Rattle.asm_lines.specs.declared.forms.Part.{Part}
use Rattle.asm_lines.specs.declared.forms.Part.TheVariants.{General, Low, Wide, Number, Memory}
use Rattle.asm_lines.specs.declared.forms.Parts.{Parts}
use Rattle.asm_lines.specs.declared.forms.Parts.TheVariants.{One, Two, Three}
use Rattle.asm_lines.specs.Operands.{operands, operation}
use Rattle.asm_lines.specs.Lines.{cond_name}

abbrev pub index_text : Option (Reg × ℕ) → List ℕ
index_text None = []
index_text (Some i) = codes ", " ++ reg_name i.0 ++ codes ", " ++ decimal i.1

-- `(rsi, 8)`, `(rsi, rcx, 8, 0)`
abbrev pub memory_text : Mem → List ℕ
memory_text m = codes "(" ++ reg_name m.base ++ index_text m.index ++ codes ", " ++ signed_decimal m.disp ++ codes ")"

abbrev pub part_text : Part → List ℕ
part_text (General r) = reg_name r
part_text (Low r) = reg_name r
part_text (Wide x) = xmm_name x
part_text (Number z) = signed_decimal z
part_text (Memory m) = memory_text m

abbrev pub operands_text : Parts → List ℕ
operands_text (One a) = part_text a
operands_text (Two a b) = part_text a ++ codes ", " ++ part_text b
operands_text (Three a b c) = part_text a ++ codes ", " ++ part_text b ++ codes ", " ++ part_text c

-- `Add64(rax, 1)`
abbrev pub ins_listing : Ins → List ℕ
ins_listing i = operation_name (operation i) ++ codes "(" ++ operands_text (operands i) ++ codes ")"

abbrev pub listing : Item → List ℕ
listing (item.Ins i) = ins_listing i
listing (item.Label l) = codes "Label " ++ decimal l
listing (item.Jmp l) = codes "Jmp " ++ decimal l
listing (item.Jcc c l) = codes "Jcc " ++ cond_name c ++ codes " " ++ decimal l
listing item.Ret = codes "Ret"
listing (item.Entry name) = codes "Entry " ++ name
