-- How lines are read, one after the other.
use Rattle.std.specs.Prelude.{ℕ, ◌-◌, ◌^◌, pos, not, ◌&&◌, ◌==◌, List, [], ◌∷◌, ◌++◌, take, drop, codes, Option, Some, None, option_map, option_and_then, if◌then◌else◌}
use Rattle.std.specs.Str.{bytes_eq}
use Rattle.x64_syntax.specs.declared.items.Item.{Item}
use Rattle.x64_syntax.specs.declared.items.Item.TheVariants as item
use Rattle.x64_syntax.specs.Words.{is_export_text}
use Rattle.x64_syntax.specs.Programs.{is_item, has_entry}
use Rattle.x64_syntax.specs.inner.LabelCount.{label_count}
use Rattle.asm_lines.specs.inner.Assembled.{at_most}
use Rattle.gas_text.specs.Gas.{line as line_text}
use Rattle.gas_text.specs.inner.Apart.{found_item}

-- What was read so far: items, and the name of an entry whose own line comes next.
pub record Sofar : Type 0 where
  pub items : List Item
  pub awaited : Option (List ℕ)

-- the item, where the line is exactly its own
abbrev pub item_of_line : Option Item → List ℕ → Option Item
item_of_line None line = None
item_of_line (Some i) line = if is_item i && bytes_eq (line_text i) line then Some i else None

-- The item that a line can be behind so many labels. A line that begins with `L` can only be that of the next label.
abbrev pub candidate : ℕ → List ℕ → Option Item
candidate count [] = None
candidate count (b ∷ bs) = if b == 76 then option_map item.Label (at_most (2 ^ 32 - 1) (pos count)) else found_item (b ∷ bs)

abbrev pub item_read : ℕ → List ℕ → Option Item
item_read count line = item_of_line (candidate count line) line

-- the name behind `.globl`
abbrev pub global_name : List ℕ → Option (List ℕ)
global_name line = if bytes_eq (take 7 line) (codes ".globl ") then Some (drop 7 line) else None

-- an item more
abbrev pub with_item : List Item → Item → Sofar
with_item is i = record { items = is ++ i ∷ []; awaited = None }

-- the line of an entry's name
abbrev pub entry_read : List Item → List ℕ → List ℕ → Option Sofar
entry_read is name line = if bytes_eq line (name ++ codes ":") then Some (with_item is (item.Entry name)) else None

abbrev pub global_read : List Item → List ℕ → Option Sofar
global_read is name = if is_export_text name && not (has_entry name is) then Some (record { items = is; awaited = Some name }) else None

-- instructions, labels and jumps come behind an entry
abbrev pub code_read : List Item → List ℕ → Option Sofar
code_read [] line = None
code_read (i ∷ is) line = option_map (with_item (i ∷ is)) (item_read (label_count (i ∷ is)) line)

abbrev pub read_by : Option (List ℕ) → Option (List ℕ) → List Item → List ℕ → Option Sofar
read_by (Some name) global is line = entry_read is name line
read_by None (Some name) is line = global_read is name
read_by None None is line = code_read is line

-- what is read with a line more, where that is a line that may come next
abbrev pub next : Sofar → List ℕ → Option Sofar
next so line = read_by so.awaited (global_name line) so.items line

-- and with several lines more
abbrev pub run : Sofar → List (List ℕ) → Option Sofar
run so [] = Some so
run so (l ∷ ls) = option_and_then (λ s. run s ls) (next so l)

-- the names of entries
abbrev pub entry_names : List Item → List (List ℕ)
entry_names [] = []
entry_names (item.Entry name ∷ is) = name ∷ entry_names is
entry_names (_ ∷ is) = entry_names is

abbrev pub awaited_names : Option (List ℕ) → List (List ℕ)
awaited_names None = []
awaited_names (Some name) = name ∷ []

abbrev pub names_of : Sofar → List (List ℕ)
names_of so = entry_names so.items ++ awaited_names so.awaited
