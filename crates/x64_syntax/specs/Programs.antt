-- Programs: flat code in pieces, each under the name of an export.
use Rattle.std.specs.Prelude.{ℕ, ◌+◌, Bool, true, false, not, ◌&&◌, ◌||◌, ◌==◌, is_ok, List, [], ◌∷◌, Option, Some, None, is_none, if◌then◌else◌}
use Rattle.std.specs.List.{list_all}
use Rattle.std.specs.Str.{bytes_eq}
use Rattle.x64_syntax.specs.declared.items.Item.{Item}
use Rattle.x64_syntax.specs.declared.items.Item.TheVariants as item
use Rattle.x64_syntax.specs.Ranges.{is_u32}
use Rattle.x64_syntax.specs.Words.{is_export_text}
use Rattle.x64_syntax.specs.Instructions.{form_of}

-- code begins with an entry
abbrev pub begins_with_entry : List Item → Bool
begins_with_entry [] = true
begins_with_entry (item.Entry name ∷ is) = true
begins_with_entry (_ ∷ is) = false

-- an entry of this name is among the items
abbrev pub has_entry : List ℕ → List Item → Bool
has_entry name [] = false
has_entry name (item.Entry other ∷ is) = bytes_eq name other || has_entry name is
has_entry name (_ ∷ is) = has_entry name is

-- the names of entries are told apart
abbrev pub entries_differ : List Item → Bool
entries_differ [] = true
entries_differ (item.Entry name ∷ is) = not (has_entry name is) && entries_differ is
entries_differ (_ ∷ is) = entries_differ is

-- an instruction of the machine, an entry under a name that an export may have, and labels of 32 bits
abbrev pub is_item : Item → Bool
is_item (item.Ins i) = is_ok (form_of i)
is_item (item.Entry name) = is_export_text name
is_item (item.Label l) = is_u32 l
is_item (item.Jmp l) = is_u32 l
is_item (item.Jcc c l) = is_u32 l
is_item item.Ret = true

-- labels in the order of the code are k, k + 1, ..
abbrev pub labels_from : ℕ → List Item → Bool
labels_from k [] = true
labels_from k (item.Label l ∷ is) = (l == k) && labels_from (k + 1) is
labels_from k (_ ∷ is) = labels_from k is

-- the items as far as the next entry
abbrev pub piece : List Item → List Item
piece [] = []
piece (item.Entry name ∷ is) = []
piece (i ∷ is) = i ∷ piece is

abbrev pub has_label : ℕ → List Item → Bool
has_label l [] = false
has_label l (item.Label m ∷ is) = (l == m) || has_label l is
has_label l (_ ∷ is) = has_label l is

-- The place of the first jump whose label isn't in its own piece. Before the items are so many others, and the piece at
-- hand.
abbrev pub stray_from : ℕ → List Item → List Item → Option ℕ
stray_from k p [] = None
stray_from k p (item.Entry name ∷ is) = stray_from (k + 1) (piece is) is
stray_from k p (item.Jmp l ∷ is) = if has_label l p then stray_from (k + 1) p is else Some k
stray_from k p (item.Jcc c l ∷ is) = if has_label l p then stray_from (k + 1) p is else Some k
stray_from k p (_ ∷ is) = stray_from (k + 1) p is

abbrev pub stray_jump : List Item → Option ℕ
stray_jump is = stray_from 0 (piece is) is

-- the items are a program but for jumps that stray: they begin with an entry, the names of entries are told apart, each is
-- an item, and labels are in order
abbrev pub is_ordered : List Item → Bool
is_ordered is = (begins_with_entry is && entries_differ is) && (list_all is_item is && labels_from 0 is)

abbrev pub program_ok : List Item → Bool
program_ok is = is_ordered is && is_none (stray_jump is)
