-- What one more item adds to labels and names.
use Rattle.std.proofs.Common.{◌≡◌, ℕ, ◌+◌, ◌≤◌, Bool, true, false, List, [], ◌∷◌, ◌++◌, refl, sym, ap, ◌∙◌, arith, subst, Option, None, Some}
use Rattle.std.specs.Prelude.{◌||◌, ◌&&◌, ◌==◌, ◌-◌, ◌^◌, nat_le, pos, codes, map, option_map, option_and_then, if◌then◌else◌}
use Rattle.std.specs.List.{list_any}
use Rattle.std.proofs.lemmas.List.{append-nil}
use Rattle.std.proofs.lemmas.Bool.{and_parts, false≢true}
use Rattle.std.proofs.lemmas.Slice.Eq.{bytes_eq-Decides}
use Rattle.std.specs.Str.{bytes_eq}
use Rattle.std.specs.Borrow.{Bor}
use Rattle.x64_syntax.specs.declared.items.Item.{Item}
use Rattle.x64_syntax.specs.declared.items.Item.TheVariants as item
use Rattle.x64_syntax.specs.Programs.{has_entry, is_item}
use Rattle.x64_syntax.specs.inner.LabelCount.{label_count}
use Rattle.asm_lines.specs.inner.Assembled.{at_most}
use Rattle.asm_lines.specs.inner.Conditions.{cond_of}
use Rattle.gas_text.specs.Gas.{line as line_text}
use Rattle.gas_text.specs.inner.Apart.{sides_of, found_item, item_of_sides, item_by_mnemonic, label_of, ins_of}
use Rattle.gas_text.specs.inner.Reading.{entry_names, item_of_line, candidate, item_read}

pub names_last_entry : (is : List Item) (name : List ℕ) → entry_names (is ++ item.Entry name ∷ []) ≡ entry_names is ++ name ∷ []
names_last_entry [] name = refl
names_last_entry (item.Entry other ∷ is) name = ap (λ ns. other ∷ ns) (names_last_entry is name)
names_last_entry (item.Ins i ∷ is) name = names_last_entry is name
names_last_entry (item.Label l ∷ is) name = names_last_entry is name
names_last_entry (item.Jmp l ∷ is) name = names_last_entry is name
names_last_entry (item.Jcc c l ∷ is) name = names_last_entry is name
names_last_entry (item.Ret ∷ is) name = names_last_entry is name

pub count_last : (is : List Item) (i : Item) → label_count (is ++ i ∷ []) ≡ label_count is + label_count (i ∷ [])
count_last [] i = omega arith
count_last (item.Label l ∷ is) i = let rest = count_last is i in omega (arith, rest)
count_last (item.Entry other ∷ is) i = count_last is i
count_last (item.Ins j ∷ is) i = count_last is i
count_last (item.Jmp l ∷ is) i = count_last is i
count_last (item.Jcc c l ∷ is) i = count_last is i
count_last (item.Ret ∷ is) i = count_last is i

-- an item that isn't an entry
abbrev pub is_code : Item → Bool
is_code (item.Entry name) = false
is_code _ = true

pub names_last_code : (is : List Item) (i : Item) → is_code i ≡ true → entry_names (is ++ i ∷ []) ≡ entry_names is
names_last_code (item.Entry other ∷ is) i h = ap (λ ns. other ∷ ns) (names_last_code is i h)
names_last_code (item.Ins j ∷ is) i h = names_last_code is i h
names_last_code (item.Label l ∷ is) i h = names_last_code is i h
names_last_code (item.Jmp l ∷ is) i h = names_last_code is i h
names_last_code (item.Jcc c l ∷ is) i h = names_last_code is i h
names_last_code (item.Ret ∷ is) i h = names_last_code is i h
names_last_code [] i h = by_item i h where
  by_item : (i : Item) → is_code i ≡ true → entry_names (i ∷ []) ≡ []
  by_item (item.Entry name) h = absurd cc
  by_item (item.Ins j) h = refl
  by_item (item.Label l) h = refl
  by_item (item.Jmp l) h = refl
  by_item (item.Jcc c l) h = refl
  by_item item.Ret h = refl

pub bytes_from : (xs ys : List ℕ) → bytes_eq xs ys ≡ true → xs ≡ ys
bytes_from xs ys h = (bytes_eq-Decides xs ys).0 h

pub bytes_same : (xs : List ℕ) → bytes_eq xs xs ≡ true
bytes_same xs = (bytes_eq-Decides xs xs).1 refl

-- an item with a tab
abbrev pub is_tabbed : Item → Bool
is_tabbed (item.Entry name) = false
is_tabbed (item.Label l) = false
is_tabbed _ = true

-- what a line with a tab can be has one
abbrev Tabbed : Option Item → Type 0
Tabbed None = Unit {0}
Tabbed (Some i) = is_tabbed i ≡ true

mapped : {A : Type 0} (f : A → Item) (o : Option A) → ((a : A) → is_tabbed (f a) ≡ true) → Tabbed (option_map f o)
mapped f None h = tt
mapped f (Some a) h = h a

either : (b : Bool) (x y : Option Item) → Tabbed x → Tabbed y → Tabbed (if b then x else y)
either true x y h k = h
either false x y h k = k

chained : {A : Type 0} (f : A → Option Item) (o : Option A) → ((a : A) → Tabbed (f a)) → Tabbed (option_and_then f o)
chained f None h = tt
chained f (Some a) h = h a

called_tabbed : (mnemonic text : List ℕ) → Tabbed (item_by_mnemonic mnemonic text)
called_tabbed [] text = tt
called_tabbed (b ∷ bs) text = either (b == 106) (option_and_then (λ c. option_map (item.Jcc c) (label_of text)) (cond_of bs)) (option_map item.Ins (ins_of (b ∷ bs) text)) (chained (λ c. option_map (item.Jcc c) (label_of text)) (cond_of bs) (λ c. mapped (item.Jcc c) (label_of text) (λ l. refl))) (mapped item.Ins (ins_of (b ∷ bs) text) (λ i. refl))

found_tabbed : (o : Option (List ℕ × List ℕ)) → Tabbed (item_of_sides o)
found_tabbed None = refl
found_tabbed (Some p) = either (bytes_eq p.0 (codes "jmp")) (option_map item.Jmp (label_of p.1)) (item_by_mnemonic p.0 p.1) (mapped item.Jmp (label_of p.1) (λ l. refl)) (called_tabbed p.0 p.1)

item_tabbed : (line : List ℕ) → Tabbed (found_item line)
item_tabbed [] = tt
item_tabbed (b ∷ bs) = either (b == 9) (item_of_sides (sides_of 32 bs)) None (found_tabbed (sides_of 32 bs)) tt

-- an item that can be read behind so many labels: with a tab, or the next label
abbrev pub Next : ℕ → Option Item → Type 0
Next count None = Unit {0}
Next count (Some (item.Label l)) = l ≡ count
Next count (Some i) = is_tabbed i ≡ true

of_tabbed : (count : ℕ) (o : Option Item) → Tabbed o → Next count o
of_tabbed count None h = tt
of_tabbed count (Some (item.Label l)) h = absurd (false≢true h)
of_tabbed count (Some (item.Entry name)) h = h
of_tabbed count (Some (item.Ins i)) h = h
of_tabbed count (Some (item.Jmp l)) h = h
of_tabbed count (Some (item.Jcc c l)) h = h
of_tabbed count (Some item.Ret) h = h

next_label : (count : ℕ) → Next count (option_map item.Label (at_most (2 ^ 32 - 1) (pos count)))
next_label count = by_test (nat_le count (2 ^ 32 - 1)) where
  by_test : (b : Bool) → Next count (option_map item.Label (if b then Some count else None))
  by_test true = refl
  by_test false = tt

candidate_next : (count : ℕ) (line : List ℕ) → Next count (candidate count line)
candidate_next count [] = tt
candidate_next count (b ∷ bs) = by_test (b == 76) where
  by_test : (t : Bool) → Next count (if t then option_map item.Label (at_most (2 ^ 32 - 1) (pos count)) else found_item (b ∷ bs))
  by_test true = next_label count
  by_test false = of_tabbed count (found_item (b ∷ bs)) (item_tabbed (b ∷ bs))

-- What is read is an item, and the line is its own.
pub record Checked (count : ℕ) (line : List ℕ) (i : Item) : Type 0 where
  pub item : is_item i ≡ true
  pub own : line_text i ≡ line
  pub next : Next count (Some i)

pub read_checked : (count : ℕ) (line : List ℕ) (i : Item) → item_read count line ≡ Some i → Checked count line i
read_checked count line i e = by_candidate (candidate count line) (candidate_next count line) e where
  by_candidate : (o : Option Item) → Next count o → item_of_line o line ≡ Some i → Checked count line i
  by_candidate None h e = absurd cc
  by_candidate (Some j) h e = by_test (is_item j && bytes_eq (line_text j) line) refl e where
    by_test : (t : Bool) → (is_item j && bytes_eq (line_text j) line) ≡ t → (if t then Some j else None) ≡ Some i → Checked count line i
    by_test true t e =
        let same : j ≡ i = cc in
        let p = and_parts (is_item j) _ t in
        subst (Checked count line) same (record { item = p.0; own = bytes_from (line_text j) line p.1; next = h })
    by_test false t e = absurd cc

pub is_code_next : (count : ℕ) (i : Item) → Next count (Some i) → is_code i ≡ true
is_code_next count (item.Entry name) h = h
is_code_next count (item.Label l) h = refl
is_code_next count (item.Ins j) h = refl
is_code_next count (item.Jmp l) h = refl
is_code_next count (item.Jcc c l) h = refl
is_code_next count item.Ret h = refl

pub read_coded : (count : ℕ) (line : List ℕ) (i : Item) → item_read count line ≡ Some i → is_code i ≡ true
read_coded count line i e = is_code_next count i (read_checked count line i e).next

pub has_any : (name : List ℕ) (is : List Item) → has_entry name is ≡ list_any (bytes_eq name) (entry_names is)
has_any name [] = refl
has_any name (item.Entry other ∷ is) = ap (λ b. bytes_eq name other || b) (has_any name is)
has_any name (item.Ins j ∷ is) = has_any name is
has_any name (item.Label l ∷ is) = has_any name is
has_any name (item.Jmp l ∷ is) = has_any name is
has_any name (item.Jcc c l ∷ is) = has_any name is
has_any name (item.Ret ∷ is) = has_any name is

-- a list of names behind a further entry
pub names_entry : (old : List (List ℕ)) (is : List Item) (name : List ℕ) → old ≡ entry_names is ++ name ∷ [] → old ≡ entry_names (is ++ item.Entry name ∷ []) ++ []
names_entry old is name h = h ∙ sym (names_last_entry is name) ∙ sym (append-nil (entry_names (is ++ item.Entry name ∷ [])))

-- and behind an item that is none
pub names_code : (old : List (List ℕ)) (is : List Item) (i : Item) → is_code i ≡ true → old ≡ entry_names is ++ [] → old ≡ entry_names (is ++ i ∷ []) ++ []
names_code old is i h k = k ∙ ap (λ ns. ns ++ []) (sym (names_last_code is i h))

pub count_one : (i : Item) → label_count (i ∷ []) ≤ 1
count_one (item.Label l) = omega arith
count_one (item.Entry name) = omega arith
count_one (item.Ins j) = omega arith
count_one (item.Jmp l) = omega arith
count_one (item.Jcc c l) = omega arith
count_one item.Ret = omega arith

-- a name among names that are borrowed
pub any_name : (name : List ℕ) (keys : List (Bor (List ℕ))) → list_any (λ key. bytes_eq name key.now) keys ≡ list_any (bytes_eq name) (map (λ key. key.now) keys)
any_name name [] = refl
any_name name (key ∷ keys) = ap (λ b. bytes_eq name key.now || b) (any_name name keys)
