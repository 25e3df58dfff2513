-- Lines read one after the other are those of the items that are read.
use Rattle.std.proofs.Common.{◌≡◌, ℕ, ◌+◌, ◌-◌, ◌^◌, Bool, true, false, List, [], ◌∷◌, ◌++◌, refl, sym, ap, ◌∙◌, subst, arith, take, drop, pos}
use Rattle.std.specs.Prelude.{◌&&◌, ◌==◌, not, nat_lt, codes, Option, Some, None, IfSome, option_map, option_and_then, if◌then◌else◌}
use Rattle.std.specs.Str.{bytes_eq}
use Rattle.std.proofs.lemmas.Bool.{and_parts, and_from, false≢true, eqb-true, ltb-true, not-true}
use Rattle.std.proofs.lemmas.List.{append-nil, append_assoc, take-append-drop}
use Rattle.x64_syntax.specs.declared.items.Item.{Item}
use Rattle.x64_syntax.specs.declared.items.Item.TheVariants as item
use Rattle.x64_syntax.specs.Words.{is_export_text}
use Rattle.x64_syntax.specs.Programs.{begins_with_entry, has_entry, is_item, is_ordered}
use Rattle.x64_syntax.specs.inner.LabelCount.{label_count}
use Rattle.asm_lines.specs.inner.Assembled.{at_most}
use Rattle.gas_text.specs.Gas.{line as line_text, lines, unlines, items_text}
use Rattle.gas_text.specs.inner.Apart.{found_item}
use Rattle.gas_text.specs.inner.Reading.{Sofar, item_of_line, item_read, global_name, with_item, entry_read, global_read, code_read, read_by, next, run}
use Rattle.gas_text.specs.Text.{Begins}
use Rattle.asm_lines.proofs.Assembled.{at_most_back}
use Rattle.gas_text.proofs.Found.{found_ins, found_jmp, found_jcc, found_ret}
use Rattle.gas_text.proofs.Counts.{is_code, Next, is_code_next, read_checked, bytes_from, bytes_same}
use Rattle.gas_text.proofs.Order.{Ordered, ordered_parts, ordered_entry, ordered_next, all_behind, entry_behind, labels_behind}
use Rattle.gas_text.proofs.Lines.{all_lines, text_append, text_one, unlines_append}

abbrev pub start : Sofar
start = record { items = []; awaited = None }

pub run_append : (so : Sofar) (ls ks : List (List ℕ)) → run so (ls ++ ks) ≡ option_and_then (λ s. run s ks) (run so ls)
run_append so [] ks = refl
run_append so (l ∷ ls) ks = by_next (λ s. run_append s ls ks) (next so l) where
  by_next : ((s : Sofar) → run s (ls ++ ks) ≡ option_and_then (λ s. run s ks) (run s ls)) → (o : Option Sofar) → option_and_then (λ s. run s (ls ++ ks)) o ≡ option_and_then (λ s. run s ks) (option_and_then (λ s. run s ls) o)
  by_next go None = refl
  by_next go (Some s) = go s

-- the line that declares a name, where its own line is awaited
abbrev pub pending : Option (List ℕ) → List ℕ
pending None = []
pending (Some name) = codes ".globl " ++ (name ++ codes "\n")

-- the text of what was read
abbrev pub held : Sofar → List ℕ
held so = items_text so.items ++ pending so.awaited

-- the items are in order, and the awaited name is a further one
pub record Valid (so : Sofar) : Type 0 where
  pub ordered : is_ordered so.items ≡ true
  pub fresh : IfSome so.awaited (λ name. (is_export_text name && not (has_entry name so.items)) ≡ true)

pub valid_start : Valid start
valid_start = record { ordered = refl; fresh = tt }

pub record Grows (so after : Sofar) (l : List ℕ) : Type 0 where
  pub valid : Valid after
  pub held_ : held after ≡ held so ++ (l ++ codes "\n")

grows_entry : (is : List Item) (name l : List ℕ) (after : Sofar) → Valid (record { items = is; awaited = Some name }) → entry_read is name l ≡ Some after → Grows (record { items = is; awaited = Some name }) after l
grows_entry is name l after v e = by_test (bytes_eq l (name ++ codes ":")) refl e where
  by_test : (t : Bool) → bytes_eq l (name ++ codes ":") ≡ t → (if t then Some (with_item is (item.Entry name)) else None) ≡ Some after → Grows (record { items = is; awaited = Some name }) after l
  by_test false t e = absurd cc
  by_test true t e =
      let same : with_item is (item.Entry name) ≡ after = cc in
      let own = bytes_from l (name ++ codes ":") t in
      let p = and_parts (is_export_text name) _ v.fresh in
      let declared = codes ".globl " ++ (name ++ codes "\n") in
      let lines_is : codes ".globl " ++ (name ++ 10 ∷ ((name ++ codes ":") ++ codes "\n")) ≡ declared ++ ((name ++ codes ":") ++ codes "\n") =
      ap (λ t. codes ".globl " ++ t) (sym (append_assoc name (codes "\n") ((name ++ codes ":") ++ codes "\n"))) in
      subst (λ s. Grows (record { items = is; awaited = Some name }) s l) same (record {
        valid = record { ordered = ordered_entry is name v.ordered p.0 (not-true _ p.1); fresh = tt };
        held_ =
            append-nil (items_text (is ++ item.Entry name ∷ [])) ∙ text_append is (item.Entry name ∷ [])
            ∙ ap (λ t. items_text is ++ t) (text_one (item.Entry name) ∙ lines_is)
            ∙ sym (append_assoc (items_text is) declared ((name ++ codes ":") ++ codes "\n"))
            ∙ ap (λ t. (items_text is ++ declared) ++ (t ++ codes "\n")) (sym own);
      })

grows_global : (is : List Item) (name l : List ℕ) (after : Sofar) → Valid (record { items = is; awaited = None }) → global_name l ≡ Some name → global_read is name ≡ Some after → Grows (record { items = is; awaited = None }) after l
grows_global is name l after v g e = by_test (is_export_text name && not (has_entry name is)) refl e where
  named : (t : Bool) → bytes_eq (take 7 l) (codes ".globl ") ≡ t → (if t then Some (drop 7 l) else None) ≡ Some name → l ≡ codes ".globl " ++ name
  named false t e = absurd cc
  named true t e =
      let rest : drop 7 l ≡ name = cc in
      sym (take-append-drop 7 l) ∙ ap (λ f. f ++ drop 7 l) (bytes_from (take 7 l) (codes ".globl ") t) ∙ ap (λ r. codes ".globl " ++ r) rest

  by_test : (t : Bool) → (is_export_text name && not (has_entry name is)) ≡ t → (if t then Some (record { items = is; awaited = Some name }) else None) ≡ Some after → Grows (record { items = is; awaited = None }) after l
  by_test false t e = absurd cc
  by_test true t e =
      let declared : Sofar = record { items = is; awaited = Some name } in
      let same : declared ≡ after = cc in
      let own = named (bytes_eq (take 7 l) (codes ".globl ")) refl g in
      subst (λ s. Grows (record { items = is; awaited = None }) s l) same (record {
        valid = record { ordered = v.ordered; fresh = t };
        held_ = ap (λ t. items_text is ++ (t ++ codes "\n")) (sym own) ∙ ap (λ t. t ++ (l ++ codes "\n")) (sym (append-nil (items_text is)));
      })

code_lines : (i : Item) → is_code i ≡ true → lines i ≡ line_text i ∷ []
code_lines (item.Entry name) h = absurd (false≢true h)
code_lines (item.Ins j) h = refl
code_lines (item.Label l) h = refl
code_lines (item.Jmp l) h = refl
code_lines (item.Jcc c l) h = refl
code_lines item.Ret h = refl

grows_code : (is : List Item) (l : List ℕ) (after : Sofar) → Valid (record { items = is; awaited = None }) → code_read is l ≡ Some after → Grows (record { items = is; awaited = None }) after l
grows_code [] l after v e = absurd cc
grows_code (i ∷ is) l after v e = by_read (item_read (label_count (i ∷ is)) l) refl e where
  by_read : (o : Option Item) → item_read (label_count (i ∷ is)) l ≡ o → option_map (with_item (i ∷ is)) o ≡ Some after → Grows (record { items = i ∷ is; awaited = None }) after l
  by_read None r e = absurd cc
  by_read (Some j) r e =
      let all = i ∷ is in
      let same : with_item all j ≡ after = cc in
      let c = read_checked (label_count all) l j r in
      let code = is_code_next (label_count all) j c.next in
      subst (λ s. Grows (record { items = all; awaited = None }) s l) same (record {
        valid = record { ordered = ordered_next i is j v.ordered c.item c.next; fresh = tt };
        held_ =
            append-nil (items_text (all ++ j ∷ [])) ∙ text_append all (j ∷ []) ∙ ap (λ t. items_text all ++ t) (text_one j ∙ ap unlines (code_lines j code) ∙ ap (λ t. t ++ codes "\n") c.own)
            ∙ ap (λ t. t ++ (l ++ codes "\n")) (sym (append-nil (items_text all)));
      })

pub grows : (so after : Sofar) (l : List ℕ) → Valid so → next so l ≡ Some after → Grows so after l
grows so after l v e = by_awaited so.items so.awaited v (global_name l) refl e where
  by_awaited : (is : List Item) (a : Option (List ℕ)) → Valid (record { items = is; awaited = a }) → (g : Option (List ℕ)) → global_name l ≡ g → read_by a g is l ≡ Some after → Grows (record { items = is; awaited = a }) after l
  by_awaited is (Some name) v g h e = grows_entry is name l after v e
  by_awaited is None v (Some name) h e = grows_global is name l after v h e
  by_awaited is None v None h e = grows_code is l after v e

pub record Ran (ls : List (List ℕ)) (so : Sofar) : Type 0 where
  pub valid : Valid so
  pub held_ : held so ≡ unlines ls

-- what was read has the lines' text
pub runs_sound : (front ls : List (List ℕ)) (from so : Sofar) → Ran front from → run from ls ≡ Some so → Ran (front ++ ls) so
runs_sound front [] from so r e =
    let same : from ≡ so = cc in
    subst (λ s. Ran (front ++ []) s) same (record { valid = r.valid; held_ = r.held_ ∙ ap unlines (sym (append-nil front)) })
runs_sound front (l ∷ ls) from so r e = by_next (λ s q k. runs_sound (front ++ l ∷ []) ls s so q k) (next from l) refl e where
  by_next : ((s : Sofar) → Ran (front ++ l ∷ []) s → run s ls ≡ Some so → Ran ((front ++ l ∷ []) ++ ls) so) → (o : Option Sofar) → next from l ≡ o → option_and_then (λ s. run s ls) o ≡ Some so → Ran (front ++ l ∷ ls) so
  by_next go None n e = absurd cc
  by_next go (Some s) n e =
      let g = grows from s l r.valid n in
      let later = go s (record { valid = g.valid; held_ = g.held_ ∙ ap (λ t. t ++ (l ++ codes "\n")) r.held_ ∙ sym (unlines_append front (l ∷ [])) }) e in
      subst (λ ks. Ran ks so) (append_assoc front (l ∷ []) ls) later

-- what was read begins a text
pub begins : (so : Sofar) → Valid so → Begins (codes ".text\n" ++ held so)
begins so v = by_awaited so.items so.awaited v where
  by_awaited : (is : List Item) (a : Option (List ℕ)) → Valid (record { items = is; awaited = a }) → Begins (codes ".text\n" ++ (items_text is ++ pending a))
  by_awaited is None v =
      record {
        items = is;
        rest = [];
        ordered = v.ordered;
        is = ap (λ t. codes ".text\n" ++ t) (sym (append-nil (items_text is))) ∙ sym (append-nil (codes ".text\n" ++ (items_text is ++ [])));
      }
  by_awaited is (Some name) v =
      let p = and_parts (is_export_text name) _ v.fresh in
      let declared = codes ".globl " ++ (name ++ codes "\n") in
      let own = (name ++ codes ":") ++ codes "\n" in
      record {
        items = is ++ item.Entry name ∷ [];
        rest = own;
        ordered = ordered_entry is name v.ordered p.0 (not-true _ p.1);
        is =
            ap (λ t. codes ".text\n" ++ t)
            (text_append is (item.Entry name ∷ []) ∙ ap (λ t. items_text is ++ t) (text_one (item.Entry name) ∙ ap (λ t. codes ".globl " ++ t) (sym (append_assoc name (codes "\n") own)))
            ∙ sym (append_assoc (items_text is) declared own));
      }

-- Each item's lines are read as it.

read_tabbed : (count : ℕ) (i : Item) (l : List ℕ) → line_text i ≡ 9 ∷ l → is_item i ≡ true → found_item (9 ∷ l) ≡ Some i → item_read count (9 ∷ l) ≡ Some i
read_tabbed count i l own is found =
    ap (λ o. item_of_line o (9 ∷ l)) found
    ∙ ap (λ (t : Bool). if t then Some i else None) (and_from (is_item i) (bytes_eq (line_text i) (9 ∷ l)) is (ap (λ t. bytes_eq t (9 ∷ l)) own ∙ bytes_same (9 ∷ l)))

read_label : (count l : ℕ) → l ≡ count → nat_lt l (2 ^ 32) ≡ true → item_read count (line_text (item.Label l)) ≡ Some (item.Label l)
read_label count l same h =
    let lt = ltb-true l (2 ^ 32) h in
    let found : at_most (2 ^ 32 - 1) (pos count) ≡ Some l = ap (λ c. at_most (2 ^ 32 - 1) (pos c)) (sym same) ∙ at_most_back (2 ^ 32 - 1) l (omega (arith, lt)) in
    ap (λ o. item_of_line (option_map item.Label o) (line_text (item.Label l))) found
    ∙ ap (λ (t : Bool). if t then Some (item.Label l) else None) (and_from _ (bytes_eq (line_text (item.Label l)) (line_text (item.Label l))) h (bytes_same (line_text (item.Label l))))

-- an item that isn't an entry is read from its line
reads_code : (count : ℕ) (i : Item) → is_item i ≡ true → Next count (Some i) → item_read count (line_text i) ≡ Some i
reads_code count (item.Entry name) h n = absurd (false≢true n)
reads_code count (item.Label l) h n = read_label count l n h
reads_code count (item.Ins i) h n = read_tabbed count (item.Ins i) _ refl h (found_ins i h)
reads_code count (item.Jmp l) h n = read_tabbed count (item.Jmp l) _ refl h (found_jmp l (ltb-true l (2 ^ 32) h))
reads_code count (item.Jcc c l) h n = read_tabbed count (item.Jcc c l) _ refl h (found_jcc c l (ltb-true l (2 ^ 32) h))
reads_code count item.Ret h n = read_tabbed count item.Ret _ refl h found_ret

not_global : (i : Item) → is_code i ≡ true → global_name (line_text i) ≡ None
not_global (item.Entry name) h = absurd (false≢true h)
not_global (item.Ins i) h = refl
not_global (item.Label l) h = refl
not_global (item.Jmp l) h = refl
not_global (item.Jcc c l) h = refl
not_global item.Ret h = refl

-- what an item asks of the items in front of it
next_of : (front : List Item) (i : Item) (rest : List Item) → Ordered (front ++ i ∷ rest) → is_code i ≡ true → Next (label_count front) (Some i)
next_of front (item.Label l) rest o h =
    let p = and_parts (l == (0 + label_count front)) _ (labels_behind 0 front (item.Label l ∷ rest) o.labels) in
    eqb-true l (0 + label_count front) p.0 ∙ (let z : 0 + label_count front ≡ label_count front = omega arith in z)
next_of front (item.Entry name) rest o h = h
next_of front (item.Ins i) rest o h = refl
next_of front (item.Jmp l) rest o h = refl
next_of front (item.Jcc c l) rest o h = refl
next_of front item.Ret rest o h = refl

item_of : (front : List Item) (i : Item) (rest : List Item) → Ordered (front ++ i ∷ rest) → is_item i ≡ true
item_of front i rest o = (and_parts (is_item i) _ (all_behind is_item front (i ∷ rest) o.items)).0

step_code : (front : List Item) (i : Item) (rest : List Item) → Ordered (front ++ i ∷ rest) → is_code i ≡ true → run (record { items = front; awaited = None }) (lines i) ≡ Some (with_item front i)
step_code [] i rest o h = absurd (no_entry i h o.begins) where
  no_entry : (i : Item) → is_code i ≡ true → begins_with_entry (i ∷ rest) ≡ true → ⊥
  no_entry (item.Entry name) h b = false≢true h
  no_entry (item.Ins j) h b = false≢true b
  no_entry (item.Label l) h b = false≢true b
  no_entry (item.Jmp l) h b = false≢true b
  no_entry (item.Jcc c l) h b = false≢true b
  no_entry item.Ret h b = false≢true b
step_code (j ∷ front) i rest o h =
    let read = reads_code (label_count (j ∷ front)) i (item_of (j ∷ front) i rest o) (next_of (j ∷ front) i rest o h) in
    ap (run (record { items = j ∷ front; awaited = None })) (code_lines i h)
    ∙ ap (λ g. option_and_then (λ s. run s []) (read_by None g (j ∷ front) (line_text i))) (not_global i h)
    ∙ ap (λ o. option_and_then (λ s. run s []) (option_map (with_item (j ∷ front)) o)) read

step_entry : (front : List Item) (name : List ℕ) (rest : List Item) → Ordered (front ++ item.Entry name ∷ rest) → run (record { items = front; awaited = None }) (lines (item.Entry name)) ≡ Some (with_item front (item.Entry name))
step_entry front name rest o =
    let allowed = item_of front (item.Entry name) rest o in
    let new = entry_behind front rest name o.differ in
    let awaiting : Sofar = record { items = front; awaited = Some name } in
    ap (λ (t : Bool). option_and_then (λ s. run s ((name ++ codes ":") ∷ [])) (if t then Some awaiting else None)) (and_from (is_export_text name) (not (has_entry name front)) allowed (ap not new))
    ∙ ap (λ (t : Bool). option_and_then (λ s. run s []) (if t then Some (with_item front (item.Entry name)) else None)) (bytes_same (name ++ codes ":"))

step_item : (front : List Item) (i : Item) (rest : List Item) → Ordered (front ++ i ∷ rest) → run (record { items = front; awaited = None }) (lines i) ≡ Some (with_item front i)
step_item front (item.Entry name) rest o = step_entry front name rest o
step_item front (item.Ins j) rest o = step_code front (item.Ins j) rest o refl
step_item front (item.Label l) rest o = step_code front (item.Label l) rest o refl
step_item front (item.Jmp l) rest o = step_code front (item.Jmp l) rest o refl
step_item front (item.Jcc c l) rest o = step_code front (item.Jcc c l) rest o refl
step_item front item.Ret rest o = step_code front item.Ret rest o refl

runs_items : (front is : List Item) → is_ordered (front ++ is) ≡ true → run (record { items = front; awaited = None }) (all_lines is) ≡ Some (record { items = front ++ is; awaited = None })
runs_items front [] h = ap (λ l. Some (record { items = l; awaited = None })) (sym (append-nil front))
runs_items front (i ∷ is) h =
    let same = append_assoc front (i ∷ []) is in
    let later = runs_items (front ++ i ∷ []) is (ap is_ordered same ∙ h) in
    run_append (record { items = front; awaited = None }) (lines i) (all_lines is)
    ∙ ap (λ o. option_and_then (λ s. run s (all_lines is)) o) (step_item front i is (ordered_parts (front ++ i ∷ is) h))
    ∙ later
    ∙ ap (λ l. Some (record { items = l; awaited = None })) same

-- the lines of items in order are read as these items
pub runs_complete : (is : List Item) → is_ordered is ≡ true → run start (all_lines is) ≡ Some (record { items = is; awaited = None })
runs_complete is h = runs_items [] is h
