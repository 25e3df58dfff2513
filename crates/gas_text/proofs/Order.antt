-- Items in order, and one more.
use Rattle.std.proofs.Common.{◌≡◌, ℕ, ◌+◌, Bool, true, false, List, [], ◌∷◌, ◌++◌, refl, sym, ap, ◌∙◌, arith, Some}
use Rattle.std.specs.Prelude.{◌||◌, ◌&&◌, ◌==◌, not}
use Rattle.std.specs.List.{list_all}
use Rattle.std.specs.Str.{bytes_eq}
use Rattle.std.proofs.lemmas.Bool.{and_parts, and_from, eq-eqb, false≢true, not-true}
use Rattle.x64_syntax.specs.declared.items.Item.{Item}
use Rattle.x64_syntax.specs.declared.items.Item.TheVariants as item
use Rattle.x64_syntax.specs.Programs.{begins_with_entry, entries_differ, has_entry, is_item, labels_from, is_ordered}
use Rattle.x64_syntax.specs.inner.LabelCount.{label_count}
use Rattle.gas_text.proofs.Counts.{is_code, Next, is_code_next, bytes_from, bytes_same}

-- names are told apart whichever comes first
pub differ_turned : (a b : List ℕ) → bytes_eq a b ≡ false → bytes_eq b a ≡ false
differ_turned a b h = by_test (bytes_eq b a) refl where
  by_test : (t : Bool) → bytes_eq b a ≡ t → t ≡ false
  by_test true e = absurd (false≢true (sym h ∙ ap (λ x. bytes_eq a x) (bytes_from b a e) ∙ bytes_same a))
  by_test false e = refl

pub or_no : (a b : Bool) → (a || b) ≡ false → (a ≡ false) × (b ≡ false)
or_no true b h = absurd (false≢true (sym h))
or_no false b h = (refl, h)

or_false : (a b : Bool) → a ≡ false → b ≡ false → (a || b) ≡ false
or_false a b h k = ap (λ x. x || b) h ∙ k

-- each fact of a list and of one item more, and of a list and of what stands behind a front

module _ (f : Item → Bool) where
  pub all_last : (is : List Item) (i : Item) → list_all f is ≡ true → f i ≡ true → list_all f (is ++ i ∷ []) ≡ true
  all_last [] i h k = and_from _ _ k refl
  all_last (j ∷ is) i h k = let p = and_parts (f j) _ h in and_from _ _ p.0 (all_last is i p.1 k)

  pub all_behind : (is rest : List Item) → list_all f (is ++ rest) ≡ true → list_all f rest ≡ true
  all_behind [] rest h = h
  all_behind (j ∷ is) rest h = let p = and_parts (f j) _ h in all_behind is rest p.1

pub has_last_code : (name : List ℕ) (is : List Item) (i : Item) → is_code i ≡ true → has_entry name (is ++ i ∷ []) ≡ has_entry name is
has_last_code name (item.Entry other ∷ is) i h = ap (λ b. bytes_eq name other || b) (has_last_code name is i h)
has_last_code name (item.Ins j ∷ is) i h = has_last_code name is i h
has_last_code name (item.Label l ∷ is) i h = has_last_code name is i h
has_last_code name (item.Jmp l ∷ is) i h = has_last_code name is i h
has_last_code name (item.Jcc c l ∷ is) i h = has_last_code name is i h
has_last_code name (item.Ret ∷ is) i h = has_last_code name is i h
has_last_code name [] i h = by_item i h where
  by_item : (i : Item) → is_code i ≡ true → has_entry name (i ∷ []) ≡ false
  by_item (item.Entry other) h = absurd (false≢true h)
  by_item (item.Ins j) h = refl
  by_item (item.Label l) h = refl
  by_item (item.Jmp l) h = refl
  by_item (item.Jcc c l) h = refl
  by_item item.Ret h = refl

has_last_entry : (name other : List ℕ) (is : List Item) → has_entry name is ≡ false → bytes_eq name other ≡ false → has_entry name (is ++ item.Entry other ∷ []) ≡ false
has_last_entry name other [] h k = or_false (bytes_eq name other) false k refl
has_last_entry name other (item.Entry first ∷ is) h k = let p = or_no (bytes_eq name first) _ h in or_false (bytes_eq name first) _ p.0 (has_last_entry name other is p.1 k)
has_last_entry name other (item.Ins j ∷ is) h k = has_last_entry name other is h k
has_last_entry name other (item.Label l ∷ is) h k = has_last_entry name other is h k
has_last_entry name other (item.Jmp l ∷ is) h k = has_last_entry name other is h k
has_last_entry name other (item.Jcc c l ∷ is) h k = has_last_entry name other is h k
has_last_entry name other (item.Ret ∷ is) h k = has_last_entry name other is h k

differ_last_entry : (is : List Item) (name : List ℕ) → entries_differ is ≡ true → has_entry name is ≡ false → entries_differ (is ++ item.Entry name ∷ []) ≡ true
differ_last_entry [] name h k = refl
differ_last_entry (item.Entry other ∷ is) name h k =
    let p = and_parts (not (has_entry other is)) _ h in
    let q = or_no (bytes_eq name other) _ k in
    and_from _ _ (ap not (has_last_entry other name is (not-true _ p.0) (differ_turned name other q.0))) (differ_last_entry is name p.1 q.1)
differ_last_entry (item.Ins j ∷ is) name h k = differ_last_entry is name h k
differ_last_entry (item.Label l ∷ is) name h k = differ_last_entry is name h k
differ_last_entry (item.Jmp l ∷ is) name h k = differ_last_entry is name h k
differ_last_entry (item.Jcc c l ∷ is) name h k = differ_last_entry is name h k
differ_last_entry (item.Ret ∷ is) name h k = differ_last_entry is name h k

differ_last_code : (is : List Item) (i : Item) → is_code i ≡ true → entries_differ is ≡ true → entries_differ (is ++ i ∷ []) ≡ true
differ_last_code (item.Entry other ∷ is) i k h =
    let p = and_parts (not (has_entry other is)) _ h in
    and_from _ _ (ap not (has_last_code other is i k) ∙ p.0) (differ_last_code is i k p.1)
differ_last_code (item.Ins j ∷ is) i k h = differ_last_code is i k h
differ_last_code (item.Label l ∷ is) i k h = differ_last_code is i k h
differ_last_code (item.Jmp l ∷ is) i k h = differ_last_code is i k h
differ_last_code (item.Jcc c l ∷ is) i k h = differ_last_code is i k h
differ_last_code (item.Ret ∷ is) i k h = differ_last_code is i k h
differ_last_code [] i k h = by_item i k where
  by_item : (i : Item) → is_code i ≡ true → entries_differ (i ∷ []) ≡ true
  by_item (item.Entry other) h = absurd (false≢true h)
  by_item (item.Ins j) h = refl
  by_item (item.Label l) h = refl
  by_item (item.Jmp l) h = refl
  by_item (item.Jcc c l) h = refl
  by_item item.Ret h = refl

-- an entry behind a front of items is none of the front's
pub entry_behind : (is rest : List Item) (name : List ℕ) → entries_differ (is ++ item.Entry name ∷ rest) ≡ true → has_entry name is ≡ false
entry_behind [] rest name h = refl
entry_behind (item.Entry other ∷ is) rest name h =
    let p = and_parts (not (has_entry other (is ++ item.Entry name ∷ rest))) _ h in
    or_false (bytes_eq name other) _ (differ_turned other name (among is (not-true _ p.0))) (entry_behind is rest name p.1)
  where
    among : (is : List Item) → has_entry other (is ++ item.Entry name ∷ rest) ≡ false → bytes_eq other name ≡ false
    among [] k = (or_no (bytes_eq other name) _ k).0
    among (item.Entry first ∷ is) k = among is (or_no (bytes_eq other first) _ k).1
    among (item.Ins j ∷ is) k = among is k
    among (item.Label l ∷ is) k = among is k
    among (item.Jmp l ∷ is) k = among is k
    among (item.Jcc c l ∷ is) k = among is k
    among (item.Ret ∷ is) k = among is k
entry_behind (item.Ins j ∷ is) rest name h = entry_behind is rest name h
entry_behind (item.Label l ∷ is) rest name h = entry_behind is rest name h
entry_behind (item.Jmp l ∷ is) rest name h = entry_behind is rest name h
entry_behind (item.Jcc c l ∷ is) rest name h = entry_behind is rest name h
entry_behind (item.Ret ∷ is) rest name h = entry_behind is rest name h

labels_last : (k : ℕ) (is : List Item) (i : Item) → labels_from k is ≡ true → labels_from (k + label_count is) (i ∷ []) ≡ true → labels_from k (is ++ i ∷ []) ≡ true
labels_last k [] i h e = ap (λ n. labels_from n (i ∷ [])) (sym (let z : k + 0 ≡ k = omega arith in z)) ∙ e
labels_last k (item.Label l ∷ is) i h e =
    let p = and_parts (l == k) _ h in
    let s : k + (1 + label_count is) ≡ k + 1 + label_count is = omega arith in
    and_from _ _ p.0 (labels_last (k + 1) is i p.1 (ap (λ n. labels_from n (i ∷ [])) (sym s) ∙ e))
labels_last k (item.Entry other ∷ is) i h e = labels_last k is i h e
labels_last k (item.Ins j ∷ is) i h e = labels_last k is i h e
labels_last k (item.Jmp l ∷ is) i h e = labels_last k is i h e
labels_last k (item.Jcc c l ∷ is) i h e = labels_last k is i h e
labels_last k (item.Ret ∷ is) i h e = labels_last k is i h e

pub labels_behind : (k : ℕ) (is rest : List Item) → labels_from k (is ++ rest) ≡ true → labels_from (k + label_count is) rest ≡ true
labels_behind k [] rest h = ap (λ n. labels_from n rest) (let z : k + 0 ≡ k = omega arith in z) ∙ h
labels_behind k (item.Label l ∷ is) rest h =
    let p = and_parts (l == k) _ h in
    let s : k + (1 + label_count is) ≡ k + 1 + label_count is = omega arith in
    ap (λ n. labels_from n rest) s ∙ labels_behind (k + 1) is rest p.1
labels_behind k (item.Entry other ∷ is) rest h = labels_behind k is rest h
labels_behind k (item.Ins j ∷ is) rest h = labels_behind k is rest h
labels_behind k (item.Jmp l ∷ is) rest h = labels_behind k is rest h
labels_behind k (item.Jcc c l ∷ is) rest h = labels_behind k is rest h
labels_behind k (item.Ret ∷ is) rest h = labels_behind k is rest h

begins_last : (i j : Item) (is : List Item) → begins_with_entry (i ∷ is) ≡ true → begins_with_entry ((i ∷ is) ++ j ∷ []) ≡ true
begins_last (item.Entry name) j is h = refl
begins_last (item.Ins k) j is h = h
begins_last (item.Label l) j is h = h
begins_last (item.Jmp l) j is h = h
begins_last (item.Jcc c l) j is h = h
begins_last item.Ret j is h = h

pub record Ordered (is : List Item) : Type 0 where
  pub begins : begins_with_entry is ≡ true
  pub differ : entries_differ is ≡ true
  pub items : list_all is_item is ≡ true
  pub labels : labels_from 0 is ≡ true

pub ordered_parts : (is : List Item) → is_ordered is ≡ true → Ordered is
ordered_parts is h =
    let p = and_parts (begins_with_entry is && entries_differ is) _ h in
    let q = and_parts (begins_with_entry is) _ p.0 in
    let r = and_parts (list_all is_item is) _ p.1 in
    record { begins = q.0; differ = q.1; items = r.0; labels = r.1 }

pub ordered_from : (is : List Item) → Ordered is → is_ordered is ≡ true
ordered_from is o = and_from _ _ (and_from _ _ o.begins o.differ) (and_from _ _ o.items o.labels)

pub ordered_entry : (is : List Item) (name : List ℕ) → is_ordered is ≡ true → is_item (item.Entry name) ≡ true → has_entry name is ≡ false → is_ordered (is ++ item.Entry name ∷ []) ≡ true
ordered_entry is name h k e =
    let o = ordered_parts is h in
    ordered_from (is ++ item.Entry name ∷ []) (record {
      begins = by_items is o.begins;
      differ = differ_last_entry is name o.differ e;
      items = all_last is_item is (item.Entry name) o.items k;
      labels = labels_last 0 is (item.Entry name) o.labels refl;
    })
  where
    by_items : (is : List Item) → begins_with_entry is ≡ true → begins_with_entry (is ++ item.Entry name ∷ []) ≡ true
    by_items [] h = refl
    by_items (i ∷ is) h = begins_last i (item.Entry name) is h

pub ordered_next : (i : Item) (is : List Item) (j : Item) → is_ordered (i ∷ is) ≡ true → is_item j ≡ true → Next (label_count (i ∷ is)) (Some j) → is_ordered ((i ∷ is) ++ j ∷ []) ≡ true
ordered_next i is j h k n =
    let o = ordered_parts (i ∷ is) h in
    let code = is_code_next (label_count (i ∷ is)) j n in
    ordered_from ((i ∷ is) ++ j ∷ []) (record {
      begins = begins_last i j is o.begins;
      differ = differ_last_code (i ∷ is) j code o.differ;
      items = all_last is_item (i ∷ is) j o.items k;
      labels = labels_last 0 (i ∷ is) j o.labels (ap (λ k. labels_from k (j ∷ [])) (let z : 0 + label_count (i ∷ is) ≡ label_count (i ∷ is) = omega arith in z) ∙ by_item (label_count (i ∷ is)) j n);
    })
  where
    by_item : (count : ℕ) (j : Item) → Next count (Some j) → labels_from count (j ∷ []) ≡ true
    by_item count (item.Label l) e = and_from _ _ (eq-eqb l count e) refl
    by_item count (item.Entry name) e = refl
    by_item count (item.Ins k) e = refl
    by_item count (item.Jmp l) e = refl
    by_item count (item.Jcc c l) e = refl
    by_item count item.Ret e = refl
