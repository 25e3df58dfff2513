-- Exports one after another are a program, whose labels are in the order of the text.
use Rattle.std.proofs.Common.{◌≡◌, ℕ, zero, suc, ◌+◌, ◌<◌, ◌≤◌, ◌^◌, Bool, true, false, not, ◌||◌, List, [], ◌∷◌, ◌++◌, length, map, refl, sym, ap, ◌∙◌, subst, arith, append_assoc}
use Rattle.std.specs.Prelude.{◌&&◌, ◌==◌, nat_le, nat_lt, is_ok, is_none, Some, None, slice_get, if◌then◌else◌}
use Rattle.std.specs.List.{list_all, list_any}
use Rattle.std.specs.Str.{bytes_eq}
use Rattle.std.proofs.lemmas.Bool.{and_parts, and_from, false≢true, leb-true, le-leb, lt-ltb, ltb-true, eqb-true, eq-eqb}
use Rattle.std.proofs.lemmas.List.Folds.{list_all-append}
use Rattle.std.proofs.lemmas.Option.{same_Some}
use Rattle.x64_syntax.specs.declared.items.Item.{Item}
use Rattle.x64_syntax.specs.declared.items.Item.TheVariants as item
use Rattle.x64_syntax.specs.Words.{is_export_text}
use Rattle.x64_syntax.specs.Instructions.{form_of}
use Rattle.x64_syntax.specs.Code.{Prog, Done, Step, If, Loop, is_step, is_test, are_forms, code_ok}
use Rattle.x64_syntax.specs.Programs.{begins_with_entry, has_entry, entries_differ, is_item, labels_from, piece, has_label, stray_from, stray_jump, is_ordered, program_ok}
use Rattle.x64_syntax.specs.inner.LabelCount.{label_count}
use Rattle.x64_syntax.proofs.Pieces.{has_within}
use Rattle.x64_meaning.specs.Run.{StandAt}
use Rattle.x64_meaning.proofs.Standing.{stands_between}
use Rattle.code_lower.specs.Lowered.{compare, when, labels, code_items, export_items, lowered_from, lowered_items}
use Rattle.code_lower.specs.Keeps.{LabelsDiffer, all_labels, names_differ, AreExports}

-- labels of a range
abbrev in_range : ℕ → ℕ → ℕ → Bool
in_range low high l = nat_le low l && nat_lt l high

-- an item of an export behind its entry: an instruction of the machine, `ret`, or a label or a jump of a range of labels
abbrev is_inner : ℕ → ℕ → Item → Bool
is_inner low high (item.Ins i) = is_ok (form_of i)
is_inner low high (item.Entry name) = false
is_inner low high (item.Label l) = in_range low high l
is_inner low high (item.Jmp l) = in_range low high l
is_inner low high (item.Jcc c l) = in_range low high l
is_inner low high item.Ret = true

within : (low high l : ℕ) → low ≤ l → l < high → in_range low high l ≡ true
within low high l le lt = and_from _ _ (le-leb low l le) (lt-ltb l high lt)

joined : (q : Item → Bool) (xs ys : List Item) → list_all q xs ≡ true → list_all q ys ≡ true → list_all q (xs ++ ys) ≡ true
joined q xs ys h k = list_all-append q xs ys ∙ and_from _ _ h k

code_inner : (low high : ℕ) (p : Prog) (k : ℕ) → are_forms p ≡ true → low ≤ k → k + labels p ≤ high → list_all (is_inner low high) (code_items k p) ≡ true
code_inner low high Done k h le fits = refl
code_inner low high (Step i b p) k h le fits =
    let a = and_parts (is_step i b) (are_forms p) h in
    and_from _ _ (and_parts (is_ok (form_of i)) _ a.0).0 (code_inner low high p k a.1 le fits)
code_inner low high (If c l r first second p) k h le fits =
    let a = and_parts _ (are_forms p) h in
    let t = and_parts (is_test l r) _ a.0 in
    let arms = and_parts (are_forms first) (are_forms second) t.1 in
    let one = k + labels first in
    let two = one + 1 + labels second in
    let has_one = within low high one (omega (arith, le)) (omega (arith, fits)) in
    let has_two = within low high two (omega (arith, le)) (omega (arith, fits)) in
    and_from _ _ (and_parts (is_ok (form_of (compare l r))) _ t.0).0
    (and_from _ _ has_one
    (joined (is_inner low high) (code_items k first) _ (code_inner low high first k arms.0 le (omega (arith, fits)))
    (and_from _ _ has_two
    (and_from _ _ has_one
    (joined (is_inner low high) (code_items (one + 1) second) _ (code_inner low high second (one + 1) arms.1 (omega (arith, le)) (omega (arith, fits)))
    (and_from _ _ has_two (code_inner low high p (two + 1) a.1 (omega (arith, le)) (omega (arith, fits)))))))))
code_inner low high (Loop c l r body p) k h le fits =
    let a = and_parts _ (are_forms p) h in
    let t = and_parts (is_test l r) _ a.0 in
    let test = k + 1 + labels body in
    let has_test = within low high test (omega (arith, le)) (omega (arith, fits)) in
    let has_first = within low high k le (omega (arith, fits)) in
    and_from _ _ has_test
    (and_from _ _ has_first
    (joined (is_inner low high) (code_items (k + 1) body) _ (code_inner low high body (k + 1) t.1 (omega (arith, le)) (omega (arith, fits)))
    (and_from _ _ has_test
    (and_from _ _ (and_parts (is_ok (form_of (compare l r))) _ t.0).0
    (and_from _ _ has_first (code_inner low high p (test + 1) a.1 (omega (arith, le)) (omega (arith, fits))))))))

-- labels in order one list after another
labels_joined : (k : ℕ) (xs ys : List Item) → labels_from k xs ≡ true → labels_from (k + label_count xs) ys ≡ true → labels_from k (xs ++ ys) ≡ true
labels_joined k [] ys h g = ap (λ n. labels_from n ys) (let e : k ≡ k + 0 = omega arith in e) ∙ g
labels_joined k (item.Label l ∷ xs) ys h g =
    let a = and_parts (l == k) _ h in
    and_from _ _ a.0 (labels_joined (k + 1) xs ys a.1 (ap (λ n. labels_from n ys) (let e : k + 1 + label_count xs ≡ k + (1 + label_count xs) = omega arith in e) ∙ g))
labels_joined k (item.Ins i ∷ xs) ys h g = labels_joined k xs ys h g
labels_joined k (item.Jmp l ∷ xs) ys h g = labels_joined k xs ys h g
labels_joined k (item.Jcc c l ∷ xs) ys h g = labels_joined k xs ys h g
labels_joined k (item.Entry name ∷ xs) ys h g = labels_joined k xs ys h g
labels_joined k (item.Ret ∷ xs) ys h g = labels_joined k xs ys h g

count_joined : (xs ys : List Item) → label_count (xs ++ ys) ≡ label_count xs + label_count ys
count_joined [] ys = omega arith
count_joined (item.Label l ∷ xs) ys = let e = count_joined xs ys in omega (arith, e)
count_joined (item.Ins i ∷ xs) ys = count_joined xs ys
count_joined (item.Jmp l ∷ xs) ys = count_joined xs ys
count_joined (item.Jcc c l ∷ xs) ys = count_joined xs ys
count_joined (item.Entry name ∷ xs) ys = count_joined xs ys
count_joined (item.Ret ∷ xs) ys = count_joined xs ys

code_count : (k : ℕ) (p : Prog) → label_count (code_items k p) ≡ labels p
code_count k Done = refl
code_count k (Step i b p) = code_count k p
code_count k (If c l r first second p) =
    let one = k + labels first in
    let two = one + 1 + labels second in
    let a = code_count k first in
    let b = code_count (one + 1) second in
    let d = code_count (two + 1) p in
    let x = count_joined (code_items k first) (item.Jmp two ∷ item.Label one ∷ (code_items (one + 1) second ++ item.Label two ∷ code_items (two + 1) p)) in
    let y = count_joined (code_items (one + 1) second) (item.Label two ∷ code_items (two + 1) p) in
    omega (arith, a, b, d, x, y)
code_count k (Loop c l r body p) =
    let test = k + 1 + labels body in
    let a = code_count (k + 1) body in
    let d = code_count (test + 1) p in
    let x = count_joined (code_items (k + 1) body) (item.Label test ∷ item.Ins (compare l r) ∷ item.Jcc (when c) k ∷ code_items (test + 1) p) in
    omega (arith, a, d, x)

code_labels : (k : ℕ) (p : Prog) → labels_from k (code_items k p) ≡ true
code_labels k Done = refl
code_labels k (Step i b p) = code_labels k p
code_labels k (If c l r first second p) =
    let one = k + labels first in
    let two = one + 1 + labels second in
    let rest = and_from _ _ (eq-eqb two two refl) (code_labels (two + 1) p) in
    let count = code_count (one + 1) second in
    let behind = labels_joined (one + 1) (code_items (one + 1) second) (item.Label two ∷ code_items (two + 1) p) (code_labels (one + 1) second)
    (ap (λ n. labels_from n (item.Label two ∷ code_items (two + 1) p)) (let e : one + 1 + label_count (code_items (one + 1) second) ≡ two = omega (arith, count) in e) ∙ rest) in
    labels_joined k (code_items k first) _ (code_labels k first)
    (ap (λ n. labels_from (k + n) (item.Jmp two ∷ item.Label one ∷ (code_items (one + 1) second ++ item.Label two ∷ code_items (two + 1) p))) (code_count k first) ∙ and_from _ _ (eq-eqb one one refl) behind)
code_labels k (Loop c l r body p) =
    let test = k + 1 + labels body in
    let count = code_count (k + 1) body in
    let rest = and_from _ _ (eq-eqb test test refl) (code_labels (test + 1) p) in
    and_from _ _ (eq-eqb k k refl)
    (labels_joined (k + 1) (code_items (k + 1) body) _ (code_labels (k + 1) body)
    (ap (λ n. labels_from n (item.Label test ∷ item.Ins (compare l r) ∷ item.Jcc (when c) k ∷ code_items (test + 1) p)) (let e : k + 1 + label_count (code_items (k + 1) body) ≡ test = omega (arith, count) in e) ∙ rest))

-- what an export has behind its entry
abbrev inner : ℕ → Prog → List Item
inner k p = code_items k p ++ item.Ret ∷ []

-- behind it there is nothing, or an entry
abbrev at_entry : List Item → Bool
at_entry ys = begins_with_entry ys

-- items without an entry
module _ (low high : ℕ) where
  no_entry : (name : List ℕ) (xs ys : List Item) → list_all (is_inner low high) xs ≡ true → has_entry name (xs ++ ys) ≡ has_entry name ys
  no_entry name [] ys h = refl
  no_entry name (item.Entry other ∷ xs) ys h = absurd (false≢true h)
  no_entry name (item.Ins i ∷ xs) ys h = no_entry name xs ys (and_parts (is_ok (form_of i)) _ h).1
  no_entry name (item.Label l ∷ xs) ys h = no_entry name xs ys (and_parts (in_range low high l) _ h).1
  no_entry name (item.Jmp l ∷ xs) ys h = no_entry name xs ys (and_parts (in_range low high l) _ h).1
  no_entry name (item.Jcc c l ∷ xs) ys h = no_entry name xs ys (and_parts (in_range low high l) _ h).1
  no_entry name (item.Ret ∷ xs) ys h = no_entry name xs ys h

  differ_behind : (xs ys : List Item) → list_all (is_inner low high) xs ≡ true → entries_differ (xs ++ ys) ≡ entries_differ ys
  differ_behind [] ys h = refl
  differ_behind (item.Entry other ∷ xs) ys h = absurd (false≢true h)
  differ_behind (item.Ins i ∷ xs) ys h = differ_behind xs ys (and_parts (is_ok (form_of i)) _ h).1
  differ_behind (item.Label l ∷ xs) ys h = differ_behind xs ys (and_parts (in_range low high l) _ h).1
  differ_behind (item.Jmp l ∷ xs) ys h = differ_behind xs ys (and_parts (in_range low high l) _ h).1
  differ_behind (item.Jcc c l ∷ xs) ys h = differ_behind xs ys (and_parts (in_range low high l) _ h).1
  differ_behind (item.Ret ∷ xs) ys h = differ_behind xs ys h

  piece_is : (xs ys : List Item) → list_all (is_inner low high) xs ≡ true → at_entry ys ≡ true → piece (xs ++ ys) ≡ xs
  piece_is [] [] h e = refl
  piece_is [] (item.Entry name ∷ ys) h e = refl
  piece_is [] (item.Ins i ∷ ys) h e = absurd (false≢true e)
  piece_is [] (item.Label l ∷ ys) h e = absurd (false≢true e)
  piece_is [] (item.Jmp l ∷ ys) h e = absurd (false≢true e)
  piece_is [] (item.Jcc c l ∷ ys) h e = absurd (false≢true e)
  piece_is [] (item.Ret ∷ ys) h e = absurd (false≢true e)
  piece_is (item.Entry other ∷ xs) ys h e = absurd (false≢true h)
  piece_is (item.Ins i ∷ xs) ys h e = ap (λ l. item.Ins i ∷ l) (piece_is xs ys (and_parts (is_ok (form_of i)) _ h).1 e)
  piece_is (item.Label l ∷ xs) ys h e = ap (λ k. item.Label l ∷ k) (piece_is xs ys (and_parts (in_range low high l) _ h).1 e)
  piece_is (item.Jmp l ∷ xs) ys h e = ap (λ k. item.Jmp l ∷ k) (piece_is xs ys (and_parts (in_range low high l) _ h).1 e)
  piece_is (item.Jcc c l ∷ xs) ys h e = ap (λ k. item.Jcc c l ∷ k) (piece_is xs ys (and_parts (in_range low high l) _ h).1 e)
  piece_is (item.Ret ∷ xs) ys h e = ap (λ k. item.Ret ∷ k) (piece_is xs ys h e)

  module _ (p : List Item) (has : (l : ℕ) → in_range low high l ≡ true → has_label l p ≡ true) where
    no_stray : (n : ℕ) (xs ys : List Item) → list_all (is_inner low high) xs ≡ true → ((m : ℕ) (q : List Item) → stray_from m q ys ≡ None) → stray_from n p (xs ++ ys) ≡ None
    no_stray n [] ys h rest = rest n p
    no_stray n (item.Entry other ∷ xs) ys h rest = absurd (false≢true h)
    no_stray n (item.Ins i ∷ xs) ys h rest = no_stray (n + 1) xs ys (and_parts (is_ok (form_of i)) _ h).1 rest
    no_stray n (item.Label l ∷ xs) ys h rest = no_stray (n + 1) xs ys (and_parts (in_range low high l) _ h).1 rest
    no_stray n (item.Jmp l ∷ xs) ys h rest =
        let a = and_parts (in_range low high l) _ h in
        ap (λ (b : Bool). if b then stray_from (n + 1) p (xs ++ ys) else Some n) (has l a.0) ∙ no_stray (n + 1) xs ys a.1 rest
    no_stray n (item.Jcc c l ∷ xs) ys h rest =
        let a = and_parts (in_range low high l) _ h in
        ap (λ (b : Bool). if b then stray_from (n + 1) p (xs ++ ys) else Some n) (has l a.0) ∙ no_stray (n + 1) xs ys a.1 rest
    no_stray n (item.Ret ∷ xs) ys h rest = no_stray (n + 1) xs ys h rest

  items_are : high ≤ 2 ^ 32 → (xs : List Item) → list_all (is_inner low high) xs ≡ true → list_all is_item xs ≡ true
  items_are fits [] h = refl
  items_are fits (x ∷ xs) h = let a = and_parts (is_inner low high x) _ h in and_from _ _ (one x a.0) (items_are fits xs a.1)
    where
      number : (l : ℕ) → in_range low high l ≡ true → nat_lt l (2 ^ 32) ≡ true
      number l e = let lt = ltb-true l high (and_parts (nat_le low l) _ e).1 in lt-ltb l (2 ^ 32) (omega (arith, lt, fits))

      one : (x : Item) → is_inner low high x ≡ true → is_item x ≡ true
      one (item.Ins i) e = e
      one (item.Entry name) e = absurd (false≢true e)
      one (item.Label l) e = number l e
      one (item.Jmp l) e = number l e
      one (item.Jcc c l) e = number l e
      one item.Ret e = refl

module _ (k : ℕ) (p : Prog) where
  inner_labels : labels_from k (inner k p) ≡ true
  inner_labels = labels_joined k (code_items k p) (item.Ret ∷ []) (code_labels k p) refl

  inner_count : label_count (inner k p) ≡ labels p
  inner_count = let a = count_joined (code_items k p) (item.Ret ∷ []) in let b = code_count k p in omega (arith, a, b)

  module _ (forms : are_forms p ≡ true) where
    inner_is : list_all (is_inner k (k + labels p)) (inner k p) ≡ true
    inner_is = joined (is_inner k (k + labels p)) (code_items k p) (item.Ret ∷ []) (code_inner k (k + labels p) p k forms (omega arith) (omega arith)) refl

    inner_has : (l : ℕ) → in_range k (k + labels p) l ≡ true → has_label l (inner k p) ≡ true
    inner_has l h =
        let a = and_parts (nat_le k l) (nat_lt l (k + labels p)) h in
        let lt = ltb-true l (k + labels p) a.1 in
        has_within k l (inner k p) inner_labels (leb-true k l a.0) (let count = inner_count in omega (arith, lt, count))

abbrev codes_ok : List (List ℕ × Prog) → Bool
codes_ok es = list_all (λ e. code_ok e.1) es

forms_of : (p : Prog) → code_ok p ≡ true → are_forms p ≡ true
forms_of p h = (and_parts (are_forms p) _ h).0

begins : (k : ℕ) (es : List (List ℕ × Prog)) → begins_with_entry (lowered_from k es) ≡ true
begins k [] = refl
begins k (e ∷ es) = refl

has_name : (name : List ℕ) (k : ℕ) (es : List (List ℕ × Prog)) → codes_ok es ≡ true → has_entry name (lowered_from k es) ≡ list_any (bytes_eq name) (map (λ e. e.0) es)
has_name name k [] h = refl
has_name name k (e ∷ es) h =
    let a = and_parts (code_ok e.1) (codes_ok es) h in
    ap (λ b. bytes_eq name e.0 || b)
    (no_entry k (k + labels e.1) name (inner k e.1) (lowered_from (k + labels e.1) es) (inner_is k e.1 (forms_of e.1 a.0)) ∙ has_name name (k + labels e.1) es a.1)

differ_all : (k : ℕ) (es : List (List ℕ × Prog)) → codes_ok es ≡ true → names_differ (map (λ e. e.0) es) ≡ true → entries_differ (lowered_from k es) ≡ true
differ_all k [] h d = refl
differ_all k (e ∷ es) h d =
    let a = and_parts (code_ok e.1) (codes_ok es) h in
    let b = and_parts _ (names_differ (map (λ e. e.0) es)) d in
    let is = inner_is k e.1 (forms_of e.1 a.0) in
    let next = k + labels e.1 in
    and_from _ _
    (ap not (no_entry k next e.0 (inner k e.1) (lowered_from next es) is ∙ has_name e.0 next es a.1) ∙ b.0)
    (differ_behind k next (inner k e.1) (lowered_from next es) is ∙ differ_all next es a.1 b.1)

items_all : (k : ℕ) (es : List (List ℕ × Prog)) → codes_ok es ≡ true → list_all (λ e. is_export_text e.0) es ≡ true → k + all_labels es ≤ 2 ^ 32 → list_all is_item (lowered_from k es) ≡ true
items_all k [] h names few = refl
items_all k (e ∷ es) h names few =
    let a = and_parts (code_ok e.1) (codes_ok es) h in
    let b = and_parts (is_export_text e.0) _ names in
    let next = k + labels e.1 in
    and_from _ _ b.0
    (joined is_item (inner k e.1) (lowered_from next es) (items_are k next (omega (arith, few)) (inner k e.1) (inner_is k e.1 (forms_of e.1 a.0)))
    (items_all next es a.1 b.1 (omega (arith, few))))

labels_all : (k : ℕ) (es : List (List ℕ × Prog)) → labels_from k (lowered_from k es) ≡ true
labels_all k [] = refl
labels_all k (e ∷ es) =
    labels_joined k (inner k e.1) (lowered_from (k + labels e.1) es) (inner_labels k e.1)
    (ap (λ n. labels_from (k + n) (lowered_from (k + labels e.1) es)) (inner_count k e.1) ∙ labels_all (k + labels e.1) es)

stray_none : (k : ℕ) (es : List (List ℕ × Prog)) → codes_ok es ≡ true → (n : ℕ) (p : List Item) → stray_from n p (lowered_from k es) ≡ None
stray_none k [] h n p = refl
stray_none k (e ∷ es) h n p =
    let a = and_parts (code_ok e.1) (codes_ok es) h in
    let next = k + labels e.1 in
    let forms = forms_of e.1 a.0 in
    let is = inner_is k e.1 forms in
    ap (λ q. stray_from (n + 1) q (inner k e.1 ++ lowered_from next es)) (piece_is k next (inner k e.1) (lowered_from next es) is (begins next es))
    ∙ no_stray k next (inner k e.1) (inner_has k e.1 forms) (n + 1) (inner k e.1) (lowered_from next es) is (stray_none next es a.1)

-- the piece at hand is nothing at the beginning, since there an entry stands
at_first : (k : ℕ) (es : List (List ℕ × Prog)) → codes_ok es ≡ true → stray_jump (lowered_from k es) ≡ None
at_first k es h = stray_none k es h 0 (piece (lowered_from k es))

pub is_program : (es : List (List ℕ × Prog)) → AreExports es → program_ok (lowered_items es) ≡ true
is_program es a =
    and_from _ _
    (and_from _ _ (and_from _ _ (begins 0 es) (differ_all 0 es a.codes a.differ))
    (and_from _ _ (items_all 0 es a.codes a.names (let few = a.few in omega (arith, few))) (labels_all 0 es)))
    (ap is_none (at_first 0 es a.codes))

-- labels in order stand once each
pub tail_of : (k : ℕ) (x : Item) (xs : List Item) → labels_from k (x ∷ xs) ≡ true → (m : ℕ) × (k ≤ m) × (labels_from m xs ≡ true)
tail_of k (item.Label l) xs h = (k + 1, omega arith, (and_parts (l == k) _ h).1)
tail_of k (item.Ins i) xs h = (k, omega arith, h)
tail_of k (item.Jmp l) xs h = (k, omega arith, h)
tail_of k (item.Jcc c l) xs h = (k, omega arith, h)
tail_of k (item.Entry name) xs h = (k, omega arith, h)
tail_of k item.Ret xs h = (k, omega arith, h)

pub at_label_is : (k l : ℕ) (x : Item) (xs : List Item) → x ≡ item.Label l → labels_from k (x ∷ xs) ≡ true → (l ≡ k) × (labels_from (k + 1) xs ≡ true)
at_label_is k l x xs e h =
    let a = and_parts (l == k) _ (ap (λ y. labels_from k (y ∷ xs)) (sym e) ∙ h) in
    (eqb-true l k a.0, a.1)

pub no_less : (k : ℕ) (xs : List Item) → labels_from k xs ≡ true → (l j : ℕ) → slice_get xs j ≡ Some (item.Label l) → k ≤ l
no_less k [] h l j e = absurd cc
no_less k (x ∷ xs) h l zero e = let a = (at_label_is k l x xs (same_Some _ _ e) h).0 in omega (arith, a)
no_less k (x ∷ xs) h l (suc j) e =
    let t = tail_of k x xs h in
    let le = t.1 in
    let rest = no_less t.0 xs t.2 l j e in
    omega (arith, le, rest)

pub differ_from : (k : ℕ) (xs : List Item) → labels_from k xs ≡ true → (l i j : ℕ) → slice_get xs i ≡ Some (item.Label l) → slice_get xs j ≡ Some (item.Label l) → i ≡ j
differ_from k [] h l i j e f = absurd cc
differ_from k (x ∷ xs) h l zero zero e f = refl
differ_from k (x ∷ xs) h l zero (suc j) e f =
    let a = at_label_is k l x xs (same_Some _ _ e) h in
    let same = a.0 in
    let more = no_less (k + 1) xs a.1 l j f in
    absurd (omega (arith, same, more))
differ_from k (x ∷ xs) h l (suc i) zero e f =
    let a = at_label_is k l x xs (same_Some _ _ f) h in
    let same = a.0 in
    let more = no_less (k + 1) xs a.1 l i e in
    absurd (omega (arith, same, more))
differ_from k (x ∷ xs) h l (suc i) (suc j) e f = let t = tail_of k x xs h in ap suc (differ_from t.0 xs t.2 l i j e f)

pub labels_differ : (items : List Item) → program_ok items ≡ true → LabelsDiffer items
labels_differ items h l j k e f =
    let a = and_parts (is_ordered items) _ h in
    let b = and_parts _ (list_all is_item items && labels_from 0 items) a.0 in
    let c = and_parts (list_all is_item items) (labels_from 0 items) b.1 in
    differ_from 0 items c.1 l j k e f

split_at : (k : ℕ) (es fs : List (List ℕ × Prog)) → lowered_from k (es ++ fs) ≡ lowered_from k es ++ lowered_from (k + all_labels es) fs
split_at k [] fs = ap (λ n. lowered_from n fs) (let e : k ≡ k + 0 = omega arith in e)
split_at k (e ∷ es) fs =
    ap (λ l. export_items k e.0 e.1 ++ l) (split_at (k + labels e.1) es fs)
    ∙ sym (append_assoc (export_items k e.0 e.1) (lowered_from (k + labels e.1) es) _)
    ∙ ap (λ n. (export_items k e.0 e.1 ++ lowered_from (k + labels e.1) es) ++ lowered_from n fs) (let e : k + labels e.1 + all_labels es ≡ k + (labels e.1 + all_labels es) = omega arith in e)

-- each export stands where those before it end
pub stands : (front back : List (List ℕ × Prog)) (name : List ℕ) (p : Prog) → StandAt (lowered_items (front ++ (name, p) ∷ back)) (length (lowered_items front)) (export_items (all_labels front) name p)
stands front back name p =
    let k = all_labels front in
    let e : 0 + all_labels front ≡ k = omega arith in
    let split = split_at 0 front ((name, p) ∷ back) ∙ ap (λ n. lowered_items front ++ lowered_from n ((name, p) ∷ back)) e in
    subst (λ l. StandAt l (length (lowered_items front)) (export_items k name p)) (sym split)
    (stands_between (lowered_items front) (export_items k name p) (lowered_from (k + labels p) back))
