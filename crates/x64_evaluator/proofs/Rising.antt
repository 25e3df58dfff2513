-- Labels in the order of the code rise, so a label is looked for on one side of another.
use Rattle.std.proofs.Common.{◌≡◌, ℕ, zero, suc, ◌+◌, ◌-◌, ◌<◌, ◌≤◌, true, List, [], ◌∷◌, Some, None, sym, ap, ◌∙◌, arith, ◌⊎◌, inl, inr}
use Rattle.std.specs.Prelude.{slice_get, position}
use Rattle.std.proofs.lemmas.Bool.{cases_lt}
use Rattle.std.proofs.lemmas.Option.{same_Some}
use Rattle.x64_syntax.specs.declared.items.Item.{Item}
use Rattle.x64_syntax.specs.declared.items.Item.TheVariants.{Label}
use Rattle.x64_syntax.specs.Programs.{labels_from}
use Rattle.x64_meaning.specs.Run.{is_label}
use Rattle.code_lower.proofs.First.{Passes, Fails, first, position_none}
use Rattle.code_lower.proofs.Leads.{found, label_is}
use Rattle.code_lower.proofs.Program.{tail_of, at_label_is, no_less, differ_from}
use Rattle.x64_evaluator.specs.inner.Places.{OnlyAbove}

rising : (k : ℕ) (xs : List Item) → labels_from k xs ≡ true → (l m i j : ℕ) → i < j → slice_get xs i ≡ Some (Label l) → slice_get xs j ≡ Some (Label m) → l < m
rising k [] h l m i j lt e f = absurd cc
rising k (x ∷ xs) h l m i zero lt e f = absurd (omega (arith, lt))
rising k (x ∷ xs) h l m zero (suc j) lt e f =
    let a = at_label_is k l x xs (same_Some _ _ e) h in
    let same = a.0 in
    let more = no_less (k + 1) xs a.1 m j f in
    omega (arith, same, more)
rising k (x ∷ xs) h l m (suc i) (suc j) lt e f =
    let t = tail_of k x xs h in
    rising t.0 xs t.2 l m i j (omega (arith, lt)) e f

label_number : {l m : ℕ} → ◌≡◌ {A = Item} (Label l) (Label m) → l ≡ m
label_number {l = l} e = ap number e where
  number : Item → ℕ
  number (Label n) = n
  number _ = l

module _ (items : List Item) (order : labels_from 0 items ≡ true) (label : ℕ) where
  stands_at : (f : Passes (is_label label) items) → slice_get items f.at ≡ Some (Label label)
  stands_at f = f.here ∙ ap Some (label_is label f.item f.passes)

  pub here : (k : ℕ) → slice_get items k ≡ Some (Label label) → position (is_label label) items ≡ Some k
  here k h = found items (λ l i j e f. differ_from 0 items order l i j e f) label k h

  -- the label isn't there
  nowhere : ((k : ℕ) → slice_get items k ≡ Some (Label label) → ⊥) → position (is_label label) items ≡ None
  nowhere none = by_first (first (is_label label) items)
    where
      by_first : Passes (is_label label) items ⊎ Fails (is_label label) items → position (is_label label) items ≡ None
      by_first (inl f) = absurd (none f.at (stands_at f))
      by_first (inr f) = position_none (is_label label) items f

  pub all_above : OnlyAbove items 0 label → position (is_label label) items ≡ None
  all_above above = nowhere (λ k h. let lt = above k label (omega arith) h in absurd (omega (arith, lt)))

  -- not behind a lesser label, and from there on all are above it
  pub none_behind : (k l : ℕ) → slice_get items k ≡ Some (Label l) → l < label → OnlyAbove items (k + 1) label → position (is_label label) items ≡ None
  none_behind k l h less above = nowhere none
    where
      none : (j : ℕ) → slice_get items j ≡ Some (Label label) → ⊥
      none j e = by_side (cases_lt k j)
        where
          by_side : (k < j) ⊎ (j ≤ k) → ⊥
          by_side (inl lt) = let up = above j label (omega (arith, lt)) e in absurd (omega (arith, up))
          by_side (inr le) = by_side_of (cases_lt j k)
            where
              same : k ≤ j → l ≡ label
              same ge = let at : j ≡ k = omega (arith, le, ge) in label_number (same_Some _ _ (sym h ∙ ap (λ n. slice_get items n) (sym at) ∙ e))

              by_side_of : (j < k) ⊎ (k ≤ j) → ⊥
              by_side_of (inl lt) = let up = rising 0 items order label l j k lt e h in absurd (omega (arith, up, less))
              by_side_of (inr ge) = let is = same ge in absurd (omega (arith, is, less))

-- one place further to the front
one_more : (items : List Item) (label at : ℕ) (x : Item) → 0 < at → slice_get items (at - 1) ≡ Some x → ((l : ℕ) → x ≡ Label l → label < l) → OnlyAbove items at label → OnlyAbove items (at - 1) label
one_more items label at x some_ here above rest k l le h = by (cases_lt k at)
  where
    by : (k < at) ⊎ (at ≤ k) → label < l
    by (inl lt) = let same : at - 1 ≡ k = omega (arith, le, lt) in above l (same_Some _ _ (sym here ∙ ap (λ n. slice_get items n) same ∙ h))
    by (inr ge) = rest k l ge h

pub no_label : (items : List Item) (label at : ℕ) (x : Item) → 0 < at → slice_get items (at - 1) ≡ Some x → ((l : ℕ) → x ≡ Label l → ⊥) → OnlyAbove items at label → OnlyAbove items (at - 1) label
no_label items label at x some_ here none rest = one_more items label at x some_ here (λ l e. absurd (none l e)) rest

pub higher_label : (items : List Item) (label at other : ℕ) → 0 < at → slice_get items (at - 1) ≡ Some (Label other) → label < other → OnlyAbove items at label → OnlyAbove items (at - 1) label
higher_label items label at other some_ here lt rest =
    one_more items label at (Label other) some_ here (λ l e. let is = label_number e in omega (arith, lt, is)) rest
