-- The labels of a piece are a range where labels stand in order.
use Rattle.std.proofs.Common.{◌≡◌, ℕ, ◌+◌, ◌<◌, ◌≤◌, Bool, true, false, List, [], ◌∷◌, refl, sym, ap, ◌∙◌, subst, arith, leb, length, suc, drop, get_or, ◌⊎◌, inl, inr}
use Rattle.std.specs.Prelude.{◌||◌, ◌==◌, Some, if◌then◌else◌}
use Rattle.std.proofs.lemmas.Bool.{and_parts, and_from, eqb-true, eqb-false, leb-true, leb-false}
use Rattle.std.proofs.Math.Seq.{drop-cons}
use Rattle.x64_syntax.specs.declared.instructions.Ins.{Ins}
use Rattle.x64_syntax.specs.declared.conditions.Cond.{Cond}
use Rattle.x64_syntax.specs.declared.items.Item.{Item}
use Rattle.x64_syntax.specs.declared.items.Item.TheVariants as item
use Rattle.x64_syntax.specs.Programs.{labels_from, piece, has_label, stray_from, stray_jump}
use Rattle.x64_syntax.specs.inner.LabelCount.{label_count}

-- the items from the next entry on
abbrev pub behind : List Item → List Item
behind [] = []
behind (item.Entry name ∷ is) = item.Entry name ∷ is
behind (_ ∷ is) = behind is

pub counts : (is : List Item) → label_count (piece is) + label_count (behind is) ≡ label_count is
counts [] = refl
counts (item.Entry name ∷ is) = omega arith
counts (item.Label l ∷ is) = let rest = counts is in omega (arith, rest)
counts (item.Ins i ∷ is) = counts is
counts (item.Jmp l ∷ is) = counts is
counts (item.Jcc c l ∷ is) = counts is
counts (item.Ret ∷ is) = counts is

pub few : (is : List Item) → label_count is ≤ length is
few [] = omega arith
few (item.Entry name ∷ is) = let rest = few is in omega (arith, rest)
few (item.Label l ∷ is) = let rest = few is in omega (arith, rest)
few (item.Ins i ∷ is) = let rest = few is in omega (arith, rest)
few (item.Jmp l ∷ is) = let rest = few is in omega (arith, rest)
few (item.Jcc c l ∷ is) = let rest = few is in omega (arith, rest)
few (item.Ret ∷ is) = let rest = few is in omega (arith, rest)

-- labels in order are in order in the piece, and go on behind it
pub in_piece : (k : ℕ) (is : List Item) → labels_from k is ≡ true → labels_from k (piece is) ≡ true
in_piece k [] h = refl
in_piece k (item.Entry name ∷ is) h = refl
in_piece k (item.Label l ∷ is) h = let p = and_parts (l == k) (labels_from (k + 1) is) h in and_from _ _ p.0 (in_piece (k + 1) is p.1)
in_piece k (item.Ins i ∷ is) h = in_piece k is h
in_piece k (item.Jmp l ∷ is) h = in_piece k is h
in_piece k (item.Jcc c l ∷ is) h = in_piece k is h
in_piece k (item.Ret ∷ is) h = in_piece k is h

pub go_on : (k : ℕ) (is : List Item) → labels_from k is ≡ true → labels_from (k + label_count (piece is)) (behind is) ≡ true
go_on k [] h = refl
go_on k (item.Entry name ∷ is) h = let e : k + 0 ≡ k = omega arith in ap (λ n. labels_from n is) e ∙ h
go_on k (item.Label l ∷ is) h =
    let p = and_parts (l == k) (labels_from (k + 1) is) h in
    let e : k + (1 + label_count (piece is)) ≡ k + 1 + label_count (piece is) = omega arith in
    ap (λ n. labels_from n (behind is)) e ∙ go_on (k + 1) is p.1
go_on k (item.Ins i ∷ is) h = go_on k is h
go_on k (item.Jmp l ∷ is) h = go_on k is h
go_on k (item.Jcc c l ∷ is) h = go_on k is h
go_on k (item.Ret ∷ is) h = go_on k is h

-- a label of items in order is one of a range
pub has_low : (k l : ℕ) (is : List Item) → labels_from k is ≡ true → l < k → has_label l is ≡ false
has_low k l [] h lt = refl
has_low k l (item.Label m ∷ is) h lt =
    let p = and_parts (m == k) (labels_from (k + 1) is) h in
    let same : m ≡ k = eqb-true m k p.0 in
    by_test (l == m) refl (has_low (k + 1) l is p.1 (omega (arith, lt))) (λ e. let f = eqb-true l m e in omega (arith, f, same, lt))
  where
    by_test : (b : Bool) → (l == m) ≡ b → has_label l is ≡ false → ((l == m) ≡ true → ⊥) → (b || has_label l is) ≡ false
    by_test true e rest no_ = absurd (no_ e)
    by_test false e rest no_ = rest
has_low k l (item.Entry name ∷ is) h lt = has_low k l is h lt
has_low k l (item.Ins i ∷ is) h lt = has_low k l is h lt
has_low k l (item.Jmp m ∷ is) h lt = has_low k l is h lt
has_low k l (item.Jcc c m ∷ is) h lt = has_low k l is h lt
has_low k l (item.Ret ∷ is) h lt = has_low k l is h lt

pub has_high : (k l : ℕ) (is : List Item) → labels_from k is ≡ true → k + label_count is ≤ l → has_label l is ≡ false
has_high k l [] h le = refl
has_high k l (item.Label m ∷ is) h le =
    let p = and_parts (m == k) (labels_from (k + 1) is) h in
    let same : m ≡ k = eqb-true m k p.0 in
    by_test (l == m) refl (has_high (k + 1) l is p.1 (omega (arith, le))) (λ e. let f = eqb-true l m e in omega (arith, f, same, le))
  where
    by_test : (b : Bool) → (l == m) ≡ b → has_label l is ≡ false → ((l == m) ≡ true → ⊥) → (b || has_label l is) ≡ false
    by_test true e rest no_ = absurd (no_ e)
    by_test false e rest no_ = rest
has_high k l (item.Entry name ∷ is) h le = has_high k l is h le
has_high k l (item.Ins i ∷ is) h le = has_high k l is h le
has_high k l (item.Jmp m ∷ is) h le = has_high k l is h le
has_high k l (item.Jcc c m ∷ is) h le = has_high k l is h le
has_high k l (item.Ret ∷ is) h le = has_high k l is h le

pub has_within : (k l : ℕ) (is : List Item) → labels_from k is ≡ true → k ≤ l → l < k + label_count is → has_label l is ≡ true
has_within k l [] h le lt = absurd (omega (arith, le, lt))
has_within k l (item.Label m ∷ is) h le lt =
    let p = and_parts (m == k) (labels_from (k + 1) is) h in
    let same : m ≡ k = eqb-true m k p.0 in
    by_test (l == m) refl (λ e. has_within (k + 1) l is p.1 (above (eqb-false l m e) same) (omega (arith, lt)))
  where
    above : (l ≡ m → ⊥) → m ≡ k → k + 1 ≤ l
    above differ same = by_order (leb (k + 1) l) refl where
      by_order : (b : Bool) → leb (k + 1) l ≡ b → k + 1 ≤ l
      by_order true e = leb-true (k + 1) l e
      by_order false e = let below = leb-false (k + 1) l e in absurd (differ (omega (arith, below, le, same)))

    by_test : (b : Bool) → (l == m) ≡ b → ((l == m) ≡ false → has_label l is ≡ true) → (b || has_label l is) ≡ true
    by_test true e rest = refl
    by_test false e rest = rest e
has_within k l (item.Entry name ∷ is) h le lt = has_within k l is h le lt
has_within k l (item.Ins i ∷ is) h le lt = has_within k l is h le lt
has_within k l (item.Jmp m ∷ is) h le lt = has_within k l is h le lt
has_within k l (item.Jcc c m ∷ is) h le lt = has_within k l is h le lt
has_within k l (item.Ret ∷ is) h le lt = has_within k l is h le lt

-- What the loop over jumps keeps behind k items: the labels of the piece at hand are those from `low` up to `high`, and
-- labels go on from there behind it.
pub record Within (k low high : ℕ) (rest all : List Item) : Type 0 where
  pub at_hand : List Item
  pub stray : stray_from k at_hand rest ≡ stray_jump all
  pub ordered : labels_from low at_hand ≡ true
  pub high_is : high ≡ low + label_count at_hand
  pub next : labels_from high (behind rest) ≡ true
  pub total : high + label_count (behind rest) ≡ label_count all

pub at_first : (all : List Item) (high : ℕ) → labels_from 0 all ≡ true → high ≡ label_count (piece all) → Within 0 0 high all all
at_first all high h e = record {
  at_hand = piece all;
  stray = refl;
  ordered = in_piece 0 all h;
  high_is = omega (arith, e);
  next = let same : 0 + label_count (piece all) ≡ high = omega (arith, e) in ap (λ n. labels_from n (behind all)) (sym same) ∙ go_on 0 all h;
  total = let c = counts all in omega (arith, c, e);
}

module _ (k low high : ℕ) (x : Item) (front rest all : List Item) (split : front ≡ x ∷ rest) (w : Within k low high front all) where
  at_item : Within k low high (x ∷ rest) all
  at_item = subst (λ l. Within k low high l all) split w

  pub at_entry : (name : List ℕ) (next : ℕ) → x ≡ item.Entry name → next ≡ high + label_count (piece rest) → Within (k + 1) high next rest all
  at_entry name next is e =
      let v = subst (λ y. Within k low high (y ∷ rest) all) is at_item in
      record {
        at_hand = piece rest;
        stray = v.stray;
        ordered = in_piece high rest v.next;
        high_is = e;
        next = ap (λ n. labels_from n (behind rest)) e ∙ go_on high rest v.next;
        total = let c = counts rest in let t = v.total in omega (arith, c, t, e);
      }

  pub entry_fits : (name : List ℕ) → x ≡ item.Entry name → high + label_count (piece rest) ≤ length all
  entry_fits name is =
      let v = subst (λ y. Within k low high (y ∷ rest) all) is at_item in
      let c = counts rest in
      let t = v.total in
      let f = few all in
      omega (arith, c, t, f)

  pub at_other : ((i : Ins) × (x ≡ item.Ins i)) ⊎ (((l : ℕ) × (x ≡ item.Label l)) ⊎ (x ≡ item.Ret)) → Within (k + 1) low high rest all
  at_other (inl (i, is)) =
      let v = subst (λ y. Within k low high (y ∷ rest) all) is at_item in
      record { at_hand = v.at_hand; stray = v.stray; ordered = v.ordered; high_is = v.high_is; next = v.next; total = v.total }
  at_other (inr (inl (l, is))) =
      let v = subst (λ y. Within k low high (y ∷ rest) all) is at_item in
      record { at_hand = v.at_hand; stray = v.stray; ordered = v.ordered; high_is = v.high_is; next = v.next; total = v.total }
  at_other (inr (inr is)) =
      let v = subst (λ y. Within k low high (y ∷ rest) all) is at_item in
      record { at_hand = v.at_hand; stray = v.stray; ordered = v.ordered; high_is = v.high_is; next = v.next; total = v.total }

  -- what a jump with its label in the piece at hand leaves
  leaves : (l : ℕ) (p : List Item) → low ≤ l → l < high → labels_from low p ≡ true → high ≡ low + label_count p → (if has_label l p then stray_from (k + 1) p rest else Some k) ≡ stray_jump all → stray_from (k + 1) p rest ≡ stray_jump all
  leaves l p le lt ordered e h =
      let has = has_within low l p ordered le (omega (arith, lt, e)) in
      ap (λ (b : Bool). if b then stray_from (k + 1) p rest else Some k) (sym has) ∙ h

  pub at_jump : (l : ℕ) → low ≤ l → l < high → (x ≡ item.Jmp l) ⊎ ((c : Cond) × (x ≡ item.Jcc c l)) → Within (k + 1) low high rest all
  at_jump l le lt (inl is) =
      let v = subst (λ y. Within k low high (y ∷ rest) all) is at_item in
      record { at_hand = v.at_hand; stray = leaves l v.at_hand le lt v.ordered v.high_is v.stray; ordered = v.ordered; high_is = v.high_is; next = v.next; total = v.total }
  at_jump l le lt (inr (c, is)) =
      let v = subst (λ y. Within k low high (y ∷ rest) all) is at_item in
      record { at_hand = v.at_hand; stray = leaves l v.at_hand le lt v.ordered v.high_is v.stray; ordered = v.ordered; high_is = v.high_is; next = v.next; total = v.total }

  astray : (l : ℕ) (p : List Item) → (l < low) ⊎ (high ≤ l) → labels_from low p ≡ true → high ≡ low + label_count p → (if has_label l p then stray_from (k + 1) p rest else Some k) ≡ stray_jump all → Some k ≡ stray_jump all
  astray l p (inl lt) ordered e h = ap (λ (b : Bool). if b then stray_from (k + 1) p rest else Some k) (sym (has_low low l p ordered lt)) ∙ h
  astray l p (inr le) ordered e h = ap (λ (b : Bool). if b then stray_from (k + 1) p rest else Some k) (sym (has_high low l p ordered (omega (arith, le, e)))) ∙ h

  pub at_stray : (l : ℕ) → (l < low) ⊎ (high ≤ l) → (x ≡ item.Jmp l) ⊎ ((c : Cond) × (x ≡ item.Jcc c l)) → Some k ≡ stray_jump all
  at_stray l out (inl is) = let v = subst (λ y. Within k low high (y ∷ rest) all) is at_item in astray l v.at_hand out v.ordered v.high_is v.stray
  at_stray l out (inr (c, is)) = let v = subst (λ y. Within k low high (y ∷ rest) all) is at_item in astray l v.at_hand out v.ordered v.high_is v.stray

-- the item of a turn, in front of the rest
pub turn : (is : List Item) (k : ℕ) (x : Item) → k < length is → x ≡ get_or is k x → drop k is ≡ x ∷ drop (k + 1) is
turn is k x lt e =
    let next : suc k ≡ k + 1 = omega arith in
    drop-cons is k x lt ∙ ap (λ y. y ∷ drop (suc k) is) (sym e) ∙ ap (λ n. x ∷ drop n is) next
