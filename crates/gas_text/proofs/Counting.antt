-- How many lines items have, and where a stray jump is.
use Rattle.std.proofs.Common.{◌≡◌, ℕ, zero, suc, ◌+◌, ◌≤◌, ◌<◌, Bool, true, false, List, [], ◌∷◌, refl, sym, ap, ◌∙◌, arith, length, length-append, take, drop, Some}
use Rattle.std.specs.Prelude.{◌==◌, if◌then◌else◌}
use Rattle.std.specs.List.{list_all}
use Rattle.std.proofs.lemmas.Bool.{and_parts, and_from}
use Rattle.std.proofs.lemmas.List.{take-append-drop}
use Rattle.x64_syntax.specs.declared.items.Item.{Item}
use Rattle.x64_syntax.specs.declared.items.Item.TheVariants as item
use Rattle.x64_syntax.specs.Programs.{is_item, piece, has_label, stray_from, stray_jump}
use Rattle.gas_text.specs.Gas.{lines, unlines, items_text, gas_text}
use Rattle.gas_text.specs.Text.{newlines}
use Rattle.gas_text.proofs.Lines.{lines_clean, newlines_lines, newlines_append, text_append}

pub record Counted (x : Item) (rest : List Item) (front : List Item) : Type 0 where
  pub newlines : newlines (items_text front) ≡ length (lines x) + newlines (items_text rest)
  pub are_items : list_all is_item rest ≡ true

-- what the lines of an item add to those of the rest
pub counted : (x : Item) (rest front : List Item) → front ≡ x ∷ rest → list_all is_item front ≡ true → Counted x rest front
unfolding items_text
counted x rest front split h =
    let p = and_parts (is_item x) _ (ap (list_all is_item) (sym split) ∙ h) in
    record {
      newlines = ap (λ is. newlines (items_text is)) split ∙ newlines_append (unlines (lines x)) (items_text rest) ∙ ap (λ n. n + newlines (items_text rest)) (newlines_lines (lines x) (lines_clean x p.0));
      are_items = p.1;
    }

pub one_line : (x : Item) → ((name : List ℕ) → x ≡ item.Entry name → ⊥) → length (lines x) ≡ 1
one_line (item.Entry name) h = absurd (h name refl)
one_line (item.Ins i) h = refl
one_line (item.Label l) h = refl
one_line (item.Jmp l) h = refl
one_line (item.Jcc c l) h = refl
one_line item.Ret h = refl

stray_within : (k n : ℕ) (p is : List Item) → stray_from k p is ≡ Some n → n < k + length is
stray_within k n p [] e = absurd cc
stray_within k n p (item.Entry name ∷ is) e = let r = stray_within (k + 1) n (piece is) is e in omega (arith, r)
stray_within k n p (item.Ins i ∷ is) e = let r = stray_within (k + 1) n p is e in omega (arith, r)
stray_within k n p (item.Label l ∷ is) e = let r = stray_within (k + 1) n p is e in omega (arith, r)
stray_within k n p (item.Ret ∷ is) e = let r = stray_within (k + 1) n p is e in omega (arith, r)
stray_within k n p (item.Jmp l ∷ is) e = by_test (has_label l p) (λ q. stray_within (k + 1) n p is q) e where
  by_test : (b : Bool) → (stray_from (k + 1) p is ≡ Some n → n < k + 1 + length is) → (if b then stray_from (k + 1) p is else Some k) ≡ Some n → n < k + suc (length is)
  by_test true go e = let r = go e in omega (arith, r)
  by_test false go e = let same : k ≡ n = cc in omega (arith, same)
stray_within k n p (item.Jcc c l ∷ is) e = by_test (has_label l p) (λ q. stray_within (k + 1) n p is q) e where
  by_test : (b : Bool) → (stray_from (k + 1) p is ≡ Some n → n < k + 1 + length is) → (if b then stray_from (k + 1) p is else Some k) ≡ Some n → n < k + suc (length is)
  by_test true go e = let r = go e in omega (arith, r)
  by_test false go e = let same : k ≡ n = cc in omega (arith, same)

pub stray_place : (n : ℕ) (is : List Item) → stray_jump is ≡ Some n → n < length is
stray_place n is e = let r = stray_within 0 n (piece is) is e in omega (arith, r)

newlines_few : (xs : List ℕ) → newlines xs ≤ length xs
newlines_few [] = omega arith
newlines_few (x ∷ xs) = by_test (x == 10) (newlines_few xs) where
  by_test : (t : Bool) → newlines xs ≤ length xs → (if t then 1 + newlines xs else newlines xs) ≤ suc (length xs)
  by_test true h = omega (arith, h)
  by_test false h = omega (arith, h)

-- the lines of a front are at most the bytes of a text
pub lines_few : (k : ℕ) (is : List Item) (text : List ℕ) → gas_text is ≡ text → 2 + newlines (items_text (take k is)) ≤ length text
lines_few k is text e =
    let whole = ap items_text (sym (take-append-drop k is)) ∙ text_append (take k is) (drop k is) in
    let a = ap (λ t. length t) (sym e) in
    let b = ap (λ t. length t) whole in
    let c = length-append (items_text (take k is)) (items_text (drop k is)) in
    let d = newlines_few (items_text (take k is)) in
    omega (arith, a, b, c, d)

pub all_front : (k : ℕ) (is : List Item) → list_all is_item is ≡ true → list_all is_item (take k is) ≡ true
all_front zero is h = refl
all_front (suc k) [] h = refl
all_front (suc k) (i ∷ is) h = let p = and_parts (is_item i) _ h in and_from _ _ p.0 (all_front k is p.1)
