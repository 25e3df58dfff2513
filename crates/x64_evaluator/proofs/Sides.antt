-- A first place is looked for in the front of a list and then behind it.
use Rattle.std.proofs.Common.{◌≡◌, ℕ, zero, suc, ◌+◌, ◌<◌, ◌≤◌, Bool, true, false, not, List, [], ◌∷◌, ◌++◌, length, take, drop, Option, Some, None, refl, sym, ap, ◌∙◌, arith, cond, ◌⊎◌, inl, inr, option_map}
use Rattle.std.specs.Prelude.{position, nat_lt, ◌==◌, slice_get}
use Rattle.std.specs.List.{position_or_len, list_all}
use Rattle.std.proofs.lemmas.List.{take-append-drop}
use Rattle.std.proofs.lemmas.Bool.{lt-ltb, le-ltb, cases_lt, and_parts, and_from}
use Rattle.std.proofs.lemmas.Option.{same_Some}
use Rattle.x64_syntax.specs.declared.items.Item.{Item}
use Rattle.x64_syntax.specs.declared.items.Item.TheVariants as item
use Rattle.x64_syntax.specs.Programs.{labels_from}

module _ {X : Type 0} (p : X → Bool) where
  at_first : (x : X) (xs : List X) → p x ≡ true → position p (x ∷ xs) ≡ Some 0
  at_first x xs e =
      let none : position_or_len p (x ∷ xs) ≡ 0 = ap (λ b. cond (not b) (1 + position_or_len p xs) 0) e in
      ap (λ n. cond (nat_lt n (length (x ∷ xs))) (Some n) None) none ∙ ap (λ b. cond b (Some 0) None) (lt-ltb 0 (length (x ∷ xs)) (omega arith))

  behind : (x : X) (xs : List X) → p x ≡ false → position p (x ∷ xs) ≡ option_map suc (position p xs)
  behind x xs e = ap (λ n. cond (nat_lt n (length (x ∷ xs))) (Some n) None) one ∙ by (cases_lt n (length xs))
    where
      n : ℕ
      n = position_or_len p xs

      one : position_or_len p (x ∷ xs) ≡ suc n
      one = ap (λ b. cond (not b) (1 + n) 0) e ∙ (let k : 1 + n ≡ suc n = omega arith in k)

      by : (n < length xs) ⊎ (length xs ≤ n) → cond (nat_lt (suc n) (length (x ∷ xs))) (Some (suc n)) None ≡ option_map suc (position p xs)
      by (inl lt) =
          ap (λ b. cond b (Some (suc n)) None) (lt-ltb (suc n) (length (x ∷ xs)) (omega (arith, lt)))
          ∙ sym (ap (λ b. option_map suc (cond b (Some n) None)) (lt-ltb n (length xs) lt))
      by (inr le) =
          ap (λ b. cond b (Some (suc n)) None) (le-ltb (suc n) (length (x ∷ xs)) (omega (arith, le)))
          ∙ sym (ap (λ b. option_map suc (cond b (Some n) None)) (le-ltb n (length xs) le))

  -- where it is in the front
  pub in_front : (xs ys : List X) (k : ℕ) → position p xs ≡ Some k → position p (xs ++ ys) ≡ Some k
  in_front [] ys k h = absurd cc
  in_front (x ∷ xs) ys k h = by (in_front xs ys) (p x) refl
    where
      by : ((j : ℕ) → position p xs ≡ Some j → position p (xs ++ ys) ≡ Some j) → (b : Bool) → p x ≡ b → position p (x ∷ (xs ++ ys)) ≡ Some k
      by rest true e = at_first x (xs ++ ys) e ∙ sym (at_first x xs e) ∙ h
      by rest false e = behind x (xs ++ ys) e ∙ by_place (position p xs) refl
        where
          by_place : (o : Option ℕ) → position p xs ≡ o → option_map suc (position p (xs ++ ys)) ≡ Some k
          by_place None f = absurd (none_some (sym (behind x xs e ∙ ap (option_map suc) f) ∙ h))
            where
              none_some : ◌≡◌ {A = Option ℕ} None (Some k) → ⊥
              none_some g = cc
          by_place (Some j) f = ap (option_map suc) (rest j f) ∙ sym (ap (option_map suc) f) ∙ sym (behind x xs e) ∙ h

  -- where it isn't in the front
  pub in_back : (xs ys : List X) → position p xs ≡ None → position p (xs ++ ys) ≡ option_map (λ n. length xs + n) (position p ys)
  in_back [] ys h = by (position p ys) where
    by : (o : Option ℕ) → o ≡ option_map (λ n. 0 + n) o
    by None = refl
    by (Some n) = ap Some (omega arith)
  in_back (x ∷ xs) ys h = by (in_back xs ys) (p x) refl
    where
      more : (o : Option ℕ) → option_map suc (option_map (λ n. length xs + n) o) ≡ option_map (λ n. length (x ∷ xs) + n) o
      more None = refl
      more (Some n) = ap Some (omega arith)

      by : (position p xs ≡ None → position p (xs ++ ys) ≡ option_map (λ n. length xs + n) (position p ys)) → (b : Bool) → p x ≡ b → position p (x ∷ (xs ++ ys)) ≡ option_map (λ n. length (x ∷ xs) + n) (position p ys)
      by rest true e = absurd (some_none (sym (at_first x xs e) ∙ h))
        where
          some_none : ◌≡◌ {A = Option ℕ} (Some 0) None → ⊥
          some_none g = cc
      by rest false e = behind x (xs ++ ys) e ∙ ap (option_map suc) (rest (by_place (position p xs) refl)) ∙ more (position p ys)
        where
          by_place : (o : Option ℕ) → position p xs ≡ o → position p xs ≡ None
          by_place None f = f
          by_place (Some j) f = absurd (some_none (sym (behind x xs e ∙ ap (option_map suc) f) ∙ h))
            where
              some_none : ◌≡◌ {A = Option ℕ} (Some (suc j)) None → ⊥
              some_none g = cc

-- the front of items whose labels are in order
pub front_ordered : (k : ℕ) (xs ys : List Item) → labels_from k (xs ++ ys) ≡ true → labels_from k xs ≡ true
front_ordered k [] ys h = refl
front_ordered k (item.Label l ∷ xs) ys h =
    let a = and_parts (l == k) _ h in
    and_from _ _ a.0 (front_ordered (k + 1) xs ys a.1)
front_ordered k (item.Ins i ∷ xs) ys h = front_ordered k xs ys h
front_ordered k (item.Jmp l ∷ xs) ys h = front_ordered k xs ys h
front_ordered k (item.Jcc c l ∷ xs) ys h = front_ordered k xs ys h
front_ordered k (item.Entry name ∷ xs) ys h = front_ordered k xs ys h
front_ordered k (item.Ret ∷ xs) ys h = front_ordered k xs ys h

module _ (at : ℕ) (items front : List Item) (front_is : front ≡ take at items) where
  pub ordered : labels_from 0 items ≡ true → labels_from 0 front ≡ true
  ordered h = ap (labels_from 0) front_is ∙ front_ordered 0 (take at items) (drop at items) (ap (labels_from 0) (take-append-drop at items) ∙ h)

  pub place_in_front : (p : Item → Bool) (k : ℕ) → position p front ≡ Some k → position p items ≡ Some k
  place_in_front p k h =
      ap (position p) (sym (take-append-drop at items)) ∙ in_front p (take at items) (drop at items) k (ap (position p) (sym front_is) ∙ h)

  pub place_in_back : (p : Item → Bool) (back : List Item) → back ≡ drop at items → length front ≡ at → position p front ≡ None → position p items ≡ option_map (λ n. at + n) (position p back)
  place_in_back p back back_is len h =
      ap (position p) (sym (take-append-drop at items)) ∙ in_back p (take at items) (drop at items) (ap (position p) (sym front_is) ∙ h)
      ∙ ap (λ m. option_map (λ n. m + n) (position p (drop at items))) (ap length (sym front_is) ∙ len) ∙ ap (λ l. option_map (λ n. at + n) (position p l)) (sym back_is)

-- an item of items that all pass
pub passes_at : (p : Item → Bool) (xs : List Item) (k : ℕ) (x : Item) → slice_get xs k ≡ Some x → list_all p xs ≡ true → p x ≡ true
passes_at p [] k x h all = absurd cc
passes_at p (y ∷ ys) zero x h all = ap p (sym (same_Some _ _ h)) ∙ (and_parts (p y) (list_all p ys) all).0
passes_at p (y ∷ ys) (suc k) x h all = passes_at p ys k x h (and_parts (p y) (list_all p ys) all).1
