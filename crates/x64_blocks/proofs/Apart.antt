-- Blocks go on lying apart where one is added that meets none, and where bytes are put into one.
use Rattle.std.proofs.Common.{◌≡◌, ℕ, zero, suc, ◌+◌, ◌-◌, ◌<◌, ◌≤◌, ◌^◌, Bool, true, false, ◌⊎◌, inl, inr, List, [], ◌∷◌, ◌++◌, length, take, drop, get_or, set, leb, refl, sym, ap, ◌∙◌, subst, arith, length-append, length-take, length-drop}
use Rattle.std.specs.Prelude.{if◌then◌else◌}
use Rattle.std.specs.List.{list_any}
use Rattle.std.proofs.lemmas.Bool.{or_parts, and_parts, and_from, false≢true, leb-true, le-leb, lt-ltb}
use Rattle.x64_blocks.specs.Memory.{Range, holds, block_at, IsMemory, meets, put_at}
use Rattle.x64_blocks.proofs.Stores.{same_at}

-- numbers are bytes
abbrev pub AreBytes : List ℕ → Type 0
AreBytes bs = (i : ℕ) → get_or bs i 0 < 256

bytes-append : (xs ys : List ℕ) → AreBytes xs → AreBytes ys → AreBytes (xs ++ ys)
bytes-append [] ys h k i = k i
bytes-append (x ∷ xs) ys h k zero = h 0
bytes-append (x ∷ xs) ys h k (suc i) = bytes-append xs ys (λ j. h (suc j)) k i

bytes-take : (n : ℕ) (xs : List ℕ) → AreBytes xs → AreBytes (take n xs)
bytes-take zero [] h i = h i
bytes-take (suc n) [] h i = h i
bytes-take zero (x ∷ xs) h i = omega arith
bytes-take (suc n) (x ∷ xs) h zero = h 0
bytes-take (suc n) (x ∷ xs) h (suc i) = bytes-take n xs (λ j. h (suc j)) i

bytes-drop : (n : ℕ) (xs : List ℕ) → AreBytes xs → AreBytes (drop n xs)
bytes-drop zero xs h i = h i
bytes-drop (suc n) [] h i = h i
bytes-drop (suc n) (x ∷ xs) h i = bytes-drop n xs (λ j. h (suc j)) i

-- the block covers the address
record Covers (b : Range) (a : ℕ) : Type 0 where
  from : b.base ≤ a
  below : a < b.base + length b.bytes

covers : (b : Range) (a : ℕ) → holds a 1 b ≡ true → Covers b a
covers b a h =
    let p = and_parts (leb b.base a) (leb (a + 1) (b.base + length b.bytes)) h in
    let end = leb-true (a + 1) (b.base + length b.bytes) p.1 in
    record { from = leb-true b.base a p.0; below = omega (arith, end) }

covers_holds : (b : Range) (a : ℕ) → Covers b a → holds a 1 b ≡ true
covers_holds b a c = and_from _ _ (le-leb b.base a c.from) (le-leb (a + 1) (b.base + length b.bytes) (let below = c.below in omega (arith, below)))

meets_where : (b c : Range) (a : ℕ) → Covers b a → Covers c a → meets b c ≡ true
meets_where b c a x y =
    let x_from = x.from in
    let x_below = x.below in
    let y_from = y.from in
    let y_below = y.below in
    and_from _ _
    (and_from _ _ (lt-ltb b.base (c.base + length c.bytes) (omega arith)) (lt-ltb c.base (b.base + length b.bytes) (omega arith)))
    (and_from _ _ (lt-ltb 0 (length b.bytes) (omega arith)) (lt-ltb 0 (length c.bytes) (omega arith)))

-- a block that covers an address is among the blocks, and so a block that meets none of them doesn't
no_common : (b : Range) (bs : List Range) (a k : ℕ) → list_any (meets b) bs ≡ false → Covers b a → Covers (block_at bs k) a → ⊥
no_common b [] a k h x y = let below = y.below in let from = y.from in absurd (omega (arith, below, from))
no_common b (c ∷ bs) a zero h x y = false≢true (sym (or_parts (meets b c) (list_any (meets b) bs) h).0 ∙ meets_where b c a x y)
no_common b (c ∷ bs) a (suc k) h x y = no_common b bs a k (or_parts (meets b c) (list_any (meets b) bs) h).1 x y

-- a block of a list with one more is one of the list, or the new one behind all of them
added_at : (bs : List Range) (b : Range) (k : ℕ) → (block_at (bs ++ b ∷ []) k ≡ block_at bs k) ⊎ ((k ≡ length bs) × (block_at (bs ++ b ∷ []) k ≡ b))
added_at [] b zero = inr (refl, refl)
added_at [] b (suc k) = inl refl
added_at (c ∷ bs) b zero = inl refl
added_at (c ∷ bs) b (suc k) = by (added_at bs b k) where
  by : (block_at (bs ++ b ∷ []) k ≡ block_at bs k) ⊎ ((k ≡ length bs) × (block_at (bs ++ b ∷ []) k ≡ b)) → (block_at (bs ++ b ∷ []) k ≡ block_at bs k) ⊎ ((suc k ≡ length (c ∷ bs)) × (block_at (bs ++ b ∷ []) k ≡ b))
  by (inl e) = inl e
  by (inr e) = inr (ap suc e.0, e.1)

pub IsMemory-none : IsMemory []
IsMemory-none = record {
  ends = λ k. omega arith;
  bytes = λ k i. omega arith;
  apart = λ a j k h h'. (let c = covers (record { base = 0; bytes = [] }) a h in let below = c.below in absurd (omega (arith, below)));
}

module _ (bs : List Range) (b : Range) (ok : IsMemory bs) (ends : b.base + length b.bytes ≤ 2 ^ 64) (bytes : AreBytes b.bytes) (meets_none : list_any (meets b) bs ≡ false) where
  pub IsMemory-add : IsMemory (bs ++ b ∷ [])
  IsMemory-add = record {
    ends = λ k. end_of k (added_at bs b k);
    bytes = λ k. bytes_of k (added_at bs b k);
    apart = λ a j k h h'. apart a j k (added_at bs b j) (added_at bs b k) h h';
  }
    where
      end_of : (k : ℕ) → (block_at (bs ++ b ∷ []) k ≡ block_at bs k) ⊎ ((k ≡ length bs) × (block_at (bs ++ b ∷ []) k ≡ b)) → (block_at (bs ++ b ∷ []) k).base + length (block_at (bs ++ b ∷ []) k).bytes ≤ 2 ^ 64
      end_of k (inl e) = subst (λ c. c.base + length c.bytes ≤ 2 ^ 64) (sym e) (ok.ends k)
      end_of k (inr e) = subst (λ c. c.base + length c.bytes ≤ 2 ^ 64) (sym e.1) ends

      bytes_of : (k : ℕ) → (block_at (bs ++ b ∷ []) k ≡ block_at bs k) ⊎ ((k ≡ length bs) × (block_at (bs ++ b ∷ []) k ≡ b)) → AreBytes (block_at (bs ++ b ∷ []) k).bytes
      bytes_of k (inl e) = subst (λ c. AreBytes c.bytes) (sym e) (ok.bytes k)
      bytes_of k (inr e) = subst (λ c. AreBytes c.bytes) (sym e.1) bytes

      apart : (a j k : ℕ) → (block_at (bs ++ b ∷ []) j ≡ block_at bs j) ⊎ ((j ≡ length bs) × (block_at (bs ++ b ∷ []) j ≡ b)) → (block_at (bs ++ b ∷ []) k ≡ block_at bs k) ⊎ ((k ≡ length bs) × (block_at (bs ++ b ∷ []) k ≡ b)) → holds a 1 (block_at (bs ++ b ∷ []) j) ≡ true → holds a 1 (block_at (bs ++ b ∷ []) k) ≡ true → j ≡ k
      apart a j k (inl e) (inl f) h h' = ok.apart a j k (ap (holds a 1) (sym e) ∙ h) (ap (holds a 1) (sym f) ∙ h')
      apart a j k (inl e) (inr f) h h' = absurd (no_common b bs a j meets_none (covers b a (ap (holds a 1) (sym f.1) ∙ h')) (covers (block_at bs j) a (ap (holds a 1) (sym e) ∙ h)))
      apart a j k (inr e) (inl f) h h' = absurd (no_common b bs a k meets_none (covers b a (ap (holds a 1) (sym e.1) ∙ h)) (covers (block_at bs k) a (ap (holds a 1) (sym f) ∙ h')))
      apart a j k (inr e) (inr f) h h' = e.0 ∙ sym f.0

-- a block that is added or not
pub IsMemory-pushed : (bs items : List Range) (b c : Range) (t : Bool) → IsMemory bs → b ≡ c → b.base + length b.bytes ≤ 2 ^ 64 → AreBytes c.bytes → list_any (meets b) bs ≡ false → items ≡ (if t then bs ++ b ∷ [] else bs) → IsMemory items
IsMemory-pushed bs items b c true ok same ends bytes none is = subst IsMemory (sym is) (IsMemory-add bs b ok ends (subst (λ d. AreBytes d.bytes) (sym same) bytes) none)
IsMemory-pushed bs items b c false ok same ends bytes none is = subst IsMemory (sym is) ok

-- the same place and size
record SameExtent (b c : Range) : Type 0 where
  base : c.base ≡ b.base
  size : length c.bytes ≡ length b.bytes

put-extent : (a : ℕ) (new : List ℕ) (b : Range) → holds a (length new) b ≡ true → SameExtent b (put_at a new b)
put-extent a new b h =
    let p = and_parts (leb b.base a) (leb (a + length new) (b.base + length b.bytes)) h in
    let from = leb-true b.base a p.0 in
    let end = leb-true (a + length new) (b.base + length b.bytes) p.1 in
    record { base = refl; size = simp (length-append, length-take, length-drop) (omega (arith, from, end)) }

put-bytes : (a : ℕ) (new : List ℕ) (b : Range) → AreBytes new → AreBytes b.bytes → AreBytes (put_at a new b).bytes
put-bytes a new b h k =
    bytes-append (take (a - b.base) b.bytes) (new ++ drop (a - b.base + length new) b.bytes) (bytes-take (a - b.base) b.bytes k)
    (bytes-append new (drop (a - b.base + length new) b.bytes) h (bytes-drop (a - b.base + length new) b.bytes k))

-- a block of a list in which one is replaced is as it was, or the new one at its place
set_at : (bs : List Range) (k : ℕ) (b : Range) (j : ℕ) → (block_at (set bs k b) j ≡ block_at bs j) ⊎ ((j ≡ k) × (block_at (set bs k b) j ≡ b))
set_at [] zero b j = inl refl
set_at [] (suc k) b j = inl refl
set_at (c ∷ bs) zero b zero = inr (refl, refl)
set_at (c ∷ bs) zero b (suc j) = inl refl
set_at (c ∷ bs) (suc k) b zero = inl refl
set_at (c ∷ bs) (suc k) b (suc j) = by (set_at bs k b j) where
  by : (block_at (set bs k b) j ≡ block_at bs j) ⊎ ((j ≡ k) × (block_at (set bs k b) j ≡ b)) → (block_at (set bs k b) j ≡ block_at bs j) ⊎ ((suc j ≡ suc k) × (block_at (set bs k b) j ≡ b))
  by (inl e) = inl e
  by (inr e) = inr (ap suc e.0, e.1)

covers_same : (b c : Range) (a : ℕ) → SameExtent b c → Covers c a → Covers b a
covers_same b c a s x =
    let base = s.base in
    let size = s.size in
    let from = x.from in
    let below = x.below in
    record { from = omega (arith, base, from); below = omega (arith, base, size, below) }

module _ (bs : List Range) (k a : ℕ) (new : List ℕ) (ok : IsMemory bs) (are_bytes : AreBytes new) (within : holds a (length new) (block_at bs k) ≡ true) where
  abbrev stored : List Range
  stored = set bs k (put_at a new (block_at bs k))

  same_extent : (j : ℕ) → (block_at stored j ≡ block_at bs j) ⊎ ((j ≡ k) × (block_at stored j ≡ put_at a new (block_at bs k))) → SameExtent (block_at bs j) (block_at stored j)
  same_extent j (inl e) = subst (λ c. SameExtent (block_at bs j) c) (sym e) (record { base = refl; size = refl })
  same_extent j (inr e) = subst (λ c. SameExtent (block_at bs j) c) (sym e.1) (subst (λ i. SameExtent (block_at bs i) (put_at a new (block_at bs k))) (sym e.0) (put-extent a new (block_at bs k) within))

  bytes_still : (j : ℕ) → (block_at stored j ≡ block_at bs j) ⊎ ((j ≡ k) × (block_at stored j ≡ put_at a new (block_at bs k))) → AreBytes (block_at stored j).bytes
  bytes_still j (inl e) = subst (λ c. AreBytes c.bytes) (sym e) (ok.bytes j)
  bytes_still j (inr e) = subst (λ c. AreBytes c.bytes) (sym e.1) (put-bytes a new (block_at bs k) are_bytes (ok.bytes k))

  covered : (j x : ℕ) → holds x 1 (block_at stored j) ≡ true → holds x 1 (block_at bs j) ≡ true
  covered j x h = covers_holds (block_at bs j) x (covers_same (block_at bs j) (block_at stored j) x (same_extent j (set_at bs k _ j)) (covers (block_at stored j) x h))

  pub IsMemory-put : IsMemory stored
  IsMemory-put = record {
    ends = λ j. (let same = same_extent j (set_at bs k _ j) in let base = same.base in let size = same.size in let end = ok.ends j in omega (arith, base, size, end));
    bytes = λ j. bytes_still j (set_at bs k _ j);
    apart = λ x i j h h'. ok.apart x i j (covered i x h) (covered j x h');
  }

-- the same by what is read of the block at an index that is there, and by the block that is put back
pub IsMemory-stored : (bs : List Range) (k a : ℕ) (new : List ℕ) (b c d : Range) → k < length bs → IsMemory bs → AreBytes new → b ≡ get_or bs k b → c ≡ get_or bs k c → holds a (length new) b ≡ true → d ≡ put_at a new c → IsMemory (set bs k d)
IsMemory-stored bs k a new b c d lt ok are_bytes e f t g =
    let empty : Range = record { base = 0; bytes = [] } in
    let here : b ≡ block_at bs k = e ∙ same_at k bs b empty lt in
    let there : c ≡ block_at bs k = f ∙ same_at k bs c empty lt in
    subst (λ x. IsMemory (set bs k x)) (ap (put_at a new) (sym there) ∙ sym g) (IsMemory-put bs k a new ok are_bytes (ap (holds a (length new)) (sym here) ∙ t))
