-- Where the rule `ring` applies, the goal is true wherever the hypotheses are.
use Rattle.std.proofs.Common.{◌≡◌, ℕ, zero, suc, ◌+◌, ◌-◌, ◌*◌, ◌%◌, ◌<◌, ◌≤◌, Bool, true, false, not, cond, List, [], ◌∷◌, ◌++◌, length, Option, Some, None, refl, sym, ap, ◌∙◌, subst, arith, ◌&&◌, eqb, ◌⊎◌, inl, inr, mod-eq_of_lt}
use Rattle.std.specs.Prelude.{slice_get}
use Rattle.std.specs.List.{list_all, AllByRecursion}
use Rattle.std.proofs.lemmas.Bool.{and_parts, and_from, false≢true, eqb-true}
use Rattle.std.proofs.lemmas.Nat.{mod_below, mul-mod_second, mul-mod_first}
use Rattle.std.proofs.Math.Nat.{add-mod-mod, mod-add-mod, mul_assoc, add-mul-mod_self_left}
use Rattle.std.proofs.lemmas.Option.{same_Some}
use Rattle.x64_syntax.specs.declared.type_words.Sort.TheVariants as sort
use Rattle.term_core.specs.declared.operator.BinOp.TheVariants as bin
use Rattle.term_core.specs.Terms.{Tm, W64, Bin, tm_sort}
use Rattle.term_core.specs.Operators.{sort_eq}
use Rattle.term_core.specs.Value.{T, Truth, Word, word, cast, val_eq, sum_value, Functions, Assignment, value, Holds}
use Rattle.term_core.proofs.Values.{word-lt, value-sorted, val_eq_is, val_eq_same}
use Rattle.term_core.proofs.Comparing.{tm_eq_is, tm_eq_same, sort_eq_is}
use Rattle.vale_driver.specs.Certificate.{Pair}
use Rattle.vale_driver.specs.Ring.{Occurrence, alone, of_words, occurrences, times, difference, same_atom, coefficient, is_balanced, Sides, sides, Weighted, weight_of, closes_with, closes_sides, ring_closes}
use Rattle.vale_driver.proofs.Pieces.{bind_some, given_some}

-- equal modulo 2^64
abbrev Alike : ℕ → ℕ → Type 0
Alike m n = m % T ≡ n % T

alike_add : (a b c d : ℕ) → Alike a b → Alike c d → Alike (a + c) (b + d)
alike_add a b c d h k =
    sym (mod-add-mod a T c) ∙ ap (λ x. (x + c) % T) h ∙ mod-add-mod b T c
    ∙ sym (add-mod-mod b c T) ∙ ap (λ x. (b + x) % T) k ∙ add-mod-mod b d T

alike_times : (f a b : ℕ) → Alike a b → Alike (f * a) (f * b)
alike_times f a b h = sym (mul-mod_second f a T) ∙ ap (λ x. (f * x) % T) h ∙ mul-mod_second f b T

alike_mod : (a : ℕ) → Alike (a % T) a
alike_mod a = mod-eq_of_lt (mod_below a T (omega arith))

module _ (g : Functions) (a : Assignment) where
  -- what an atom is worth; the constant counts 1
  worth : Option Tm → ℕ
  worth None = 1
  worth (Some t) = word (value g a t)

  -- what occurrences are worth together
  total : List Occurrence → ℕ
  total [] = 0
  total (o ∷ os) = o.coefficient * worth o.atom + total os

  total-append : (os ps : List Occurrence) → total (os ++ ps) ≡ total os + total ps
  unfolding total
  total-append [] ps = omega arith
  total-append (o ∷ os) ps = ap (λ n. o.coefficient * worth o.atom + n) (total-append os ps) ∙ omega arith

  total-alone : (t : Tm) → Alike (word (value g a t)) (total (alone t))
  unfolding total worth
  total-alone t = ap (λ n. n % T) (omega arith)

  sum_worth : (t u : Tm) → sort_eq (tm_sort t) sort.W64 ≡ true → word (value g a (Bin bin.Add t u)) % T ≡ (word (value g a t) + word (value g a u)) % T
  sum_worth t u h =
      let s = sort_eq_is (tm_sort t) sort.W64 h in
      ap (λ s. word (sum_value s (value g a t) (value g a u)) % T) s
      ∙ ap (λ n. n % T) (mod-eq_of_lt (mod_below (word (value g a t) + word (value g a u)) T (omega arith)))
      ∙ alike_mod (word (value g a t) + word (value g a u))

  -- the occurrences in a term are worth what it is
  total-occurrences : (t : Tm) → Alike (word (value g a t)) (total (occurrences t))
  unfolding total worth
  total-occurrences (W64 n) = ap (λ m. m % T) (mod-eq_of_lt (mod_below n T (omega arith)) ∙ omega arith)
  total-occurrences (Bin bin.Add t u) = by_sort (sort_eq (tm_sort t) sort.W64) refl (total-occurrences t) (total-occurrences u)
    where
      by_sort : (b : Bool) → sort_eq (tm_sort t) sort.W64 ≡ b → Alike (word (value g a t)) (total (occurrences t)) → Alike (word (value g a u)) (total (occurrences u)) → Alike (word (value g a (Bin bin.Add t u))) (total (cond b (occurrences t ++ occurrences u) (alone (Bin bin.Add t u))))
      by_sort true e ht hu = sum_worth t u e ∙ alike_add _ _ _ _ ht hu ∙ ap (λ n. n % T) (sym (total-append (occurrences t) (occurrences u)))
      by_sort false e ht hu = total-alone (Bin bin.Add t u)
  total-occurrences t = total-alone t

  total-times : (f : ℕ) (os : List Occurrence) → Alike (total (times f os)) (f * total os)
  unfolding total
  total-times f [] = let e : 0 ≡ f * 0 = omega arith in ap (λ n. n % T) e
  total-times f (o ∷ os) =
      let w = worth o.atom in
      alike_add ((f * o.coefficient) % T * w) (f * (o.coefficient * w)) (total (times f os)) (f * total os)
      (mul-mod_first (f * o.coefficient) w T ∙ ap (λ n. n % T) (mul_assoc f o.coefficient w))
      (total-times f os)
      ∙ ap (λ n. n % T) (let e : f * (o.coefficient * w) + f * total os ≡ f * (o.coefficient * w + total os) = omega arith in e)

  -- the occurrences of other monomials
  without : Option Tm → List Occurrence → List Occurrence
  without m [] = []
  without m (o ∷ os) = cond (same_atom m o.atom) (without m os) (o ∷ without m os)

  same_atom_is : (m n : Option Tm) → same_atom m n ≡ true → m ≡ n
  same_atom_is None None h = refl
  same_atom_is (Some t) (Some u) h = ap Some (tm_eq_is t u h)
  same_atom_is None (Some u) h = absurd (false≢true h)
  same_atom_is (Some t) None h = absurd (false≢true h)

  same_atom_same : (m : Option Tm) → same_atom m m ≡ true
  same_atom_same None = refl
  same_atom_same (Some t) = tm_eq_same t

  -- a monomial's coefficient and the others
  total-without : (m : Option Tm) (os : List Occurrence) → Alike (total os) (coefficient m os * worth m + total (without m os))
  unfolding total without
  total-without m [] = let e : 0 ≡ 0 * worth m + 0 = omega arith in ap (λ n. n % T) e
  total-without m (o ∷ os) = by_test (same_atom m o.atom) refl (total-without m os)
    where
      by_test : (b : Bool) → same_atom m o.atom ≡ b → Alike (total os) (coefficient m os * worth m + total (without m os)) → Alike (o.coefficient * worth o.atom + total os) (cond b ((o.coefficient + coefficient m os) % T) (coefficient m os) * worth m + total (cond b (without m os) (o ∷ without m os)))
      by_test true e h =
          let w = worth m in
          let c = o.coefficient in
          let d = coefficient m os in
          let r = total (without m os) in
          let atom : c * worth o.atom ≡ c * w = ap (λ n. c * worth n) (sym (same_atom_is m o.atom e)) in
          ap (λ n. (n + total os) % T) atom
          ∙ alike_add (c * w) (c * w) (total os) (d * w + r) refl h
          ∙ ap (λ n. n % T) (let e : c * w + (d * w + r) ≡ (c + d) * w + r = omega arith in e)
          ∙ alike_add ((c + d) * w) ((c + d) % T * w) r r (sym (mul-mod_first (c + d) w T)) refl
      by_test false e h =
          let x = o.coefficient * worth o.atom in
          let y = coefficient m os * worth m in
          let r = total (without m os) in
          alike_add x x (total os) (y + r) refl h ∙ ap (λ n. n % T) (let e : x + (y + r) ≡ y + (x + r) = omega arith in e)

  length-without : (m : Option Tm) (os : List Occurrence) → length (without m os) ≤ length os
  unfolding without
  length-without m [] = omega arith
  length-without m (o ∷ os) = by_test (same_atom m o.atom) (length-without m os)
    where
      by_test : (b : Bool) → length (without m os) ≤ length os → length (cond b (without m os) (o ∷ without m os)) ≤ suc (length os)
      by_test true h = omega arith
      by_test false h = omega arith

  -- the monomial itself is gone, and others keep their coefficients
  coefficient-gone : (m : Option Tm) (os : List Occurrence) → coefficient m (without m os) ≡ 0
  unfolding without
  coefficient-gone m [] = refl
  coefficient-gone m (o ∷ os) = by_test (same_atom m o.atom) refl (coefficient-gone m os)
    where
      by_test : (b : Bool) → same_atom m o.atom ≡ b → coefficient m (without m os) ≡ 0 → coefficient m (cond b (without m os) (o ∷ without m os)) ≡ 0
      by_test true e h = h
      by_test false e h = ap (λ b. cond b ((o.coefficient + coefficient m (without m os)) % T) (coefficient m (without m os))) e ∙ h

  coefficient-kept : (n m : Option Tm) (os : List Occurrence) → same_atom n m ≡ false → coefficient n (without m os) ≡ coefficient n os
  unfolding without
  coefficient-kept n m [] h = refl
  coefficient-kept n m (o ∷ os) h = by_test (same_atom m o.atom) refl (coefficient-kept n m os h)
    where
      by_test : (b : Bool) → same_atom m o.atom ≡ b → coefficient n (without m os) ≡ coefficient n os → coefficient n (cond b (without m os) (o ∷ without m os)) ≡ coefficient n (o ∷ os)
      by_test true e k =
          let other : same_atom n o.atom ≡ false = ap (same_atom n) (sym (same_atom_is m o.atom e)) ∙ h in
          k ∙ ap (λ b. cond b ((o.coefficient + coefficient n os) % T) (coefficient n os)) (sym other)
      by_test false e k = ap (λ c. cond (same_atom n o.atom) ((o.coefficient + c) % T) c) k

  -- every monomial has the same coefficient on both sides
  record Agrees (left right : List Occurrence) : Type 0 where
    each : (m : Option Tm) → coefficient m left ≡ coefficient m right

  agrees-without : (left right : List Occurrence) (m : Option Tm) → Agrees left right → Agrees (without m left) (without m right)
  agrees-without left right m h = record { each = λ n. by_test n (same_atom n m) refl }
    where
      by_test : (n : Option Tm) (b : Bool) → same_atom n m ≡ b → coefficient n (without m left) ≡ coefficient n (without m right)
      by_test n true e =
          ap (λ k. coefficient k (without m left)) (same_atom_is n m e) ∙ coefficient-gone m left
          ∙ sym (coefficient-gone m right) ∙ ap (λ k. coefficient k (without m right)) (sym (same_atom_is n m e))
      by_test n false e = coefficient-kept n m left e ∙ h.each n ∙ sym (coefficient-kept n m right e)

  -- then both sides are worth the same
  one_monomial : (m : Option Tm) (left right : List Occurrence) → Agrees left right → Alike (total (without m left)) (total (without m right)) → Alike (total left) (total right)
  one_monomial m left right h k =
      total-without m left
      ∙ alike_add (coefficient m left * worth m) (coefficient m right * worth m) _ _ (ap (λ c. (c * worth m) % T) (h.each m)) k
      ∙ sym (total-without m right)

  without-head : (o : Occurrence) (os : List Occurrence) → length (without o.atom (o ∷ os)) ≤ length os
  unfolding without
  without-head o os =
      subst (λ b. length (cond b (without o.atom os) (o ∷ without o.atom os)) ≤ length os) (sym (same_atom_same o.atom)) (length-without o.atom os)

  total-agrees : (k : ℕ) (left right : List Occurrence) → length left + length right ≤ k → Agrees left right → Alike (total left) (total right)
  total-agrees k [] [] le h = refl
  total-agrees zero (o ∷ os) right le h = absurd (omega arith)
  total-agrees zero [] (o ∷ os) le h = absurd (omega arith)
  total-agrees (suc k) (o ∷ os) right le h =
      let m = o.atom in
      let small : length (without m (o ∷ os)) + length (without m right) ≤ k = omega (arith, without-head o os, length-without m right) in
      one_monomial m (o ∷ os) right h (total-agrees k (without m (o ∷ os)) (without m right) small (agrees-without (o ∷ os) right m h))
  total-agrees (suc k) [] (o ∷ os) le h =
      let m = o.atom in
      let small : length (without m []) + length (without m (o ∷ os)) ≤ k = omega (arith, without-head o os, length-without m []) in
      one_monomial m [] (o ∷ os) h (total-agrees k (without m []) (without m (o ∷ os)) small (agrees-without [] (o ∷ os) m h))

  -- the monomial doesn't occur
  absent : Option Tm → List Occurrence → Bool
  absent m os = list_all (λ o. not (same_atom m o.atom)) os

  coefficient-absent : (m : Option Tm) (os : List Occurrence) → absent m os ≡ true → coefficient m os ≡ 0
  unfolding absent
  coefficient-absent m [] h = refl
  coefficient-absent m (o ∷ os) h =
      let p = and_parts (not (same_atom m o.atom)) _ h in
      ap (λ b. cond b ((o.coefficient + coefficient m os) % T) (coefficient m os)) (negated _ p.0) ∙ coefficient-absent m os p.1
    where
      negated : (b : Bool) → not b ≡ true → b ≡ false
      negated true h = absurd (false≢true h)
      negated false h = refl

  -- monomials that occur have equal coefficients, and so have those that don't
  tested : (left right os : List Occurrence) → list_all (λ o. eqb (coefficient o.atom left) (coefficient o.atom right)) os ≡ true → (m : Option Tm) → (coefficient m left ≡ coefficient m right) ⊎ (absent m os ≡ true)
  unfolding absent
  tested left right [] h m = inr refl
  tested left right (o ∷ os) h m =
      let p = and_parts (eqb (coefficient o.atom left) (coefficient o.atom right)) _ h in
      by_test (same_atom m o.atom) refl (eqb-true _ _ p.0) (tested left right os p.1 m)
    where
      by_test : (b : Bool) → same_atom m o.atom ≡ b → coefficient o.atom left ≡ coefficient o.atom right → (coefficient m left ≡ coefficient m right) ⊎ (list_all (λ o. not (same_atom m o.atom)) os ≡ true) → (coefficient m left ≡ coefficient m right) ⊎ ((not (same_atom m o.atom) && list_all (λ o. not (same_atom m o.atom)) os) ≡ true)
      by_test true e h k = inl (subst (λ n. coefficient n left ≡ coefficient n right) (sym (same_atom_is m o.atom e)) h)
      by_test false e h (inl k) = inl k
      by_test false e h (inr k) = inr (and_from _ _ (ap not e) k)

  absent_parts : (m : Option Tm) (os ps : List Occurrence) → absent m (os ++ ps) ≡ true → (absent m os ≡ true) × (absent m ps ≡ true)
  unfolding absent
  absent_parts m [] ps h = (refl, h)
  absent_parts m (o ∷ os) ps h =
      let p = and_parts (not (same_atom m o.atom)) _ h in
      let q = absent_parts m os ps p.1 in
      (and_from _ _ p.0 q.0, q.1)

  agrees-balanced : (left right : List Occurrence) → is_balanced left right ≡ true → Agrees left right
  agrees-balanced left right h = record { each = λ m. by_case m (tested left right (left ++ right) h m) }
    where
      by_case : (m : Option Tm) → (coefficient m left ≡ coefficient m right) ⊎ (absent m (left ++ right) ≡ true) → coefficient m left ≡ coefficient m right
      by_case m (inl e) = e
      by_case m (inr e) = let p = absent_parts m left right e in coefficient-absent m left p.0 ∙ sym (coefficient-absent m right p.1)

  -- what a difference is worth
  total-difference : (l r : Tm) → Alike (total (difference l r)) (word (value g a l) + (T - 1) * word (value g a r))
  total-difference l r =
      ap (λ n. n % T) (total-append (occurrences l) (times (T - 1) (occurrences r)))
      ∙ alike_add _ _ _ _ (sym (total-occurrences l)) (total-times (T - 1) (occurrences r) ∙ alike_times (T - 1) _ _ (sym (total-occurrences r)))

  difference_none : (l r : Tm) → value g a l ≡ value g a r → Alike (total (difference l r)) 0
  difference_none l r h =
      let w = word (value g a r) in
      let e : w + (T - 1) * w ≡ 0 + T * w = omega arith in
      total-difference l r ∙ ap (λ v. (word v + (T - 1) * w) % T) h ∙ ap (λ n. n % T) e ∙ add-mul-mod_self_left 0 T w

  -- the sides of an equation
  sides_are : (t : Tm) (s : Sides) → sides t ≡ Some s → (t ≡ Bin bin.Eq s.left s.right) × (of_words s.left ≡ true) × (of_words s.right ≡ true)
  sides_are (Bin bin.Eq l r) s h =
      let g = given_some _ _ _ h in
      let p = and_parts (of_words l) (of_words r) g.0 in
      let e1 = ap (λ (x : Sides). x.left) g.1 in
      let e2 = ap (λ (x : Sides). x.right) g.1 in
      (ap (λ x. Bin bin.Eq x r) e1 ∙ ap (Bin bin.Eq s.left) e2, subst (λ x. of_words x ≡ true) e1 p.0, subst (λ x. of_words x ≡ true) e2 p.1)
  sides_are _ s h = absurd cc

  truth_same : (b c : Bool) → Truth b ≡ Truth c → b ≡ c
  truth_same b c h = cc

  holds_sides : (t : Tm) (s : Sides) → sides t ≡ Some s → Holds g a t → value g a s.left ≡ value g a s.right
  holds_sides t s h ok =
      let e = sides_are t s h in
      val_eq_is _ _ (truth_same _ _ (ap (value g a) (sym e.0) ∙ ok))

  -- a word is told by its number
  word_is : (t : Tm) → of_words t ≡ true → value g a t ≡ Word (word (value g a t))
  word_is t h = sym (subst (λ s. cast s (value g a t) ≡ value g a t) (sort_eq_is (tm_sort t) sort.W64 h) (value-sorted g a t))

  sides_hold : (t : Tm) (s : Sides) → sides t ≡ Some s → Alike (total (difference s.left s.right)) 0 → Holds g a t
  sides_hold t s h none =
      let e = sides_are t s h in
      let x = word (value g a s.left) in
      let y = word (value g a s.right) in
      let sum : Alike (x + (T - 1) * y) 0 = sym (total-difference s.left s.right) ∙ none in
      let lx : x < T = word-lt (value g a s.left) in
      let ly : y < T = word-lt (value g a s.right) in
      let both : (x + (T - 1) * y) + y ≡ x + T * y = omega arith in
      let left : (x + T * y) % T ≡ x % T = add-mul-mod_self_left x T y in
      let alike : Alike x y = sym left ∙ ap (λ n. n % T) (sym both) ∙ alike_add (x + (T - 1) * y) 0 y y sum refl ∙ (let z : 0 + y ≡ y = omega arith in ap (λ n. n % T) z) in
      let same : x ≡ y = sym (mod-eq_of_lt lx) ∙ alike ∙ mod-eq_of_lt ly in
      let equal : value g a s.left ≡ value g a s.right = word_is s.left e.1 ∙ ap Word same ∙ sym (word_is s.right e.2) in
      ap (value g a) e.0 ∙ ap Truth (ap (val_eq (value g a s.left)) (sym equal) ∙ val_eq_same (value g a s.left))

  hyp_holds : (hyps : List Tm) (i : ℕ) (t : Tm) → slice_get hyps i ≡ Some t → AllByRecursion (Holds g a) hyps → Holds g a t
  hyp_holds [] i t h ok = absurd cc
  hyp_holds (x ∷ hyps) zero t h ok = let e : x ≡ t = cc in subst (Holds g a) e ok.0
  hyp_holds (x ∷ hyps) (suc i) t h ok = hyp_holds hyps i t h ok.1

  -- hypotheses that hold are worth nothing together
  weighted_none : (hyps : List Tm) → AllByRecursion (Holds g a) hyps → (ps : List Pair) (w : Weighted) → weight_of hyps ps ≡ Some w → Alike (total w.occurrences_) 0
  unfolding total
  weighted_none hyps ok [] w h = let e : record { occurrences_ = []; width_ = 0 } ≡ w = same_Some _ _ h in ap (λ (x : Weighted). total x.occurrences_ % T) (sym e) ∙ nothing
    where
      nothing : Alike (total []) 0
      nothing = refl
  weighted_none hyps ok (p ∷ ps) w h =
      let b = bind_some (slice_get hyps p.0) _ _ h in
      let s = bind_some (sides b.0) _ _ b.2 in
      let r = bind_some (weight_of hyps ps) _ _ s.2 in
      let e = same_Some _ _ r.2 in
      let equal = holds_sides b.0 s.0 s.1 (hyp_holds hyps p.0 b.0 b.1 ok) in
      let d = difference s.0.left s.0.right in
      ap (λ (x : Weighted). total x.occurrences_ % T) (sym e)
      ∙ ap (λ n. n % T) (total-append (times p.1 d) r.0.occurrences_)
      ∙ alike_add _ (p.1 * 0) _ 0 (total-times p.1 d ∙ alike_times p.1 _ 0 (difference_none s.0.left s.0.right equal)) (weighted_none hyps ok ps r.0 r.1)
      ∙ (let z : p.1 * 0 + 0 ≡ 0 = omega arith in ap (λ n. n % T) z)

  pub ring_sound : (hyps : List Tm) (goal : Tm) (ps : List Pair) → ring_closes hyps goal ps ≡ true → AllByRecursion (Holds g a) hyps → Holds g a goal
  ring_sound hyps goal ps h ok = by_sides (sides goal) refl h
    where
      by_weighted : (x : Sides) (o : Option Weighted) → weight_of hyps ps ≡ o → closes_with x o ≡ true → Alike (total (difference x.left x.right)) 0
      by_weighted x None e h = absurd (false≢true h)
      by_weighted x (Some w) e h =
          let p = and_parts _ (is_balanced (difference x.left x.right) w.occurrences_) h in
          total-agrees (length (difference x.left x.right) + length w.occurrences_) (difference x.left x.right) w.occurrences_ (omega arith) (agrees-balanced _ _ p.1)
          ∙ weighted_none hyps ok ps w e

      by_sides : (o : Option Sides) → sides goal ≡ o → closes_sides hyps ps o ≡ true → Holds g a goal
      by_sides None e h = absurd (false≢true h)
      by_sides (Some x) e h = sides_hold goal x e (by_weighted x (weight_of hyps ps) refl h)
