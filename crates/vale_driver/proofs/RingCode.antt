-- The checker's sums are those of the rule.
use Rattle.std.proofs.Common.{◌≡◌, ℕ, zero, suc, ◌+◌, ◌%◌, ◌<◌, ◌≤◌, Bool, true, false, cond, List, [], ◌∷◌, ◌++◌, length, drop, Option, Some, None, refl, sym, ap, ◌∙◌, subst, arith, ◌&&◌, mod-eq_of_lt}
use Rattle.std.proofs.Common.{get_or, drop-cons, append_assoc}
use Rattle.std.specs.Prelude.{slice_get}
use Rattle.std.specs.Option.{option_map}
use Rattle.std.proofs.lemmas.Nat.{mod_below}
use Rattle.std.proofs.lemmas.Bool.{lt-leb}
use Rattle.term_core.specs.declared.term.Term.{Term}
use Rattle.term_core.specs.Terms.{Tm, tree, trees}
use Rattle.term_core.specs.Value.{T}
use Rattle.vale_driver.specs.declared.ring.Occurring.{Occurring}
use Rattle.vale_driver.specs.Certificate.{Pair}
use Rattle.vale_driver.specs.inner.Fronts.{◌>>=◌}
use Rattle.vale_driver.specs.Ring.{Occurrence, same_atom, coefficient, is_balanced, difference, times, width, width_limit, Sides, sides, Weighted, weight_of}
use Rattle.vale_driver.specs.inner.RingCode.{occurrence_views, ClosesNothing, hypothesis_sides_of}

coefficient-lt : (m : Option Tm) (os : List Occurrence) → coefficient m os < T
coefficient-lt m [] = omega arith
coefficient-lt m (o ∷ os) = either (same_atom m o.atom) (coefficient-lt m os)
  where
    either : (b : Bool) → coefficient m os < T → cond b ((o.coefficient + coefficient m os) % T) (coefficient m os) < T
    either true h = mod_below (o.coefficient + coefficient m os) T (omega arith)
    either false h = h

pub drop_all : {A : Type 0} (n : ℕ) (xs : List A) → length xs ≤ n → drop n xs ≡ []
drop_all zero [] h = refl
drop_all (suc n) [] h = refl
drop_all zero (x ∷ xs) h = absurd (omega arith)
drop_all (suc n) (x ∷ xs) h = drop_all n xs (omega arith)

pub sum_done : (m : Option Tm) (sum n : ℕ) (all : List Occurring) → sum < T → length all ≤ n → (sum + coefficient m (occurrence_views (drop n all))) % T ≡ coefficient m (occurrence_views all) % T → sum ≡ coefficient m (occurrence_views all)
sum_done m sum n all lt le h =
    let e : sum ≡ sum + 0 = omega arith in
    sym (mod-eq_of_lt lt) ∙ ap (λ k. k % T) e ∙ ap (λ (xs : List Occurring). (sum + coefficient m (occurrence_views xs)) % T) (sym (drop_all n all le)) ∙ h
    ∙ mod-eq_of_lt (coefficient-lt m (occurrence_views all))

-- occurrences and a width in front of others
abbrev pub in_front : List Occurrence → ℕ → Option Weighted → Option Weighted
in_front os w None = None
in_front os w (Some x) = Some record { occurrences_ = os ++ x.occurrences_; width_ = w + x.width_ }

get_tree : (xs : List Term) (i : ℕ) → slice_get (trees xs) i ≡ option_map tree (slice_get xs i)
get_tree [] i = refl
get_tree (x ∷ xs) zero = refl
get_tree (x ∷ xs) (suc i) = get_tree xs i

pub no_sides : (xs : List Term) (i : ℕ) → None ≡ slice_get xs i → None ≡ hypothesis_sides_of (trees xs) i
unfolding hypothesis_sides_of
no_sides xs i h = ap (λ o. option_map tree o >>= sides) h ∙ ap (λ o. o >>= sides) (sym (get_tree xs i))

pub some_sides : (xs : List Term) (i : ℕ) (t : Term) → Some t ≡ slice_get xs i → sides (tree t) ≡ hypothesis_sides_of (trees xs) i
unfolding hypothesis_sides_of
some_sides xs i t h = ap (λ o. option_map tree o >>= sides) h ∙ ap (λ o. o >>= sides) (sym (get_tree xs i))

front_twice : (os ps : List Occurrence) (v w : ℕ) (x : Option Weighted) → in_front os v (in_front ps w x) ≡ in_front (os ++ ps) (v + w) x
front_twice os ps v w None = refl
front_twice os ps v w (Some x) =
    let e : v + (w + x.width_) ≡ (v + w) + x.width_ = omega arith in
    ap (λ zs. Some record { occurrences_ = zs; width_ = v + (w + x.width_) }) (sym (append_assoc os ps x.occurrences_))
    ∙ ap (λ n. Some record { occurrences_ = (os ++ ps) ++ x.occurrences_; width_ = n }) e

module _ (hyps : List Tm) (p : Pair) (ps : List Pair) where
  weighted_none : None ≡ hypothesis_sides_of hyps p.0 → weight_of hyps (p ∷ ps) ≡ None
  unfolding hypothesis_sides_of
  weighted_none h = by_get (slice_get hyps p.0) h
    where
      by_get : (o : Option Tm) → None ≡ (o >>= sides) → ◌≡◌ {A = Option Weighted} (o >>= λ h. sides h >>= λ s. weight_of hyps ps >>= λ w. Some record { occurrences_ = times p.1 (difference s.left s.right) ++ w.occurrences_; width_ = (width s.left + width s.right) + w.width_ }) None
      by_get None h = refl
      by_get (Some t) h = ap (λ o. o >>= λ s. weight_of hyps ps >>= λ w. Some record { occurrences_ = times p.1 (difference s.left s.right) ++ w.occurrences_; width_ = (width s.left + width s.right) + w.width_ }) (sym h)

  weighted_some : (s : Sides) → Some s ≡ hypothesis_sides_of hyps p.0 → weight_of hyps (p ∷ ps) ≡ in_front (times p.1 (difference s.left s.right)) (width s.left + width s.right) (weight_of hyps ps)
  unfolding hypothesis_sides_of
  weighted_some s h = by_get (slice_get hyps p.0) h ∙ by_rest (weight_of hyps ps)
    where
      by_get : (o : Option Tm) → Some s ≡ (o >>= sides) → ◌≡◌ {A = Option Weighted} (o >>= λ h. sides h >>= λ s. weight_of hyps ps >>= λ w. Some record { occurrences_ = times p.1 (difference s.left s.right) ++ w.occurrences_; width_ = (width s.left + width s.right) + w.width_ }) (weight_of hyps ps >>= λ w. Some record { occurrences_ = times p.1 (difference s.left s.right) ++ w.occurrences_; width_ = (width s.left + width s.right) + w.width_ })
      by_get None h = absurd cc
      by_get (Some t) h = ap (λ o. o >>= λ s. weight_of hyps ps >>= λ w. Some record { occurrences_ = times p.1 (difference s.left s.right) ++ w.occurrences_; width_ = (width s.left + width s.right) + w.width_ }) (sym h)

      by_rest : (x : Option Weighted) → ◌≡◌ {A = Option Weighted} (x >>= λ w. Some record { occurrences_ = times p.1 (difference s.left s.right) ++ w.occurrences_; width_ = (width s.left + width s.right) + w.width_ }) (in_front (times p.1 (difference s.left s.right)) (width s.left + width s.right) x)
      by_rest None = refl
      by_rest (Some w) = refl

too_wide : (os : List Occurrence) (w : ℕ) (x : Option Weighted) → width_limit < w → ClosesNothing (in_front os w x)
too_wide os w None h g = refl
too_wide os w (Some x) h g =
    let past : width_limit < (width g.left + width g.right) + (w + x.width_) = omega arith in
    ap (λ b. b && is_balanced (difference g.left g.right) (os ++ x.occurrences_)) (lt-leb _ _ past)

module _ (hyps : List Tm) (pairs : List Pair) (n : ℕ) (os : List Occurrence) (w : ℕ) where
  abbrev pair_now : Pair
  pair_now = get_or pairs n (0, 0)

  split : n < length pairs → drop n pairs ≡ pair_now ∷ drop (n + 1) pairs
  split lt = drop-cons pairs n (0, 0) lt ∙ (let e : suc n ≡ n + 1 = omega arith in ap (λ k. pair_now ∷ drop k pairs) e)

  pub weigh_none : n < length pairs → in_front os w (weight_of hyps (drop n pairs)) ≡ weight_of hyps pairs → None ≡ hypothesis_sides_of hyps pair_now.0 → ClosesNothing (weight_of hyps pairs)
  weigh_none lt whole h =
      subst ClosesNothing (ap (in_front os w) (sym (ap (weight_of hyps) (split lt) ∙ weighted_none hyps pair_now (drop (n + 1) pairs) h)) ∙ whole) (λ g. refl)

  pub weigh_more : (s : Sides) → n < length pairs → in_front os w (weight_of hyps (drop n pairs)) ≡ weight_of hyps pairs → Some s ≡ hypothesis_sides_of hyps pair_now.0 → in_front (os ++ times pair_now.1 (difference s.left s.right)) (w + (width s.left + width s.right)) (weight_of hyps (drop (n + 1) pairs)) ≡ weight_of hyps pairs
  weigh_more s lt whole h =
      sym (front_twice os (times pair_now.1 (difference s.left s.right)) w (width s.left + width s.right) (weight_of hyps (drop (n + 1) pairs)))
      ∙ ap (in_front os w) (sym (ap (weight_of hyps) (split lt) ∙ weighted_some hyps pair_now (drop (n + 1) pairs) s h)) ∙ whole

  pub weigh_wide : (s : Sides) → n < length pairs → in_front os w (weight_of hyps (drop n pairs)) ≡ weight_of hyps pairs → Some s ≡ hypothesis_sides_of hyps pair_now.0 → width_limit < w + (width s.left + width s.right) → ClosesNothing (weight_of hyps pairs)
  weigh_wide s lt whole h wide =
      subst ClosesNothing (weigh_more s lt whole h) (too_wide _ _ (weight_of hyps (drop (n + 1) pairs)) wide)
