-- One step of reading after another.
use Rattle.std.proofs.Common.{◌≡◌, ℕ, zero, suc, ◌+◌, ◌-◌, ◌<◌, ◌≤◌, List, [], ◌∷◌, ◌++◌, Option, Some, None, refl, sym, ap, ◌∙◌, arith, append_assoc}
use Rattle.std.proofs.lemmas.List.{append-nil}
use Rattle.std.specs.Prelude.{codes}
use Rattle.vale_driver.specs.inner.Fronts.{◌>>=◌, strip}
use Rattle.vale_driver.specs.Certificate.{Pair}
use Rattle.vale_driver.specs.inner.CertificateFront.{pair_at, more_at, with_pairs, behind_comma}

pub then_some : {A B : Type 0} (o : Option A) (x : A) (f : A → Option B) → Some x ≡ o → (o >>= f) ≡ f x
then_some o x f e = ap (λ p. p >>= f) (sym e)

pub then_none : {A B : Type 0} (o : Option A) (f : A → Option B) → None ≡ o → (o >>= f) ≡ None
then_none o f e = ap (λ p. p >>= f) (sym e)

pub with_more_pairs : (front : List Pair) (p : Pair) (o : Option (List Pair × List ℕ)) → with_pairs front (with_pairs (p ∷ []) o) ≡ with_pairs (front ++ p ∷ []) o
with_more_pairs front p None = refl
with_more_pairs front p (Some x) = ap (λ ps. Some (ps, x.1)) (sym (append_assoc front (p ∷ []) x.0))

module _ (whole : Option (List Pair × List ℕ)) (front : List Pair) (rest : List ℕ) where
  no_comma : (n : ℕ) → None ≡ strip (codes ",") rest → more_at n rest ≡ Some ([], rest)
  unfolding more_at
  no_comma zero h = refl
  no_comma (suc n) h = ap (λ o. behind_comma o rest (λ rest. pair_at rest >>= λ p. with_pairs (p.0 ∷ []) (more_at n p.1))) (sym h)

  a_comma : (n : ℕ) (behind : List ℕ) → Some behind ≡ strip (codes ",") rest → more_at (suc n) rest ≡ (pair_at behind >>= λ p. with_pairs (p.0 ∷ []) (more_at n p.1))
  unfolding more_at
  a_comma n behind h = ap (λ o. behind_comma o rest (λ rest. pair_at rest >>= λ p. with_pairs (p.0 ∷ []) (more_at n p.1))) (sym h)

  pub pairs_end : (n : ℕ) → with_pairs front (more_at n rest) ≡ whole → None ≡ strip (codes ",") rest → whole ≡ Some (front, rest)
  pairs_end n h s = sym h ∙ ap (with_pairs front) (no_comma n s) ∙ ap (λ ps. Some (ps, rest)) (append-nil front)

  pub pairs_limit : (n k : ℕ) → n ≤ k → with_pairs front (more_at (n - k) rest) ≡ whole → whole ≡ Some (front, rest)
  unfolding more_at
  pairs_limit n k le h =
      let e : n - k ≡ zero = omega arith in
      sym h ∙ ap (λ m. with_pairs front (more_at m rest)) e ∙ ap (λ ps. Some (ps, rest)) (append-nil front)

  pub pairs_broken : (n k : ℕ) (behind : List ℕ) → k < n → with_pairs front (more_at (n - k) rest) ≡ whole → Some behind ≡ strip (codes ",") rest → None ≡ pair_at behind → whole ≡ None
  pairs_broken n k behind lt h s p =
      let e : n - k ≡ suc (n - (k + 1)) = omega arith in
      sym h ∙ ap (λ m. with_pairs front (more_at m rest)) e ∙ ap (with_pairs front) (a_comma (n - (k + 1)) behind s ∙ then_none _ _ p)

  pub pairs_more : (n k : ℕ) (behind : List ℕ) (p : Pair) (behind' : List ℕ) → k < n → with_pairs front (more_at (n - k) rest) ≡ whole → Some behind ≡ strip (codes ",") rest → Some (p, behind') ≡ pair_at behind → with_pairs (front ++ p ∷ []) (more_at (n - (k + 1)) behind') ≡ whole
  pairs_more n k behind p behind' lt h s q =
      let e : n - k ≡ suc (n - (k + 1)) = omega arith in
      sym (with_more_pairs front p (more_at (n - (k + 1)) behind'))
      ∙ ap (with_pairs front) (sym (a_comma (n - (k + 1)) behind s ∙ then_some _ _ _ q))
      ∙ ap (λ m. with_pairs front (more_at m rest)) (sym e) ∙ h
