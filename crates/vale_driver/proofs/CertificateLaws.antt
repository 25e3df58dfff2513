-- A certificate is read exactly where it is spelled so.
use Rattle.std.proofs.Common.{◌≡◌, ℕ, zero, suc, ◌+◌, ◌<◌, ◌≤◌, ◌^◌, Bool, true, false, cond, List, [], ◌∷◌, ◌++◌, length, Option, Some, None, refl, sym, ap, ◌∙◌, subst, arith, decimal}
use Rattle.std.specs.Prelude.{codes, nat_le}
use Rattle.std.specs.List.{AllByRecursion}
use Rattle.std.proofs.lemmas.Bool.{leb-true, le-leb, false≢true, eqb-true}
use Rattle.std.proofs.Common.{length-append}
use Rattle.std.proofs.lemmas.Option.{same_Some}
use Rattle.vale_driver.specs.inner.Fronts.{◌>>=◌, strip, number_at}
use Rattle.vale_driver.specs.Words.{value_if}
use Rattle.vale_driver.specs.Certificate.{Pair, FitsPair, hypothesis_limit, pair_text, more_text, pairs_text, certificate_text, last}
use Rattle.vale_driver.specs.inner.CertificateFront.{pair_at, more_at, with_pairs, behind_comma, begins_pair, pairs_at, opening_at, certificate_at, ends}
use Rattle.vale_driver.proofs.Pieces.{bind_some, given_some, strip_is, strip_takes, takes, number_is, number_takes}

abbrev PairOf : Type 0
PairOf = Pair × List ℕ

abbrev PairsOf : Type 0
PairsOf = List Pair × List ℕ

pair_is : (bytes : List ℕ) (x : PairOf) → pair_at bytes ≡ Some x → (bytes ≡ pair_text x.0 x.1) × FitsPair x.0
unfolding pair_at
pair_is bytes x h =
    let a = bind_some (strip (codes "[") bytes) _ _ h in
    let i = bind_some (number_at a.0) _ _ a.2 in
    let b = bind_some (strip (codes ",") i.0.1) _ _ i.2 in
    let f = bind_some (number_at b.0) _ _ b.2 in
    let c = bind_some (strip (codes "]") f.0.1) _ _ f.2 in
    let g = given_some _ _ _ c.2 in
    let ni = number_is a.0 i.0.1 i.0.0 i.1 in
    let nf = number_is b.0 f.0.1 f.0.0 f.1 in
    let text : bytes ≡ pair_text (i.0.0, f.0.0) c.0 =
    strip_is (codes "[") bytes a.0 a.1
    ∙ ap (λ y. codes "[" ++ y) (ni.0
    ∙ ap (λ y. decimal i.0.0 ++ y) (strip_is (codes ",") i.0.1 b.0 b.1
    ∙ ap (λ y. codes "," ++ y) (nf.0
    ∙ ap (λ y. decimal f.0.0 ++ y) (strip_is (codes "]") f.0.1 c.0 c.1)))) in
    subst (λ (y : PairOf). (bytes ≡ pair_text y.0 y.1) × FitsPair y.0) g.1 (text, (leb-true _ _ g.0, nf.1))

pair_takes : (p : Pair) (rest : List ℕ) → FitsPair p → pair_at (pair_text p rest) ≡ Some (p, rest)
unfolding pair_at
pair_takes p rest fits =
    let r3 = codes "]" ++ rest in
    let r2 = decimal p.1 ++ r3 in
    let r1 = codes "," ++ r2 in
    let wide : p.0 < 2 ^ 64 = omega arith in
    takes (codes "[") (decimal p.0 ++ r1) _
    ∙ ap (λ o. o >>= λ i. strip (codes ",") i.1 >>= λ b. number_at b >>= λ f. strip (codes "]") f.1 >>= λ c. value_if (nat_le i.0 hypothesis_limit) ((i.0, f.0), c)) (number_takes p.0 r1 wide refl)
    ∙ takes (codes ",") r2 _
    ∙ ap (λ o. o >>= λ f. strip (codes "]") f.1 >>= λ c. value_if (nat_le p.0 hypothesis_limit) ((p.0, f.0), c)) (number_takes p.1 r3 fits.1 refl)
    ∙ takes (codes "]") rest _
    ∙ ap (λ t. value_if t (p, rest)) (le-leb p.0 hypothesis_limit fits.0)

-- one more pair in front
one_more : (p : Pair) (o : Option PairsOf) (x : PairsOf) → with_pairs (p ∷ []) o ≡ Some x → (ps : List Pair) × (o ≡ Some (ps, x.1)) × (x.0 ≡ p ∷ ps)
one_more p None x h = absurd cc
one_more p (Some y) x h =
    let pair : ◌≡◌ {A = PairsOf} (p ∷ y.0, y.1) x = same_Some _ _ h in
    (y.0, ap (λ t. Some (y.0, t)) (ap (λ (z : PairsOf). z.1) pair), sym (ap (λ (z : PairsOf). z.0) pair))

-- what pairs that are read say
record Paired (bytes : List ℕ) (x : PairsOf) : Type 0 where
  text : bytes ≡ more_text x.0 x.1
  fits : AllByRecursion FitsPair x.0

paired_none : (bytes : List ℕ) (x : PairsOf) → ◌≡◌ {A = Option PairsOf} (Some ([], bytes)) (Some x) → Paired bytes x
paired_none bytes x h =
    let pair : ◌≡◌ {A = PairsOf} ([], bytes) x = same_Some _ _ h in
    subst (Paired bytes) pair (record { text = refl; fits = tt })

more_is : (n : ℕ) (bytes : List ℕ) (x : PairsOf) → more_at n bytes ≡ Some x → Paired bytes x
unfolding more_at
more_is zero bytes x h = paired_none bytes x h
more_is (suc n) bytes x h = by_comma (strip (codes ",") bytes) refl h (λ bytes' x' k. more_is n bytes' x' k)
  where
    by_comma : (o : Option (List ℕ)) → strip (codes ",") bytes ≡ o → behind_comma o bytes (λ rest. pair_at rest >>= λ p. with_pairs (p.0 ∷ []) (more_at n p.1)) ≡ Some x → ((bytes' : List ℕ) (x' : PairsOf) → more_at n bytes' ≡ Some x' → Paired bytes' x') → Paired bytes x
    by_comma None e h again = paired_none bytes x h
    by_comma (Some rest) e h again =
        let p = bind_some (pair_at rest) _ _ h in
        let m = one_more p.0.0 (more_at n p.0.1) x p.2 in
        let here = pair_is rest p.0 p.1 in
        let there = again p.0.1 (m.0, x.1) m.1 in
        record {
          text = strip_is (codes ",") bytes rest e ∙ ap (λ y. codes "," ++ y) (here.0 ∙ ap (pair_text p.0.0) there.text) ∙ ap (λ ps. more_text ps x.1) (sym m.2);
          fits = subst (AllByRecursion FitsPair) (sym m.2) (here.1, there.fits);
        }

-- no comma stands in front
abbrev no_comma : List ℕ → Type 0
no_comma rest = strip (codes ",") rest ≡ None

more_takes : (n : ℕ) (ps : List Pair) (rest : List ℕ) → length ps ≤ n → AllByRecursion FitsPair ps → no_comma rest → more_at n (more_text ps rest) ≡ Some (ps, rest)
unfolding more_at
more_takes zero [] rest le fits s = refl
more_takes (suc n) [] rest le fits s = ap (λ o. behind_comma o rest (λ rest. pair_at rest >>= λ p. with_pairs (p.0 ∷ []) (more_at n p.1))) s
more_takes zero (p ∷ ps) rest le fits s = absurd (omega arith)
more_takes (suc n) (p ∷ ps) rest le fits s =
    let behind = pair_text p (more_text ps rest) in
    ap (λ o. behind_comma o (codes "," ++ behind) (λ rest. pair_at rest >>= λ p. with_pairs (p.0 ∷ []) (more_at n p.1))) (strip_takes (codes ",") behind)
    ∙ ap (λ o. o >>= λ q. with_pairs (q.0 ∷ []) (more_at n q.1)) (pair_takes p (more_text ps rest) fits.0)
    ∙ ap (with_pairs (p ∷ [])) (more_takes n ps rest (omega arith) fits.1 s)

-- there are no more pairs than bytes
length-more_text : (ps : List Pair) (rest : List ℕ) → length ps ≤ length (more_text ps rest)
length-more_text [] rest = omega arith
length-more_text (p ∷ ps) rest =
    let more = length-more_text ps rest in
    let a : length (pair_text p (more_text ps rest)) ≡ 1 + (length (decimal p.0) + (1 + (length (decimal p.1) + (1 + length (more_text ps rest))))) =
    omega (arith, length-append (decimal p.0) (codes "," ++ (decimal p.1 ++ (codes "]" ++ more_text ps rest))), length-append (decimal p.1) (codes "]" ++ more_text ps rest)) in
    omega arith

-- what a list that is read says
record Listed (bytes : List ℕ) (x : PairsOf) : Type 0 where
  text : bytes ≡ pairs_text x.0 x.1
  fits : AllByRecursion FitsPair x.0

pairs_is : (bytes : List ℕ) (x : PairsOf) → pairs_at bytes ≡ Some x → Listed bytes x
unfolding pairs_at
pairs_is bytes x h = by_test (begins_pair bytes) h
  where
    of_some : (x y : PairsOf) → ◌≡◌ {A = Option PairsOf} (Some x) (Some y) → x ≡ y
    of_some x y h = cc

    by_test : (b : Bool) → ◌≡◌ {A = Option PairsOf} (cond b (pair_at bytes >>= λ p. with_pairs (p.0 ∷ []) (more_at (length p.1) p.1)) (Some ([], bytes))) (Some x) → Listed bytes x
    by_test false h = subst (Listed bytes) (same_Some _ _ h) (record { text = refl; fits = tt })
    by_test true h =
        let p = bind_some (pair_at bytes) _ _ h in
        let m = one_more p.0.0 (more_at (length p.0.1) p.0.1) x p.2 in
        let here = pair_is bytes p.0 p.1 in
        let there = more_is (length p.0.1) p.0.1 (m.0, x.1) m.1 in
        record {
          text = here.0 ∙ ap (pair_text p.0.0) there.text ∙ ap (λ ps. pairs_text ps x.1) (sym m.2);
          fits = subst (AllByRecursion FitsPair) (sym m.2) (here.1, there.fits);
        }

pairs_takes : (ps : List Pair) (rest : List ℕ) → AllByRecursion FitsPair ps → no_comma rest → begins_pair rest ≡ false → pairs_at (pairs_text ps rest) ≡ Some (ps, rest)
unfolding pairs_at
pairs_takes [] rest fits s b = ap (λ t. cond t (pair_at rest >>= λ p. with_pairs (p.0 ∷ []) (more_at (length p.1) p.1)) (Some ([], rest))) b
pairs_takes (p ∷ ps) rest fits s b =
    ap (λ o. o >>= λ q. with_pairs (q.0 ∷ []) (more_at (length q.1) q.1)) (pair_takes p (more_text ps rest) fits.0)
    ∙ ap (with_pairs (p ∷ [])) (more_takes (length (more_text ps rest)) ps rest (length-more_text ps rest) fits.1 s)

-- a text is read as a certificate only where it is spelled so

ends_is : (bytes : List ℕ) → ends bytes ≡ true → (b : Bool) × (bytes ≡ last b)
ends_is [] h = (false, refl)
ends_is (c ∷ []) h = (true, ap (λ d. d ∷ []) (eqb-true c 10 h))
ends_is (c ∷ d ∷ bs) h = absurd (false≢true h)

last_ends : (b : Bool) → ends (last b) ≡ true
last_ends true = refl
last_ends false = refl

pub certificate_is : (name bytes : List ℕ) (ps : List Pair) → certificate_at name bytes ≡ Some ps → AllByRecursion FitsPair ps × ((b : Bool) × (bytes ≡ certificate_text name ps (last b)))
unfolding certificate_at opening_at
certificate_is name bytes ps h =
    let a = bind_some (opening_at name bytes) _ _ h in
    let o1 = bind_some (strip (codes "{\"condition\":\"") bytes) _ _ a.1 in
    let o2 = bind_some (strip name o1.0) _ _ o1.2 in
    let p = bind_some (pairs_at a.0) _ _ a.2 in
    let c = bind_some (strip (codes "]]") p.0.1) _ _ p.2 in
    let g = given_some _ _ _ c.2 in
    let e = ends_is c.0 g.0 in
    let l = pairs_is a.0 p.0 p.1 in
    let text : bytes ≡ certificate_text name p.0.0 (last e.0) =
    strip_is (codes "{\"condition\":\"") bytes o1.0 o1.1
    ∙ ap (λ y. codes "{\"condition\":\"" ++ y) (strip_is name o1.0 o2.0 o2.1
    ∙ ap (λ y. name ++ y) (strip_is (codes "()#0\"}\n[\"ring\",[") o2.0 a.0 o2.2
    ∙ ap (λ y. codes "()#0\"}\n[\"ring\",[" ++ y) (l.text
    ∙ ap (pairs_text p.0.0) (strip_is (codes "]]") p.0.1 c.0 c.1
    ∙ ap (λ y. codes "]]" ++ y) e.1)))) in
    subst (λ qs. AllByRecursion FitsPair qs × ((b : Bool) × (bytes ≡ certificate_text name qs (last b)))) g.1 (l.fits, (e.0, text))

closing_no_comma : (rest : List ℕ) → no_comma (codes "]]" ++ rest)
unfolding strip
closing_no_comma rest = refl

-- what is spelled so is read
pub certificate_takes : (name : List ℕ) (ps : List Pair) (b : Bool) → AllByRecursion FitsPair ps → certificate_at name (certificate_text name ps (last b)) ≡ Some ps
unfolding certificate_at opening_at
certificate_takes name ps b fits =
    let r3 = codes "]]" ++ last b in
    let r2 = pairs_text ps r3 in
    let r1 = codes "()#0\"}\n[\"ring\",[" ++ r2 in
    ap (λ o. o >>= λ a. pairs_at a >>= λ p. strip (codes "]]") p.1 >>= λ d. value_if (ends d) p.0)
    (takes (codes "{\"condition\":\"") (name ++ r1) _ ∙ takes name r1 _ ∙ strip_takes (codes "()#0\"}\n[\"ring\",[") r2)
    ∙ ap (λ o. o >>= λ p. strip (codes "]]") p.1 >>= λ d. value_if (ends d) p.0) (pairs_takes ps r3 fits (closing_no_comma (last b)) refl)
    ∙ takes (codes "]]") (last b) _
    ∙ ap (λ t. value_if t ps) (last_ends b)
