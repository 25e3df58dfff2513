-- The facts of each number are kept as the store grows.
use Rattle.std.proofs.Common.{◌+◌, ◌≡◌, ℕ, ◌<◌, ◌≤◌, List, [], ◌∷◌, ◌++◌, length, take, get_or, sym, ap, subst, ◌∙◌, arith, length-append, length-take, ◌⊎◌, inl, inr, map, suc, zero, drop, drop-cons, max, ◌-◌}
use Rattle.std.proofs.Math.ListN.{get_or-append}
use Rattle.std.proofs.Math.Seq.{get_or-append_seam}
use Rattle.std.proofs.lemmas.Bool.{cases_lt}
use Rattle.std.proofs.lemmas.List.{get_or-take}
use Rattle.term_store.specs.declared.node.Node.{Node}
use Rattle.term_store.specs.declared.facts.Facts.{Facts}
use Rattle.term_store.specs.declared.facts.Extent.{Extent}
use Rattle.term_core.specs.Terms.{Tm, tms, more_tms}
use Rattle.term_subst.specs.Sizes.{at_most_64_bits}
use Rattle.term_store.specs.Numbers.{assemble, term_at, PartsBelow}
use Rattle.term_store.specs.inner.Kept.{Known, Measured, nothing, Filed, Stored}
use Rattle.term_store.proofs.Growing.{term-seam, term-append}
use Rattle.term_store.proofs.Apart.{numbered-push}

pub filed-take : (ns : List Node) (fs : List Facts) → Filed ns fs → Filed ns (take (length ns) fs)
filed-take ns fs h = record {
  enough = omega (arith, h.enough, length-take (length ns) fs);
  known = λ i l. subst (Known (term_at ns i)) (sym (get_or-take (length ns) fs i nothing l)) (h.known i l);
}

pub filed-more : (ns : List Node) (fs : List Facts) (f : Facts) → Filed ns fs → Filed ns (fs ++ f ∷ [])
filed-more ns fs f h = record {
  enough = omega (arith, h.enough, length-append fs (f ∷ []));
  known = λ i l. subst (Known (term_at ns i)) (sym (get_or-append fs (f ∷ []) nothing i (omega (arith, h.enough)))) (h.known i l);
}

pub filed-push : (ns : List Node) (fs : List Facts) (n : Node) (f : Facts) → length fs ≡ length ns → Filed ns fs → Known (assemble (term_at ns) n) f → Filed (ns ++ n ∷ []) (fs ++ f ∷ [])
filed-push ns fs n f len h k = record {
  enough = omega (arith, len, length-append fs (f ∷ []), length-append ns (n ∷ []));
  known = λ i l. by i l (cases_lt i (length ns));
}
  where
    by : (i : ℕ) → i < length (ns ++ n ∷ []) → (i < length ns) ⊎ (length ns ≤ i) → Known (term_at (ns ++ n ∷ []) i) (get_or (fs ++ f ∷ []) i nothing)
    by i l (inl early) =
        let e = term-append ns (n ∷ []) i early in
        let g = get_or-append fs (f ∷ []) nothing i (omega (arith, len)) in
        subst (λ t. Known t (get_or (fs ++ f ∷ []) i nothing)) (sym e) (subst (Known (term_at ns i)) (sym g) (h.known i early))
    by i l (inr late) =
        let e : i ≡ length ns = omega (arith, l, late, length-append ns (n ∷ [])) in
        let g : get_or (fs ++ f ∷ []) i nothing ≡ f = ap (λ j. get_or (fs ++ f ∷ []) j nothing) (e ∙ sym len) ∙ get_or-append_seam fs f [] nothing in
        let t : term_at (ns ++ n ∷ []) i ≡ assemble (term_at ns) n = ap (term_at (ns ++ n ∷ [])) e ∙ term-seam ns n [] in
        subst (λ u. Known u (get_or (fs ++ f ∷ []) i nothing)) (sym t) (subst (Known (assemble (term_at ns) n)) (sym g) k)

-- `make` has stored a new node with its facts
pub stored-push : (ns : List Node) (fs : List Facts) (n : Node) (f : Facts) → length fs ≡ length ns → Stored ns fs → PartsBelow (length ns) n → Known (assemble (term_at ns) n) f → Stored (ns ++ n ∷ []) (fs ++ f ∷ [])
stored-push ns fs n f len h p k = record { numbered = numbered-push ns n h.numbered p; filed = filed-push ns fs n f len h.filed k }

-- the same by the steps of `make`
pub made-stored : (ns ms : List Node) (fs gs hs : List Facts) (n : Node) (f : Facts) → Stored ns fs → PartsBelow (length ns) n
    → gs ≡ take (length ns) fs → hs ≡ gs ++ f ∷ [] → ms ≡ ns ++ n ∷ []
    → ((at : ℕ → Tm) → ((i : ℕ) → i < length gs → Known (at i) (get_or gs i nothing)) → Known (assemble at n) f)
    → Stored ms hs
made-stored ns ms fs gs hs n f w p cut push last facts =
    let filed : Filed ns gs = subst (Filed ns) (sym cut) (filed-take ns fs w.filed) in
    let len : length gs ≡ length ns = omega (arith, ap length cut, length-take (length ns) fs, w.filed.enough) in
    let k = facts (term_at ns) (λ i l. filed.known i (omega (arith, len))) in
    let whole = stored-push ns gs n f len (record { numbered = w.numbered; filed = filed }) p k in
    subst (λ l. Stored l hs) (sym last) (subst (Stored (ns ++ n ∷ [])) (sym push) whole)

pub measured-step : (at : ℕ → Tm) (ids : List ℕ) (k : ℕ) (f : Facts) (all r : Extent) → 0 < k → k ≤ length ids → Known (at (get_or ids (k - 1) 0)) f → Measured (tms (map at (drop k ids))) all
    → r.size ≡ at_most_64_bits (f.extent.size + all.size) → r.depth ≡ max f.extent.depth all.depth → Measured (tms (map at (drop (k - 1) ids))) r
measured-step at ids zero f all r p l kf ka s d = absurd (omega arith)
measured-step at ids (suc k) f all r p l kf ka s d =
    let less : suc k - 1 ≡ k = omega arith in
    let e : drop k ids ≡ get_or ids k 0 ∷ drop (suc k) ids = drop-cons ids k 0 (omega (arith, l)) in
    let kf2 : Known (at (get_or ids k 0)) f = subst (λ j. Known (at (get_or ids j 0)) f) less kf in
    let whole : Measured (more_tms (at (get_or ids k 0)) (tms (map at (drop (suc k) ids)))) r = record {
      size = omega (arith, s, kf2.size, ka.size);
      depth = omega (arith, d, kf2.depth, ka.depth);
    } in
    subst (λ j. Measured (tms (map at (drop j ids))) r) (sym less) (subst (λ xs. Measured (tms (map at xs)) r) (sym e) whole)
