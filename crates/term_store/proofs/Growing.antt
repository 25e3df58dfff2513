-- What numbers stand for stays as the store grows.
use Rattle.std.proofs.Common.{◌≡◌, ℕ, ◌+◌, ◌<◌, List, [], ◌∷◌, ◌++◌, length, map, take, drop, get_or, suc, refl, sym, ap, ◌∙◌, arith, length-append, length-take, drop-cons, zero}
use Rattle.std.proofs.Math.ListN.{get_or-append}
use Rattle.std.proofs.Math.Seq.{get_or-append_seam}
use Rattle.std.proofs.lemmas.List.{take-append-drop, get_or_default}
use Rattle.term_store.specs.declared.node.Node.{Node}
use Rattle.term_store.specs.declared.node.Node.TheVariants as node
use Rattle.term_core.specs.Terms.{Tm, tms, W64, Un, Bin, Ite, Put, PutDword, Clmul, Shift, Call, All}
use Rattle.term_store.specs.Numbers.{assemble, term_of, terms_behind, term_at, PartsBelow, EachBelow, Grows}
use Rattle.term_store.specs.inner.Kept.{Numbered}

pub length-terms_behind : (ts : List Tm) (ns : List Node) → length (terms_behind ts ns) ≡ length ts + length ns
unfolding terms_behind
length-terms_behind ts [] = omega arith
length-terms_behind ts (n ∷ ns) = omega (arith, length-terms_behind (ts ++ assemble (term_of ts) n ∷ []) ns, length-append ts (assemble (term_of ts) n ∷ []))

pub terms_behind-append : (ts : List Tm) (as_ bs : List Node) → terms_behind ts (as_ ++ bs) ≡ terms_behind (terms_behind ts as_) bs
unfolding terms_behind
terms_behind-append ts [] bs = refl
terms_behind-append ts (n ∷ ns) bs = terms_behind-append (ts ++ assemble (term_of ts) n ∷ []) ns bs

-- the terms so far stay
pub of-terms_behind : (ts : List Tm) (ns : List Node) (i : ℕ) → i < length ts → term_of (terms_behind ts ns) i ≡ term_of ts i
unfolding terms_behind term_of
of-terms_behind ts [] i h = refl
of-terms_behind ts (n ∷ ns) i h =
    let t = assemble (term_of ts) n in
    of-terms_behind (ts ++ t ∷ []) ns i (omega (arith, length-append ts (t ∷ []))) ∙ get_or-append ts (t ∷ []) (W64 0) i h

pub term-append : (ns more : List Node) (i : ℕ) → i < length ns → term_at (ns ++ more) i ≡ term_at ns i
unfolding term_at
term-append ns more i h =
    ap (λ ts. term_of ts i) (terms_behind-append [] ns more) ∙ of-terms_behind (terms_behind [] ns) more i (omega (arith, length-terms_behind [] ns))

pub grows-same : (ns : List Node) → Grows ns ns
grows-same ns = record { longer = omega arith; kept = λ i h. refl }

pub grows-push : (ns : List Node) (n : Node) → Grows ns (ns ++ n ∷ [])
grows-push ns n = record { longer = omega (arith, length-append ns (n ∷ [])); kept = term-append ns (n ∷ []) }

pub grows-on : (a b c : List Node) → Grows a b → Grows b c → Grows a c
grows-on a b c g h = record {
  longer = omega (arith, g.longer, h.longer);
  kept = λ i l. h.kept i (omega (arith, g.longer)) ∙ g.kept i l;
}

map-agree : (f g : ℕ → Tm) (k : ℕ) (xs : List ℕ) → EachBelow k xs → ((x : ℕ) → x < k → f x ≡ g x) → map f xs ≡ map g xs
map-agree f g k [] h e = refl
map-agree f g k (x ∷ xs) h e = λ i. e x h.0 i ∷ map-agree f g k xs h.1 e i

-- a node's term needs only the terms of its parts
pub assemble-agree : (f g : ℕ → Tm) (k : ℕ) (n : Node) → PartsBelow k n → ((x : ℕ) → x < k → f x ≡ g x) → assemble f n ≡ assemble g n
assemble-agree f g k (node.Name text s) h e = refl
assemble-agree f g k (node.Int z) h e = refl
assemble-agree f g k (node.W64 w) h e = refl
assemble-agree f g k (node.W128 w) h e = refl
assemble-agree f g k (node.Bool b) h e = refl
assemble-agree f g k (node.Un o a) h e = λ i. Un o (e a h i)
assemble-agree f g k (node.Bin o a b) h e = λ i. Bin o (e a h.0 i) (e b h.1 i)
assemble-agree f g k (node.Ite a b c) h e = λ i. Ite (e a h.0 i) (e b h.1 i) (e c h.2 i)
assemble-agree f g k (node.Put a b c) h e = λ i. Put (e a h.0 i) (e b h.1 i) (e c h.2 i)
assemble-agree f g k (node.PutDword a b c) h e = λ i. PutDword (e a h.0 i) (e b h.1 i) (e c h.2 i)
assemble-agree f g k (node.Clmul a b n) h e = λ i. Clmul (e a h.0 i) (e b h.1 i) n
assemble-agree f g k (node.Shift o n a) h e = λ i. Shift o n (e a h i)
assemble-agree f g k (node.Call c s xs) h e = λ i. Call c s (tms (map-agree f g k xs h e i))
assemble-agree f g k (node.All x a b c) h e = λ i. All x (e a h.0 i) (e b h.1 i) (e c h.2 i)

-- the term of the node behind the first ones
pub term-seam : (pre : List Node) (n : Node) (rest : List Node) → term_at (pre ++ n ∷ rest) (length pre) ≡ assemble (term_at pre) n
unfolding term_at term_of terms_behind
term-seam pre n rest =
    let ts : List Tm = terms_behind [] pre in
    let t : Tm = assemble (term_of ts) n in
    let len : length ts ≡ length pre = omega (arith, length-terms_behind [] pre) in
    ap (λ us. term_of us (length pre)) (terms_behind-append [] pre (n ∷ rest))
    ∙ of-terms_behind (ts ++ t ∷ []) rest (length pre) (omega (arith, length-append ts (t ∷ [])))
    ∙ ap (λ k. get_or (ts ++ t ∷ []) k (W64 0)) (sym len)
    ∙ get_or-append_seam ts t [] (W64 0)

-- the term of a number is that of its node
pub term-node : (ns : List Node) (i : ℕ) → Numbered ns → i < length ns → term_at ns i ≡ assemble (term_at ns) (get_or ns i (node.W64 0))
term-node ns i w h = at_it ∙ assemble-agree (term_at (take i ns)) (term_at ns) i (get_or ns i (node.W64 0)) (w.below i h) (λ x l. sym (early x l))
  where
    len : length (take i ns) ≡ i
    len = omega (arith, length-take i ns)

    whole : ns ≡ take i ns ++ get_or ns i (node.W64 0) ∷ drop (suc i) ns
    whole = sym (take-append-drop i ns) ∙ ap (λ l. take i ns ++ l) (drop-cons ns i (node.W64 0) h)

    early : (x : ℕ) → x < i → term_at ns x ≡ term_at (take i ns) x
    early x l = ap (λ ms. term_at ms x) whole ∙ term-append (take i ns) (get_or ns i (node.W64 0) ∷ drop (suc i) ns) x (omega (arith, len))

    at_it : term_at ns i ≡ assemble (term_at (take i ns)) (get_or ns i (node.W64 0))
    at_it = ap (λ ms. term_at ms i) whole ∙ ap (λ k. term_at (take i ns ++ get_or ns i (node.W64 0) ∷ drop (suc i) ns) k) (sym len) ∙ term-seam (take i ns) (get_or ns i (node.W64 0)) (drop (suc i) ns)

pub node-at : (ns ms : List Node) (i : ℕ) (n : Node) → Numbered ns → i < length ns → ms ≡ ns → n ≡ get_or ms i n → term_at ns i ≡ assemble (term_at ns) n
node-at ns ms i n w h same e =
    term-node ns i w h ∙ ap (assemble (term_at ns)) (get_or_default ns i (node.W64 0) n h ∙ ap (λ l. get_or l i n) (sym same) ∙ sym e)

pub each-at : (k : ℕ) (xs : List ℕ) (i : ℕ) → EachBelow k xs → i < length xs → get_or xs i 0 < k
each-at k [] i h l = absurd (omega arith)
each-at k (x ∷ xs) zero h l = h.0
each-at k (x ∷ xs) (suc i) h l = each-at k xs i h.1 (omega (arith, l))
