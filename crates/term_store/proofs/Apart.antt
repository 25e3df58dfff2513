-- Where no node stands twice, no term has two numbers.
use Rattle.std.proofs.Common.{map, refl, ◌≡◌, ℕ, ◌<◌, ◌≤◌, List, [], ◌∷◌, ◌++◌, length, get_or, suc, zero, false, Some, sym, ap, subst, ◌∙◌, arith, length-append, ⊎_elim, ◌⊎◌, inl, inr, if◌then◌else◌}
use Rattle.std.specs.List.{IsDistinct, list_any, position}
use Rattle.std.proofs.lemmas.List.Quantifiers.{position-Some}
use Rattle.std.proofs.lemmas.Map.Keys.{apart_from_distinct}
use Rattle.std.proofs.lemmas.Bool.{false≢true, cases_order, cases_lt}
use Rattle.std.proofs.Math.ListN.{get_or-append}
use Rattle.std.proofs.Math.Seq.{get_or-append_seam}
use Rattle.term_store.specs.declared.node.Node.{Node}
use Rattle.term_store.specs.declared.node.Node.TheVariants as node
use Rattle.term_store.specs.contracts.node.NodePartialEq.TheImpl.{eq-value as node_eq}
use Rattle.term_core.specs.Terms.{Tm, tms}
use Rattle.term_store.specs.Numbers.{assemble, term_at, PartsBelow, EachBelow}
use Rattle.term_store.specs.inner.Kept.{Numbered}
use Rattle.term_store.proofs.Nodes.{node_is, node_itself}
use Rattle.term_store.proofs.Growing.{term-node, term-seam}

all_injective : (at : ℕ → Tm) (k : ℕ) → ((x y : ℕ) → x < k → y < k → at x ≡ at y → x ≡ y)
    → (xs ys : List ℕ) → EachBelow k xs → EachBelow k ys → tms (map at xs) ≡ tms (map at ys) → xs ≡ ys
all_injective at k inj [] [] h j e = refl
all_injective at k inj (x ∷ xs) (y ∷ ys) h j e =
    let p = inj x y h.0 j.0 (cc) in let q = all_injective at k inj xs ys h.1 j.1 (cc) in cc
all_injective at k inj _ _ h j e = cc

-- nodes of the same term are the same, where equal terms of their parts have one number
pub assemble-injective : (at : ℕ → Tm) (k : ℕ) → ((x y : ℕ) → x < k → y < k → at x ≡ at y → x ≡ y)
    → (m n : Node) → PartsBelow k m → PartsBelow k n → assemble at m ≡ assemble at n → m ≡ n
assemble-injective at k inj (node.Name a s) (node.Name b t) h j e = cc
assemble-injective at k inj (node.Int a) (node.Int b) h j e = cc
assemble-injective at k inj (node.W64 a) (node.W64 b) h j e = cc
assemble-injective at k inj (node.W128 a) (node.W128 b) h j e = cc
assemble-injective at k inj (node.Bool a) (node.Bool b) h j e = cc
assemble-injective at k inj (node.Un o a) (node.Un p c) h j e =
    let x = inj a c h j (cc) in cc
assemble-injective at k inj (node.Bin o a b) (node.Bin p c d) h j e =
    let x = inj a c h.0 j.0 (cc) in let y = inj b d h.1 j.1 (cc) in cc
assemble-injective at k inj (node.Ite a b c) (node.Ite d f g) h j e =
    let x = inj a d h.0 j.0 (cc) in let y = inj b f h.1 j.1 (cc) in let z = inj c g h.2 j.2 (cc) in cc
assemble-injective at k inj (node.Put a b c) (node.Put d f g) h j e =
    let x = inj a d h.0 j.0 (cc) in let y = inj b f h.1 j.1 (cc) in let z = inj c g h.2 j.2 (cc) in cc
assemble-injective at k inj (node.PutDword a b c) (node.PutDword d f g) h j e =
    let x = inj a d h.0 j.0 (cc) in let y = inj b f h.1 j.1 (cc) in let z = inj c g h.2 j.2 (cc) in cc
assemble-injective at k inj (node.Clmul a b m) (node.Clmul c d n) h j e =
    let x = inj a c h.0 j.0 (cc) in let y = inj b d h.1 j.1 (cc) in cc
assemble-injective at k inj (node.Shift o m a) (node.Shift p n c) h j e =
    let x = inj a c h j (cc) in cc
assemble-injective at k inj (node.Call a s b) (node.Call c t d) h j e =
    let x = all_injective at k inj b d h j (cc) in cc
assemble-injective at k inj (node.All t a b c) (node.All u d f g) h j e =
    let x = inj a d h.0 j.0 (cc) in let y = inj b f h.1 j.1 (cc) in let z = inj c g h.2 j.2 (cc) in cc
assemble-injective at k inj _ _ h j e = cc

pub each-wider : (k l : ℕ) (xs : List ℕ) → k ≤ l → EachBelow k xs → EachBelow l xs
each-wider k l [] le h = tt
each-wider k l (x ∷ xs) le h = (omega (arith, h.0), each-wider k l xs le h.1)

pub parts-wider : (k l : ℕ) (n : Node) → k ≤ l → PartsBelow k n → PartsBelow l n
parts-wider k l (node.Name a s) le h = h
parts-wider k l (node.Int a) le h = h
parts-wider k l (node.W64 a) le h = h
parts-wider k l (node.W128 a) le h = h
parts-wider k l (node.Bool a) le h = h
parts-wider k l (node.Un o a) le h = omega (arith, h)
parts-wider k l (node.Bin o a b) le h = (omega (arith, h.0), omega (arith, h.1))
parts-wider k l (node.Ite a b c) le h = (omega (arith, h.0), omega (arith, h.1), omega (arith, h.2))
parts-wider k l (node.Put a b c) le h = (omega (arith, h.0), omega (arith, h.1), omega (arith, h.2))
parts-wider k l (node.PutDword a b c) le h = (omega (arith, h.0), omega (arith, h.1), omega (arith, h.2))
parts-wider k l (node.Clmul a b n) le h = (omega (arith, h.0), omega (arith, h.1))
parts-wider k l (node.Shift o n a) le h = omega (arith, h)
parts-wider k l (node.Call f s xs) le h = each-wider k l xs le h
parts-wider k l (node.All x a b c) le h = (omega (arith, h.0), omega (arith, h.1), omega (arith, h.2))

nodes_apart : (ns : List Node) (i j : ℕ) → IsDistinct node_eq.it ns → i < length ns → j < length ns
    → get_or ns i (node.W64 0) ≡ get_or ns j (node.W64 0) → i ≡ j
nodes_apart ns i j d hi hj e = ⊎_elim (λ h. h) (λ h. ⊎_elim (λ l. absurd (no i j l hj e)) (λ l. absurd (no j i l hi (sym e))) h) (cases_order i j)
  where
    no : (a b : ℕ) → a < b → b < length ns → get_or ns a (node.W64 0) ≡ get_or ns b (node.W64 0) → ⊥
    no a b l hb f = false≢true (sym (apart_from_distinct node_eq.it ns a b (node.W64 0) d l hb) ∙ ap (λ n. node_eq.it (get_or ns a (node.W64 0)) n) (sym f) ∙ node_itself (get_or ns a (node.W64 0)))

pub term-injective : (ns : List Node) → Numbered ns → IsDistinct node_eq.it ns → (k i j : ℕ) → k ≤ length ns → i < k → j < k → term_at ns i ≡ term_at ns j → i ≡ j
term-injective ns w d zero i j l hi hj e = absurd (omega arith)
term-injective ns w d (suc k) i j l hi hj e =
    let il : i < length ns = omega arith in
    let jl : j < length ns = omega arith in
    let kl : k ≤ length ns = omega arith in
    let m = get_or ns i (node.W64 0) in
    let n = get_or ns j (node.W64 0) in
    nodes_apart ns i j d il jl
    (assemble-injective (term_at ns) k (λ x y xk yk. term-injective ns w d k x y kl xk yk) m n
    (parts-wider i k m (omega arith) (w.below i il)) (parts-wider j k n (omega arith) (w.below j jl))
    (sym (term-node ns i w il) ∙ e ∙ term-node ns j w jl))

-- the node that a look-up finds
pub found-term : (ns : List Node) (n : Node) (i : ℕ) → Numbered ns → Some i ≡ position (node_eq.it n) ns → term_at ns i ≡ assemble (term_at ns) n
found-term ns n i w e =
    let p = position-Some (node_eq.it n) ns i (node.W64 0) (sym e) in
    term-node ns i w p.0 ∙ ap (assemble (term_at ns)) (sym (node_is n (get_or ns i (node.W64 0)) p.1))

-- a new node goes last
pub pushed : (ns ms : List Node) (n : Node) → false ≡ list_any (node_eq.it n) ns → ms ≡ (if list_any (node_eq.it n) ns then ns else ns ++ n ∷ []) → ms ≡ ns ++ n ∷ []
pushed ns ms n none e = e ∙ ap (λ b. if b then ns else ns ++ n ∷ []) (sym none)

pub numbered-push : (ns : List Node) (n : Node) → Numbered ns → PartsBelow (length ns) n → Numbered (ns ++ n ∷ [])
numbered-push ns n w h = record { below = λ i l. by i l (cases_lt i (length ns)) }
  where
    by : (i : ℕ) → i < length (ns ++ n ∷ []) → (i < length ns) ⊎ (length ns ≤ i) → PartsBelow i (get_or (ns ++ n ∷ []) i (node.W64 0))
    by i l (inl early) = subst (PartsBelow i) (sym (get_or-append ns (n ∷ []) (node.W64 0) i early)) (w.below i early)
    by i l (inr late) =
        let e : i ≡ length ns = omega (arith, l, late, length-append ns (n ∷ [])) in
        subst (λ k. PartsBelow k (get_or (ns ++ n ∷ []) k (node.W64 0))) (sym e)
        (subst (PartsBelow (length ns)) (sym (get_or-append_seam ns n [] (node.W64 0))) h)

-- what `make` has done: the new node stands last
pub made-term : (ns : List Node) (n : Node) (i : ℕ) → i ≡ length ns → term_at (ns ++ n ∷ []) i ≡ assemble (term_at ns) n
made-term ns n i e = ap (term_at (ns ++ n ∷ [])) e ∙ term-seam ns n []
