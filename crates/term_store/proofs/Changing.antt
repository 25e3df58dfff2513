-- Changes as the store grows.
use Rattle.std.proofs.Common.{◌≡◌, ℕ, ◌<◌, All as Each, List, length, Bool, true, false, Option, Some, None, nat_eq, refl, sym, ap, subst, ◌∙◌, arith, map, take, get_or, suc, zero, [], ◌∷◌, ◌++◌, ◌+◌, if◌then◌else◌}
use Rattle.std.specs.Prelude.{◌==◌}
use Rattle.std.proofs.lemmas.Bool.{false≢true, eqb-true, eq-eqb}
use Rattle.std.proofs.lemmas.List.{map-append, take_more}
use Rattle.indexmap.specs.IndexMap.{IndexMap, get, Updates}
use Rattle.x64_syntax.specs.declared.type_words.Sort.{Sort}
use Rattle.term_core.specs.Terms.{Tm, Tms, tms, Name, Int, W64, W128, TruthTerm, Un, Bin, Ite, Put, PutDword, Clmul, Shift, Call, All, no_tms, more_tms, tm_eq}
use Rattle.term_core.proofs.Comparing.{tm_eq_is, tm_eq_same}
use Rattle.term_subst.specs.Substituted.{or_else}
use Rattle.term_store.specs.declared.node.Node.{Node}
use Rattle.term_store.specs.declared.node.Node.TheVariants as node
use Rattle.term_store.specs.declared.change.Change.{Change}
use Rattle.term_store.specs.Numbers.{assemble, term_at, Grows, EachBelow}
use Rattle.term_store.specs.Changes.{rebuild, rebuild_all, replaced, binds_none}
use Rattle.term_store.specs.inner.Changing.{FitsBelow, changed, over, over_all, Right}

pub rebuild-image : (f : Tm → Option Tm) (names : List ℕ → Bool) (t v : Tm) → f t ≡ Some v → rebuild f names t ≡ v
rebuild-image f names (Name text s) v e = ap (λ o. or_else o (Name text s)) e
rebuild-image f names (Int z) v e = ap (λ o. or_else o (Int z)) e
rebuild-image f names (W64 n) v e = ap (λ o. or_else o (W64 n)) e
rebuild-image f names (W128 n) v e = ap (λ o. or_else o (W128 n)) e
rebuild-image f names (TruthTerm b) v e = ap (λ o. or_else o (TruthTerm b)) e
rebuild-image f names (Un op t) v e = ap (λ o. or_else o (Un op (rebuild f names t))) e
rebuild-image f names (Bin op t u) v e = ap (λ o. or_else o (Bin op (rebuild f names t) (rebuild f names u))) e
rebuild-image f names (Ite c t u) v e = ap (λ o. or_else o (Ite (rebuild f names c) (rebuild f names t) (rebuild f names u))) e
rebuild-image f names (Put x i w) v e = ap (λ o. or_else o (Put (rebuild f names x) (rebuild f names i) (rebuild f names w))) e
rebuild-image f names (PutDword x j w) v e = ap (λ o. or_else o (PutDword (rebuild f names x) (rebuild f names j) (rebuild f names w))) e
rebuild-image f names (Clmul t u n) v e = ap (λ o. or_else o (Clmul (rebuild f names t) (rebuild f names u) n)) e
rebuild-image f names (Shift op n t) v e = ap (λ o. or_else o (Shift op n (rebuild f names t))) e
rebuild-image f names (All x low high body) v e = ap (λ o. or_else o (All x (rebuild f names low) (rebuild f names high) (if names x then rebuild f names body else body))) e
rebuild-image f names (Call k s args) v e = ap (λ o. or_else o (Call k s (rebuild_all f names args))) e

rebuild-all : (f : Tm → Option Tm) (names : List ℕ → Bool) (ts : Tms) → rebuild_all f names ts ≡ over_all (rebuild f names) ts
rebuild-all f names no_tms = refl
rebuild-all f names (more_tms t ts) = λ i. more_tms (rebuild f names t) (rebuild-all f names ts i)

pub rebuild-over : (f : Tm → Option Tm) (names : List ℕ → Bool) (t : Tm) → f t ≡ None → rebuild f names t ≡ over (rebuild f names) names t
rebuild-over f names (Name text s) e = ap (λ o. or_else o (Name text s)) e
rebuild-over f names (Int z) e = ap (λ o. or_else o (Int z)) e
rebuild-over f names (W64 n) e = ap (λ o. or_else o (W64 n)) e
rebuild-over f names (W128 n) e = ap (λ o. or_else o (W128 n)) e
rebuild-over f names (TruthTerm b) e = ap (λ o. or_else o (TruthTerm b)) e
rebuild-over f names (Un op t) e = ap (λ o. or_else o (Un op (rebuild f names t))) e
rebuild-over f names (Bin op t u) e = ap (λ o. or_else o (Bin op (rebuild f names t) (rebuild f names u))) e
rebuild-over f names (Ite c t u) e = ap (λ o. or_else o (Ite (rebuild f names c) (rebuild f names t) (rebuild f names u))) e
rebuild-over f names (Put x i w) e = ap (λ o. or_else o (Put (rebuild f names x) (rebuild f names i) (rebuild f names w))) e
rebuild-over f names (PutDword x j w) e = ap (λ o. or_else o (PutDword (rebuild f names x) (rebuild f names j) (rebuild f names w))) e
rebuild-over f names (Clmul t u n) e = ap (λ o. or_else o (Clmul (rebuild f names t) (rebuild f names u) n)) e
rebuild-over f names (Shift op n t) e = ap (λ o. or_else o (Shift op n (rebuild f names t))) e
rebuild-over f names (All x low high body) e = ap (λ o. or_else o (All x (rebuild f names low) (rebuild f names high) (if names x then rebuild f names body else body))) e
rebuild-over f names (Call k s args) e = ap (λ o. or_else o (Call k s (rebuild_all f names args))) e ∙ ap (Call k s) (rebuild-all f names args)

-- the test of two numbers is the test of their terms
pub eq-by : (m n : ℕ) (t u : Tm) → (t ≡ u → m ≡ n) → (m ≡ n → t ≡ u) → (m == n) ≡ tm_eq t u
eq-by m n t u f g = by (tm_eq t u) refl (m == n) refl
  where
    by : (b : Bool) → tm_eq t u ≡ b → (d : Bool) → (m == n) ≡ d → d ≡ b
    by true h true k = refl
    by false h false k = refl
    by true h false k = absurd (false≢true (sym k ∙ eq-eqb m n (f (tm_eq_is t u h))))
    by false h true k = absurd (false≢true (sym h ∙ ap (tm_eq t) (sym (g (eqb-true m n k))) ∙ tm_eq_same t))

pub fits-grows : (old new : List Node) (c : Change) → Grows old new → FitsBelow (length old) c → FitsBelow (length new) c
fits-grows old new c g h = (omega (arith, g.longer, h.0), omega (arith, g.longer, h.1), omega (arith, g.longer, h.2))

pub changed-grows : (old new : List Node) (c : Change) → Grows old new → FitsBelow (length old) c → changed new c ≡ changed old c
changed-grows old new c g h =
    λ i. rebuild (replaced (g.kept c.from h.0 i) (g.kept c.to h.1 i)) (binds_none (g.kept c.from h.0 i) (g.kept c.beside h.2 i))

-- the memo on a later store
pub right-onward : {S : Type 0} (old new : List Node) (c : Change) (m : IndexMap ℕ ℕ S) → Grows old new → FitsBelow (length old) c → Right old c m → Right new c m
right-onward old new c m g h r = record {
  right = λ k v e.
      let p = r.right k v e in (
        omega (arith, g.longer, p.0),
        omega (arith, g.longer, p.1),
        g.kept v p.1 ∙ p.2 ∙ sym (λ i. changed-grows old new c g h i (g.kept k p.0 i)),
      );
}

some_is : {a b : ℕ} → Some a ≡ Some b → a ≡ b
some_is e = cc

pub right-insert : {S : Type 0} (ns : List Node) (c : Change) (m n : IndexMap ℕ ℕ S) (k v : ℕ) → Updates nat_eq m n k (Some v)
    → k < length ns → v < length ns → term_at ns v ≡ changed ns c (term_at ns k) → Right ns c m → Right ns c n
right-insert ns c m n k v u kl vl e r = record { right = λ q w h. by q w h (nat_eq k q) refl }
  where
    by : (q w : ℕ) → get nat_eq n q ≡ Some w → (b : Bool) → nat_eq k q ≡ b → (q < length ns) × (w < length ns) × (term_at ns w ≡ changed ns c (term_at ns q))
    by q w h true same =
        let at : k ≡ q = eqb-true k q same in
        let is : v ≡ w = some_is (sym u.1 ∙ ap (get nat_eq n) at ∙ h) in
        (subst (λ j. j < length ns) at kl, subst (λ j. j < length ns) is vl, ap (term_at ns) (sym is) ∙ e ∙ ap (λ j. changed ns c (term_at ns j)) at)
    by q w h false apart = r.right q w (sym (u.2 q apart) ∙ h)

over-map : (f : Tm → Tm) (at : ℕ → Tm) (xs : List ℕ) → tms (map (λ i. f (at i)) xs) ≡ over_all f (tms (map at xs))
over-map f at [] = refl
over-map f at (x ∷ xs) = λ i. more_tms (f (at x)) (over-map f at xs i)

-- a call with its arguments changed
pub call-over : (ns : List Node) (f : Tm → Tm) (names : List ℕ → Bool) (g id : ℕ) (n : Node) (ids slice new : List ℕ) {s : Sort} → term_at ns id ≡ assemble (term_at ns) n → n ≡ node.Call g s ids → slice ≡ ids
    → map (term_at ns) new ≡ map (λ i. f (term_at ns i)) slice → Call g s (tms (map (term_at ns) new)) ≡ over f names (term_at ns id)
call-over ns f names g id n ids slice new {s} e k w l =
    let h : ℕ → Tm = λ i. f (term_at ns i) in
    ap (λ xs. Call g s (tms xs)) (l ∙ ap (map h) w) ∙ ap (Call g s) (over-map f (term_at ns) ids) ∙ sym (ap (over f names) (e ∙ ap (assemble (term_at ns)) k))

pub terms-push : (at f : ℕ → Tm) (ids xs ys : List ℕ) (k part : ℕ) → map at xs ≡ map f (take k ids) → k < length ids → at part ≡ f (get_or ids k 0) → ys ≡ xs ++ part ∷ []
    → map at ys ≡ map f (take (k + 1) ids)
terms-push at f ids xs ys k part so_far l e push =
    ap (map at) push
    ∙ map-append at xs (part ∷ [])
    ∙ (λ i. so_far i ++ e i ∷ [])
    ∙ sym (map-append f (take k ids) (get_or ids k 0 ∷ []))
    ∙ ap (map f) (sym (take_more ids k 0 l))

pub all-below : (k l : ℕ) (xs : List ℕ) → EachBelow k xs → k < l → Each (λ i. i < l) xs
all-below k l [] b h j d less = absurd (omega (arith, less))
all-below k l (x ∷ xs) b h zero d less = omega (arith, b.0, h)
all-below k l (x ∷ xs) b h (suc j) d less = all-below k l xs b.1 h j d (omega (arith, less))
