-- Lists of numbers as the store grows.
use Rattle.std.proofs.Common.{◌≡◌, ℕ, ◌+◌, ◌<◌, ◌≤◌, List, [], ◌∷◌, ◌++◌, length, map, take, get_or, refl, sym, ap, subst, ◌∙◌}
use Rattle.std.proofs.lemmas.List.{map-append, take_more}
use Rattle.term_core.specs.Terms.{Tm}
use Rattle.term_store.specs.declared.node.Node.{Node}
use Rattle.term_store.specs.Numbers.{term_at, EachBelow, Grows}
use Rattle.term_store.proofs.Apart.{each-wider}

each-grows : (old new : List Node) (xs : List ℕ) → Grows old new → EachBelow (length old) xs → map (term_at new) xs ≡ map (term_at old) xs
each-grows old new [] g h = refl
each-grows old new (x ∷ xs) g h = λ i. g.kept x h.0 i ∷ each-grows old new xs g h.1 i

each-push : (k : ℕ) (xs : List ℕ) (x : ℕ) → EachBelow k xs → x < k → EachBelow k (xs ++ x ∷ [])
each-push k [] x h l = (l, tt)
each-push k (y ∷ ys) x h l = (h.0, each-push k ys x h.1 l)

pub each-next : (j k : ℕ) (xs ys : List ℕ) (x : ℕ) → j ≤ k → EachBelow j xs → x < k → ys ≡ xs ++ x ∷ [] → EachBelow k ys
each-next j k xs ys x le h l e = subst (EachBelow k) (sym e) (each-push k xs x (each-wider j k xs le h) l)

-- one more number of a list, over a store that has grown
pub list-next : {X : Type 0} (s1 s2 : List Node) (g : X → Tm) (all : List X) (xs ys : List ℕ) (k part : ℕ) (x : X) → Grows s1 s2 → EachBelow (length s1) xs
    → map (term_at s1) xs ≡ map g (take k all) → k < length all → x ≡ get_or all k x → term_at s2 part ≡ g x → ys ≡ xs ++ part ∷ []
    → map (term_at s2) ys ≡ map g (take (k + 1) all)
list-next s1 s2 g all xs ys k part x h below so_far l is e push =
    ap (map (term_at s2)) push
    ∙ map-append (term_at s2) xs (part ∷ [])
    ∙ (λ i. (each-grows s1 s2 xs h below ∙ so_far) i ++ (e ∙ ap g is) i ∷ [])
    ∙ sym (map-append g (take k all) (get_or all k x ∷ []))
    ∙ ap (map g) (sym (take_more all k x l))
