-- Where a variable is free, by the parts of a node.
use Rattle.std.proofs.Common.{◌≡◌, ℕ, ◌<◌, All, List, [], ◌∷◌, length, map, suc, zero, Bool, true, false, not, ◌&&◌, ◌||◌, nat_eq, refl, sym, ap, ◌∙◌, arith, if◌then◌else◌}
use Rattle.std.specs.List.{list_any, list_all}
use Rattle.std.proofs.lemmas.Bool.{and_parts, eqb-true}
use Rattle.indexmap.specs.IndexSet.{IndexSet, contains, Updates}
use Rattle.x64_syntax.specs.declared.type_words.Sort.{Sort}
use Rattle.term_core.specs.Rules.{is_bound}
use Rattle.term_core.specs.Terms.{Tm, tms}
use Rattle.term_store.specs.declared.node.Node.{Node}
use Rattle.term_store.specs.declared.node.Node.TheVariants as node
use Rattle.term_store.specs.Numbers.{assemble, term_at, EachBelow, PartsBelow}
use Rattle.term_store.specs.Free.{is_free, is_free_among}
use Rattle.term_store.specs.inner.Walks.{is_variable, open_parts, Clean, Leads}

or_none : (b : Bool) → b ≡ (b || false)
or_none true = refl
or_none false = refl

any_two : (a b : Bool) → (a || b) ≡ (a || (b || false))
any_two a b = ap (λ c. a || c) (or_none b)

any_three : (a b c : Bool) → (a || (b || c)) ≡ (a || (b || (c || false)))
any_three a b c = ap (λ d. a || d) (any_two b c)

among : (x : List ℕ) (s : Sort) (at : ℕ → Tm) (ids : List ℕ) → is_free_among x s (tms (map at ids)) ≡ list_any (λ i. is_free x s (at i)) ids
among x s at [] = refl
among x s at (i ∷ ids) = ap (λ b. is_free x s (at i) || b) (among x s at ids)

below_quantifier : (x : List ℕ) (s : Sort) (at : ℕ → Tm) (low high body : ℕ) (b : Bool)
    → (is_free x s (at low) || (is_free x s (at high) || (not b && is_free x s (at body)))) ≡ list_any (λ i. is_free x s (at i)) (if b then low ∷ high ∷ [] else low ∷ high ∷ body ∷ [])
below_quantifier x s at low high body true = refl
below_quantifier x s at low high body false = any_three (is_free x s (at low)) (is_free x s (at high)) (is_free x s (at body))

pub free-parts : (x : List ℕ) (s : Sort) (at : ℕ → Tm) (n : Node) → is_free x s (assemble at n) ≡ (is_variable x s n || list_any (λ i. is_free x s (at i)) (open_parts x s n))
free-parts x s at (node.Name text t) = or_none _
free-parts x s at (node.Int z) = refl
free-parts x s at (node.W64 w) = refl
free-parts x s at (node.W128 w) = refl
free-parts x s at (node.Bool b) = refl
free-parts x s at (node.Un o a) = or_none _
free-parts x s at (node.Bin o a b) = any_two (is_free x s (at a)) (is_free x s (at b))
free-parts x s at (node.Ite a b c) = any_three (is_free x s (at a)) (is_free x s (at b)) (is_free x s (at c))
free-parts x s at (node.Put a b c) = any_three (is_free x s (at a)) (is_free x s (at b)) (is_free x s (at c))
free-parts x s at (node.PutDword a b c) = any_three (is_free x s (at a)) (is_free x s (at b)) (is_free x s (at c))
free-parts x s at (node.Clmul a b n) = any_two (is_free x s (at a)) (is_free x s (at b))
free-parts x s at (node.Shift o n a) = or_none _
free-parts x s at (node.Call f t args) = among x s at args
free-parts x s at (node.All text low high body) = below_quantifier x s at low high body (is_bound text x s)

pub or_left : (a b : Bool) → a ≡ true → (a || b) ≡ true
or_left a b h = ap (λ c. c || b) h

pub or_right : (a b : Bool) → b ≡ true → (a || b) ≡ true
or_right true b h = refl
or_right false b h = h

pub parts-clean : {S : Type 0} (ns : List Node) (x : List ℕ) (s : Sort) (seen : IndexSet ℕ S) (ids : List ℕ) → Clean ns x s seen
    → list_all (λ i. contains nat_eq seen i) ids ≡ true → list_any (λ i. is_free x s (term_at ns i)) ids ≡ false
parts-clean ns x s seen [] c h = refl
parts-clean ns x s seen (k ∷ ids) c h =
    let p = and_parts (contains nat_eq seen k) (list_all (λ i. contains nat_eq seen i) ids) h in
    λ i. c.clean k p.0 i || parts-clean ns x s seen ids c p.1 i

pub clean-here : (ns : List Node) (x : List ℕ) (s : Sort) (k : ℕ) (n : Node) → term_at ns k ≡ assemble (term_at ns) n → is_variable x s n ≡ false
    → list_any (λ i. is_free x s (term_at ns i)) (open_parts x s n) ≡ false → is_free x s (term_at ns k) ≡ false
clean-here ns x s k n e v h = ap (is_free x s) e ∙ free-parts x s (term_at ns) n ∙ (λ i. v i || h i)

pub found-here : (ns : List Node) (x : List ℕ) (s : Sort) (k : ℕ) (n : Node) → term_at ns k ≡ assemble (term_at ns) n → is_variable x s n ≡ true → is_free x s (term_at ns k) ≡ true
found-here ns x s k n e v = ap (is_free x s) e ∙ free-parts x s (term_at ns) n ∙ or_left _ _ v

pub clean-insert : {S : Type 0} (ns : List Node) (x : List ℕ) (s : Sort) (old new : IndexSet ℕ S) (k : ℕ) → Updates nat_eq old new k true
    → Clean ns x s old → is_free x s (term_at ns k) ≡ false → Clean ns x s new
clean-insert ns x s old new k u c h = record { clean = λ q e. by q e (nat_eq k q) refl }
  where
    by : (q : ℕ) → contains nat_eq new q ≡ true → (b : Bool) → nat_eq k q ≡ b → is_free x s (term_at ns q) ≡ false
    by q e true same = ap (λ j. is_free x s (term_at ns j)) (sym (eqb-true k q same)) ∙ h
    by q e false apart = c.clean q (sym (u.2 q apart) ∙ e)

leads_list : (ns : List Node) (x : List ℕ) (s : Sort) (root k : ℕ) (ids : List ℕ) → k < length ns → EachBelow k ids
    → (list_any (λ i. is_free x s (term_at ns i)) ids ≡ true → is_free x s (term_at ns root) ≡ true) → All (Leads ns x s root) ids
leads_list ns x s root k [] l b f j d h = absurd (omega (arith, h))
leads_list ns x s root k (i ∷ ids) l b f zero d h =
    record { within = omega (arith, l, b.0); leads = λ g. f (or_left (is_free x s (term_at ns i)) _ g) }
leads_list ns x s root k (i ∷ ids) l b f (suc j) d h =
    leads_list ns x s root k ids l b.1 (λ g. f (or_right (is_free x s (term_at ns i)) _ g)) j d (omega (arith, h))

open_below : (x : List ℕ) (s : Sort) (k : ℕ) (n : Node) → PartsBelow k n → EachBelow k (open_parts x s n)
open_below x s k (node.Name text t) h = tt
open_below x s k (node.Int z) h = tt
open_below x s k (node.W64 w) h = tt
open_below x s k (node.W128 w) h = tt
open_below x s k (node.Bool b) h = tt
open_below x s k (node.Un o a) h = (h, tt)
open_below x s k (node.Bin o a b) h = (h.0, (h.1, tt))
open_below x s k (node.Ite a b c) h = (h.0, (h.1, (h.2, tt)))
open_below x s k (node.Put a b c) h = (h.0, (h.1, (h.2, tt)))
open_below x s k (node.PutDword a b c) h = (h.0, (h.1, (h.2, tt)))
open_below x s k (node.Clmul a b n) h = (h.0, (h.1, tt))
open_below x s k (node.Shift o n a) h = (h, tt)
open_below x s k (node.Call f t args) h = h
open_below x s k (node.All text low high body) h = by (is_bound text x s)
  where
    by : (b : Bool) → EachBelow k (if b then low ∷ high ∷ [] else low ∷ high ∷ body ∷ [])
    by true = (h.0, (h.1, tt))
    by false = (h.0, (h.1, (h.2, tt)))

pub leads-parts : (ns : List Node) (x : List ℕ) (s : Sort) (root k : ℕ) (n : Node) → Leads ns x s root k → PartsBelow k n → term_at ns k ≡ assemble (term_at ns) n
    → All (Leads ns x s root) (open_parts x s n)
leads-parts ns x s root k n l b e =
    leads_list ns x s root k (open_parts x s n) l.within (open_below x s k n b)
    (λ h. l.leads (ap (is_free x s) e ∙ free-parts x s (term_at ns) n ∙ or_right (is_variable x s n) _ h))
