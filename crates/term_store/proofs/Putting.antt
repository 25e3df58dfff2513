-- A term put for a variable, as a change of the variable's term.
use Rattle.std.proofs.Common.{◌≡◌, ℕ, ◌<◌, List, length, Bool, true, false, not, ◌&&◌, ◌||◌, Option, Some, None, refl, sym, ap, ◌∙◌, if◌then◌else◌}
use Rattle.std.specs.Str.{bytes_eq}
use Rattle.std.proofs.lemmas.Bool.{and_parts}
use Rattle.std.proofs.lemmas.Slice.Eq.{bytes_eq-Decides}
use Rattle.x64_syntax.specs.declared.type_words.Sort.{Sort}
use Rattle.term_core.specs.Operators.{sort_eq}
use Rattle.term_core.specs.Rules.{is_bound}
use Rattle.term_core.specs.Terms.{Tm, Tms, Name, Int, W64, W128, TruthTerm, Un, Bin, Ite, Put, PutDword, Clmul, Shift, Call, All, no_tms, more_tms, tm_eq}
use Rattle.term_core.proofs.Comparing.{sort_eq_is, tm_eq_is, tm_eq_same}
use Rattle.term_subst.specs.Substituted.{Images, or_else, without, with_images, all_with_images}
use Rattle.term_store.specs.declared.node.Node.{Node}
use Rattle.term_store.specs.declared.change.Change.{Change}
use Rattle.term_store.specs.Numbers.{term_at, Grows}
use Rattle.term_store.specs.Changes.{rebuild, rebuild_all, replaced, binds_none, put_for, substitute}
use Rattle.term_store.specs.inner.Changing.{changed}

by_truth : (a b : Bool) → (a ≡ true → b ≡ true) → (b ≡ true → a ≡ true) → a ≡ b
by_truth true true f g = refl
by_truth false false f g = refl
by_truth true false f g = sym (f refl)
by_truth false true f g = g refl

same_turned : (a b : Tm) → tm_eq a b ≡ true → tm_eq b a ≡ true
same_turned a b h = ap (tm_eq b) (tm_eq_is a b h) ∙ tm_eq_same b

tm_eq-turned : (a b : Tm) → tm_eq a b ≡ tm_eq b a
tm_eq-turned a b = by_truth (tm_eq a b) (tm_eq b a) (same_turned a b) (same_turned b a)

same_both : (a b : Bool) (o : Option Tm) → (if a then o else o) ≡ (if b then o else o)
same_both true true o = refl
same_both true false o = refl
same_both false true o = refl
same_both false false o = refl

-- a quantifier hides the variable that it binds, and no other
hidden : (y x : List ℕ) (s : Sort) (u : Tm) (text : List ℕ) (t : Sort) → without y (put_for x s u) text t ≡ (if is_bound y x s then None else put_for x s u text t)
hidden y x s u text t = by (bytes_eq x text && sort_eq s t) refl
  where
    by : (d : Bool) → (bytes_eq x text && sort_eq s t) ≡ d
        → (if is_bound y text t then None else (if d then Some u else None)) ≡ (if is_bound y x s then None else (if d then Some u else None))
    by true e =
        let p = and_parts (bytes_eq x text) (sort_eq s t) e in
        sym (λ d. if is_bound y ((bytes_eq-Decides x text).0 p.0 d) (sort_eq_is s t p.1 d) then None else Some u)
    by false e = same_both (is_bound y text t) (is_bound y x s) None

abbrev no_images : Images
no_images text s = None

same_either : (b : Bool) (o : Option Tm) → (if b then o else o) ≡ o
same_either true o = refl
same_either false o = refl

nothing_hidden : (y : List ℕ) → without y no_images ≡ no_images
nothing_hidden y = λ d text t. same_either (is_bound y text t) None d

mutual
  none-put : (t : Tm) → with_images no_images t ≡ t
  none-put (Name text t) = refl
  none-put (Int z) = refl
  none-put (W64 n) = refl
  none-put (W128 n) = refl
  none-put (TruthTerm b) = refl
  none-put (Un op t) = λ d. Un op (none-put t d)
  none-put (Bin op t v) = λ d. Bin op (none-put t d) (none-put v d)
  none-put (Ite c t v) = λ d. Ite (none-put c d) (none-put t d) (none-put v d)
  none-put (Put a i w) = λ d. Put (none-put a d) (none-put i d) (none-put w d)
  none-put (PutDword a j w) = λ d. PutDword (none-put a d) (none-put j d) (none-put w d)
  none-put (Clmul t v n) = λ d. Clmul (none-put t d) (none-put v d) n
  none-put (Shift op n t) = λ d. Shift op n (none-put t d)
  none-put (Call k t args) = λ d. Call k t (none-put-all args d)
  none-put (All y low high body) = λ d. All y (none-put low d) (none-put high d) ((ap (λ g. with_images g body) (nothing_hidden y) ∙ none-put body) d)

  none-put-all : (ts : Tms) → all_with_images no_images ts ≡ ts
  none-put-all no_tms = refl
  none-put-all (more_tms t ts) = λ d. more_tms (none-put t d) (none-put-all ts d)

under : (f : Images) (r body : Tm) (b : Bool) → r ≡ with_images f body → (if not (b || b) then r else body) ≡ with_images (λ text t. if b then None else f text t) body
under f r body true e = sym (none-put body)
under f r body false e = e

mutual
  pub put-rebuild : (x : List ℕ) (s : Sort) (u : Tm) (t : Tm) → rebuild (replaced (Name x s) u) (binds_none (Name x s) (Name x s)) t ≡ substitute x s u t
  put-rebuild x s u (Name text t) = ap (λ b. or_else (if b then Some u else None) (Name text t)) (tm_eq-turned (Name text t) (Name x s))
  put-rebuild x s u (Int z) = refl
  put-rebuild x s u (W64 n) = refl
  put-rebuild x s u (W128 n) = refl
  put-rebuild x s u (TruthTerm b) = refl
  put-rebuild x s u (Un op t) = λ d. Un op (put-rebuild x s u t d)
  put-rebuild x s u (Bin op t v) = λ d. Bin op (put-rebuild x s u t d) (put-rebuild x s u v d)
  put-rebuild x s u (Ite c t v) = λ d. Ite (put-rebuild x s u c d) (put-rebuild x s u t d) (put-rebuild x s u v d)
  put-rebuild x s u (Put a i w) = λ d. Put (put-rebuild x s u a d) (put-rebuild x s u i d) (put-rebuild x s u w d)
  put-rebuild x s u (PutDword a j w) = λ d. PutDword (put-rebuild x s u a d) (put-rebuild x s u j d) (put-rebuild x s u w d)
  put-rebuild x s u (Clmul t v n) = λ d. Clmul (put-rebuild x s u t d) (put-rebuild x s u v d) n
  put-rebuild x s u (Shift op n t) = λ d. Shift op n (put-rebuild x s u t d)
  put-rebuild x s u (Call k t args) = λ d. Call k t (put-rebuild-all x s u args d)
  put-rebuild x s u (All y low high body) =
      λ d. All y (put-rebuild x s u low d) (put-rebuild x s u high d)
      ((under (put_for x s u) _ body (is_bound y x s) (put-rebuild x s u body) ∙ sym (λ e. with_images (λ text t. hidden y x s u text t e) body)) d)

  put-rebuild-all : (x : List ℕ) (s : Sort) (u : Tm) (ts : Tms) → rebuild_all (replaced (Name x s) u) (binds_none (Name x s) (Name x s)) ts ≡ all_with_images (put_for x s u) ts
  put-rebuild-all x s u no_tms = refl
  put-rebuild-all x s u (more_tms t ts) = λ d. more_tms (put-rebuild x s u t d) (put-rebuild-all x s u ts d)

-- the variable's number made, then the change
pub put-changed : (old mid : List Node) (c : Change) (x : List ℕ) (s : Sort) (by id : ℕ) (t : Tm) → Grows old mid → by < length old → id < length old
    → c.to ≡ by → c.beside ≡ c.from → term_at mid c.from ≡ Name x s → t ≡ changed mid c (term_at mid id) → t ≡ substitute x s (term_at old by) (term_at old id)
put-changed old mid c x s by id t g b i to beside from e =
    e
    ∙ (λ d. rebuild (replaced (from d) ((ap (term_at mid) to ∙ g.kept by b) d)) (binds_none (from d) ((ap (term_at mid) beside ∙ from) d)) (g.kept id i d))
    ∙ put-rebuild x s (term_at old by) (term_at old id)
