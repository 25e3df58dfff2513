-- A text has one fault at most.
use Rattle.std.proofs.Common.{◌≡◌, ℕ, ◌+◌, ◌≤◌, Bool, true, false, List, [], ◌∷◌, ◌++◌, take, refl, sym, ap, ◌∙◌, arith, ◌⊎◌, inl, inr}
use Rattle.std.specs.Prelude.{codes, ◌==◌, if◌then◌else◌}
use Rattle.std.proofs.lemmas.List.{append_assoc}
use Rattle.std.proofs.lemmas.Option.{same_Some}
use Rattle.x64_syntax.specs.Programs.{stray_jump}
use Rattle.x64_syntax.proofs.Lists.{same_head, same_tail}
use Rattle.gas_text.specs.declared.fault.AsmFault.{AsmFault}
use Rattle.gas_text.specs.declared.fault.AsmFault.TheVariants.{Line, Label, NoMemory}
use Rattle.gas_text.specs.Gas.{gas_text}
use Rattle.gas_text.specs.Text.{newlines, Begins, BadLine, bad, early, Strays, Refused}
use Rattle.gas_text.proofs.Once.{once, no_bad_line}

-- where two texts begin a third
data Fronts (p q : List ℕ) : Type 0 where
  within : (x : List ℕ) → q ≡ p ++ x → Fronts p q
  beyond : (b : ℕ) (y : List ℕ) → p ≡ q ++ b ∷ y → Fronts p q

fronts : (p r q s : List ℕ) → p ++ r ≡ q ++ s → Fronts p q
fronts [] r q s e = within q refl
fronts (x ∷ p) r [] s e = beyond x p refl
fronts (x ∷ p) r (y ∷ q) s e = longer (fronts p r q s (same_tail e))
  where
    longer : Fronts p q → Fronts (x ∷ p) (y ∷ q)
    longer (within z is) = within z (ap (λ b. b ∷ q) (sym (same_head e)) ∙ ap (λ l. x ∷ l) is)
    longer (beyond b z is) = beyond b z (ap (λ l. x ∷ l) is ∙ ap (λ c. c ∷ (q ++ b ∷ z)) (same_head e))

newlines_joined : (xs ys : List ℕ) → newlines (xs ++ ys) ≡ newlines xs + newlines ys
newlines_joined [] ys = omega arith
newlines_joined (x ∷ xs) ys = by (newlines_joined xs ys) (x == 10) where
  by : newlines (xs ++ ys) ≡ newlines xs + newlines ys → (b : Bool) → (if b then 1 + newlines (xs ++ ys) else newlines (xs ++ ys)) ≡ (if b then 1 + newlines xs else newlines xs) + newlines ys
  by h true = omega (arith, h)
  by h false = h

-- a text that ends with a newline has one in each of its ends
ends_in_newline : (xs ys : List ℕ) (b : ℕ) (zs : List ℕ) → xs ++ 10 ∷ [] ≡ ys ++ b ∷ zs → 1 ≤ newlines (b ∷ zs)
ends_in_newline xs [] b zs e =
    let n : newlines (xs ++ 10 ∷ []) ≡ newlines xs + 1 = newlines_joined xs (10 ∷ []) in
    let same : newlines (xs ++ 10 ∷ []) ≡ newlines (b ∷ zs) = ap newlines e in
    omega (arith, n, same)
ends_in_newline [] (y ∷ []) b zs e = absurd cc
ends_in_newline [] (y ∷ (w ∷ ys)) b zs e = absurd cc
ends_in_newline (x ∷ xs) (y ∷ ys) b zs e = ends_in_newline xs ys b zs (same_tail e)

begins_front : (a b : List ℕ) → Begins (a ++ b) → Begins a
begins_front a b h = record { items = h.items; rest = b ++ h.rest; ordered = h.ordered; is = h.is ∙ append_assoc a b h.rest }

module _ (text front line rest : List ℕ) (is : text ≡ front ++ (line ++ (codes "\n" ++ rest))) (clean : newlines line ≡ 0) (no_more : Begins (front ++ (line ++ codes "\n")) → ⊥) where
  -- what begins the text of items ends before the bad line does
  no_later : (other tail : List ℕ) → text ≡ other ++ tail → Begins other → newlines other ≤ newlines front
  no_later other tail at begun = by (fronts (front ++ (line ++ codes "\n")) rest other tail (whole ∙ at))
    where
      whole : (front ++ (line ++ codes "\n")) ++ rest ≡ text
      whole = append_assoc front (line ++ codes "\n") rest ∙ ap (λ t. front ++ t) (append_assoc line (codes "\n") rest) ∙ sym is

      by : Fronts (front ++ (line ++ codes "\n")) other → newlines other ≤ newlines front
      by (within x e) = absurd (no_more (begins_front _ x (subst_begins e begun)))
        where
          subst_begins : {p q : List ℕ} → p ≡ q → Begins p → Begins q
          subst_begins f h = record { items = h.items; rest = h.rest; ordered = h.ordered; is = h.is ∙ ap (λ t. t ++ h.rest) f }
      by (beyond b y e) =
          let some_ = ends_in_newline (front ++ line) other b y (append_assoc front line (codes "\n") ∙ e) in
          let left = newlines_joined front (line ++ codes "\n") in
          let middle : newlines (line ++ codes "\n") ≡ newlines line + 1 = newlines_joined line (codes "\n") in
          let right = newlines_joined other (b ∷ y) in
          let same : newlines (front ++ (line ++ codes "\n")) ≡ newlines (other ++ b ∷ y) = ap newlines e in
          omega (arith, some_, left, middle, right, same, clean)

  -- the text has a newline more than its front
  more_newlines : newlines front + 1 ≤ newlines text
  more_newlines =
      let whole : newlines text ≡ newlines (front ++ (line ++ (codes "\n" ++ rest))) = ap newlines is in
      let a = newlines_joined front (line ++ (codes "\n" ++ rest)) in
      let b = newlines_joined line (codes "\n" ++ rest) in
      let c : newlines (codes "\n" ++ rest) ≡ 1 + newlines rest = refl in
      omega (arith, whole, a, b, c)

all_newlines : (text front tail : List ℕ) → text ≡ front ++ tail → newlines tail ≡ 0 → newlines text ≡ newlines front
all_newlines text front tail is clean =
    let whole : newlines text ≡ newlines (front ++ tail) = ap newlines is in
    let a = newlines_joined front tail in
    omega (arith, whole, a, clean)

one_line : (text : List ℕ) (m n : ℕ) → BadLine text m → BadLine text n → m ≡ n
one_line text m n (bad f l r is clean begun none at) (bad f' l' r' is' clean' begun' none' at') =
    let le = no_later text f l r is clean none f' (l' ++ (codes "\n" ++ r')) is' begun' in
    let ge = no_later text f' l' r' is' clean' none' f (l ++ (codes "\n" ++ r)) is begun in
    omega (arith, le, ge, at, at')
one_line text m n (bad f l r is clean begun none at) (early f' t' is' clean' begun' none' at') =
    let le = no_later text f l r is clean none f' t' is' begun' in
    let more = more_newlines text f l r is clean none in
    let all = all_newlines text f' t' is' clean' in
    absurd (omega (arith, le, more, all))
one_line text m n (early f t is clean begun none at) (bad f' l' r' is' clean' begun' none' at') =
    let le = no_later text f' l' r' is' clean' none' f t is begun in
    let more = more_newlines text f' l' r' is' clean' none' in
    let all = all_newlines text f t is clean in
    absurd (omega (arith, le, more, all))
one_line text m n (early f t is clean begun none at) (early f' t' is' clean' begun' none' at') =
    let a = all_newlines text f t is clean in
    let b = all_newlines text f' t' is' clean' in
    omega (arith, a, b, at, at')

one_stray : (text : List ℕ) (m n : ℕ) → Strays text m → Strays text n → m ≡ n
one_stray text m n s t =
    let same = once s.items t.items s.ordered t.ordered (s.is ∙ sym t.is) in
    let place = same_Some _ _ (sym s.stray ∙ ap stray_jump same ∙ t.stray) in
    s.line ∙ ap (λ is. newlines (gas_text (take s.place is)) + 1) same ∙ ap (λ k. newlines (gas_text (take k t.items)) + 1) place ∙ sym t.line

no_both : (text : List ℕ) (m n : ℕ) → BadLine text m → Strays text n → ⊥
no_both text m n b s = no_bad_line s.items m s.ordered (at (sym s.is) b) where
  at : {t : List ℕ} → text ≡ t → BadLine text m → BadLine t m
  at e (bad f l r is clean begun none line) = bad f l r (sym e ∙ is) clean begun none line
  at e (early f t is clean begun none line) = early f t (sym e ∙ is) clean begun (λ items o i. none items o (i ∙ sym e)) line

pub one_fault : (text : List ℕ) (f g : AsmFault) → Refused text f → Refused text g → (f ≡ g) ⊎ ((f ≡ NoMemory) ⊎ (g ≡ NoMemory))
one_fault text NoMemory g h k = inr (inl refl)
one_fault text (Line m) NoMemory h k = inr (inr refl)
one_fault text (Label m) NoMemory h k = inr (inr refl)
one_fault text (Line m) (Line n) h k = inl (ap Line (one_line text m n h k))
one_fault text (Line m) (Label n) h k = absurd (no_both text m n h k)
one_fault text (Label m) (Line n) h k = absurd (no_both text n m k h)
one_fault text (Label m) (Label n) h k = inl (ap Label (one_stray text m n h k))
