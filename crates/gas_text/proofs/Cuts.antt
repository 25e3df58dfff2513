-- Where a text is cut.
use Rattle.std.proofs.Common.{◌≡◌, ℕ, zero, suc, ◌<◌, Bool, true, false, List, [], ◌∷◌, ◌++◌, refl, sym, ap, ◌∙◌, arith, length, take, drop, Option, None, Some, ◌⊎◌, inl, inr}
use Rattle.std.specs.Prelude.{◌==◌, ◌&&◌, ◌||◌, not, slice_index, option_map, if◌then◌else◌}
use Rattle.std.specs.List.{list_all}
use Rattle.std.proofs.lemmas.List.{append-nil}
use Rattle.std.proofs.lemmas.Bool.{and_parts, and_from, eqb-true, eq-eqb, false≢true, not-true, false_from_ne_true}
use Rattle.x64_syntax.specs.Words.{is_name_byte}
use Rattle.gas_text.specs.inner.Apart.{sides_of, before_comma, front_of}

pub cut_nowhere : (b : ℕ) (xs : List ℕ) → ((k : ℕ) → k < length xs → (slice_index xs k == b) ≡ true → ⊥) → sides_of b xs ≡ None
cut_nowhere b [] no_ = refl
cut_nowhere b (x ∷ xs) no_ =
    let other = false_from_ne_true (x == b) (no_ 0 (omega arith)) in
    ap (λ (t : Bool). if t then Some ([], xs) else option_map (λ p. (x ∷ p.0, p.1)) (sides_of b xs)) other
    ∙ ap (λ o. option_map (λ p. (x ∷ p.0, p.1)) o) (cut_nowhere b xs (λ k lt. no_ (suc k) (omega (arith, lt))))

pub cut_first : (b : ℕ) (xs : List ℕ) (k : ℕ) → k < length xs → ((j : ℕ) → j < k → (slice_index xs j == b) ≡ true → ⊥) → (slice_index xs k == b) ≡ true → sides_of b xs ≡ Some (take k xs, drop 1 (drop k xs))
cut_first b [] k lt before at = absurd (omega (arith, lt))
cut_first b (x ∷ xs) zero lt before at = ap (λ (t : Bool). if t then Some ([], xs) else option_map (λ p. (x ∷ p.0, p.1)) (sides_of b xs)) at
cut_first b (x ∷ xs) (suc k) lt before at =
    let other = false_from_ne_true (x == b) (before 0 (omega arith)) in
    ap (λ (t : Bool). if t then Some ([], xs) else option_map (λ p. (x ∷ p.0, p.1)) (sides_of b xs)) other
    ∙ ap (λ o. option_map (λ p. (x ∷ p.0, p.1)) o) (cut_first b xs k (omega (arith, lt)) (λ j lt_j. before (suc j) (omega (arith, lt_j))) at)

-- no such byte is in the text
abbrev pub lacks : ℕ → List ℕ → Bool
lacks b [] = true
lacks b (x ∷ xs) = not (x == b) && lacks b xs

pub lacks_append : (b : ℕ) (xs ys : List ℕ) → lacks b xs ≡ true → lacks b ys ≡ true → lacks b (xs ++ ys) ≡ true
lacks_append b [] ys h k = k
lacks_append b (x ∷ xs) ys h k = let p = and_parts (not (x == b)) _ h in and_from _ _ p.0 (lacks_append b xs ys p.1 k)

-- a longer front
abbrev pub behind : List ℕ → Option (List ℕ × List ℕ) → Option (List ℕ × List ℕ)
behind front None = None
behind front (Some p) = Some (front ++ p.0, p.1)

-- a text without the byte is passed over
pub cut_behind : (b : ℕ) (front rest : List ℕ) → lacks b front ≡ true → sides_of b (front ++ rest) ≡ behind front (sides_of b rest)
cut_behind b [] rest h = same (sides_of b rest) where
  same : (o : Option (List ℕ × List ℕ)) → o ≡ behind [] o
  same None = refl
  same (Some p) = refl
cut_behind b (x ∷ xs) rest h =
    let p = and_parts (not (x == b)) _ h in
    ap (λ (t : Bool). if t then Some ([], xs ++ rest) else option_map (λ p. (x ∷ p.0, p.1)) (sides_of b (xs ++ rest))) (not-true (x == b) p.0)
    ∙ ap (λ o. option_map (λ p. (x ∷ p.0, p.1)) o) (cut_behind b xs rest p.1)
    ∙ twice (sides_of b rest)
  where
    twice : (o : Option (List ℕ × List ℕ)) → option_map (λ p. (x ∷ p.0, p.1)) (behind xs o) ≡ behind (x ∷ xs) o
    twice None = refl
    twice (Some p) = refl

pub cut_at : (b : ℕ) (front rest : List ℕ) → lacks b front ≡ true → sides_of b (front ++ b ∷ rest) ≡ Some (front, rest)
cut_at b front rest h =
    cut_behind b front (b ∷ rest) h
    ∙ ap (λ (t : Bool). behind front (if t then Some ([], rest) else option_map (λ p. (b ∷ p.0, p.1)) (sides_of b rest))) (eq-eqb b b refl)
    ∙ ap (λ f. Some (f, rest)) (append-nil front)

pub cut_none : (b : ℕ) (text : List ℕ) → lacks b text ≡ true → sides_of b text ≡ None
cut_none b [] h = refl
cut_none b (x ∷ xs) h =
    let p = and_parts (not (x == b)) _ h in
    ap (λ (t : Bool). if t then Some ([], xs) else option_map (λ p. (x ∷ p.0, p.1)) (sides_of b xs)) (not-true (x == b) p.0)
    ∙ ap (λ o. option_map (λ p. (x ∷ p.0, p.1)) o) (cut_none b xs p.1)

-- the bytes of names and numbers
abbrev pub is_plain : ℕ → Bool
is_plain b = is_name_byte b || (b == 45)

pub differ : (x b : ℕ) → is_plain x ≡ true → is_plain b ≡ false → (x == b) ≡ false
differ x b p q = false_from_ne_true (x == b) (λ e. false≢true (sym q ∙ ap is_plain (sym (eqb-true x b e)) ∙ p))

pub lacks_plain : (b : ℕ) (xs : List ℕ) → is_plain b ≡ false → list_all is_plain xs ≡ true → lacks b xs ≡ true
lacks_plain b [] q h = refl
lacks_plain b (x ∷ xs) q h =
    let p = and_parts (is_plain x) _ h in
    and_from _ _ (ap not (differ x b p.0 q)) (lacks_plain b xs q p.1)

-- the end of an operand: that of the text, or a comma
abbrev pub Ended : List ℕ → Type 0
Ended end = (end ≡ []) ⊎ ((rest : List ℕ) × (end ≡ 44 ∷ rest))

pub before_end : (text end : List ℕ) → list_all is_plain text ≡ true → Ended end → before_comma (text ++ end) ≡ text
before_end text end h (inl e) =
    ap (λ k. before_comma (text ++ k)) e ∙ ap before_comma (append-nil text) ∙ ap (λ o. front_of o text) (cut_none 44 text (lacks_plain 44 text refl h))
before_end text end h (inr (rest, e)) =
    ap (λ k. before_comma (text ++ k)) e ∙ ap (λ o. front_of o (text ++ 44 ∷ rest)) (cut_at 44 text rest (lacks_plain 44 text refl h))
