-- Lists that are found are spelled, and those that are spelled are found.
use Rattle.std.proofs.Common.{◌≡◌, ℕ, zero, suc, ◌≤◌, Bool, true, false, cond, List, [], ◌∷◌, ◌++◌, length, drop, length-drop, Option, Some, None, refl, sym, ◌∙◌, ap, subst, arith}
use Rattle.std.proofs.lemmas.Option.{same_Some}
use Rattle.x64_syntax.specs.declared.keywords.Keyword.{Keyword}
use Rattle.vale_syntax.specs.declared.token.Token.{Token}
use Rattle.vale_syntax.specs.declared.mark.Mark.{Mark}
use Rattle.vale_syntax.specs.declared.mark.Mark.TheVariants as mark
use Rattle.vale_syntax.specs.declared.lookahead.Lookahead.{Lookahead}
use Rattle.vale_syntax.specs.declared.lookahead.Lookahead.TheVariants as see
use Rattle.vale_syntax.specs.Peek.{peek}
use Rattle.vale_syntax.specs.Lists.{Relation, Commas, commas_end, commas_next, CommaList, comma_items as is_separated, ClosedList, no_items, some_items, Many, many_end, many_next}
use Rattle.vale_syntax.specs.inner.Marks.{mark_eq, is_mark}
use Rattle.vale_syntax.proofs.MarkTests.{peek_is}
use Rattle.vale_parser.specs.inner.Parts.{bind, Parser, expect, before, commas, comma_list, closed_list, many}

pub bind_some : {A B : Type 0} (o : Option A) (f : A → Option B) (y : B) → bind o f ≡ Some y → (x : A) × (o ≡ Some x) × (f x ≡ Some y)
bind_some (Some x) f y h = (x, refl, h)
bind_some None f y h = absurd cc

pub bound : {A B : Type 0} (o : Option A) (x : A) (f : A → Option B) (y : Option B) → o ≡ Some x → f x ≡ y → bind o f ≡ y
bound o x f y p q = ap (λ o. bind o f) p ∙ q

pub expected : (m : Mark) (ts rest : List Token) → expect m ts ≡ Some rest → (peek ts ≡ see.Mark m) × (drop 1 ts ≡ rest)
expected m ts rest h = by_test (is_mark m (peek ts)) refl h
  where
    by_test : (t : Bool) → is_mark m (peek ts) ≡ t → cond t (Some (drop 1 ts)) None ≡ Some rest → (peek ts ≡ see.Mark m) × (drop 1 ts ≡ rest)
    by_test true e h = (peek_is m (peek ts) e, same_Some (drop 1 ts) rest h)
    by_test false e h = absurd cc

-- a mark that is asked for is found
pub expect_found : (m : Mark) (ts : List Token) → mark_eq m m ≡ true → peek ts ≡ see.Mark m → expect m ts ≡ Some (drop 1 ts)
expect_found m ts h p = ap (λ f. cond (is_mark m f) (Some (drop 1 ts)) None) p ∙ ap (λ t. cond t (Some (drop 1 ts)) None) h

pub is_mark_of : (m n : Mark) (f : Lookahead) (b : Bool) → f ≡ see.Mark n → mark_eq m n ≡ b → is_mark m f ≡ b
is_mark_of m n f b p h = ap (is_mark m) p ∙ h

pub some_left : (ts : List Token) (f : Lookahead) → peek ts ≡ f → (f ≡ see.End → ⊥) → 1 ≤ length ts
unfolding peek
some_left [] f p h = absurd (h (sym p))
some_left (t ∷ ts) f p h = omega arith

pub mark_left : (ts : List Token) (m : Mark) → peek ts ≡ see.Mark m → 1 ≤ length ts
mark_left ts m p = some_left ts (see.Mark m) p (λ e. absurd cc)

pub word_left : (ts : List Token) (k : Keyword) → peek ts ≡ see.Keyword k → 1 ≤ length ts
word_left ts k p = some_left ts (see.Keyword k) p (λ e. absurd cc)

pub name_left : (ts : List Token) → peek ts ≡ see.Name → 1 ≤ length ts
name_left ts p = some_left ts see.Name p (λ e. absurd cc)

-- The lists, over a relation of one thing and a parser that finds it where what follows is as it may be.
module _ {A : Type 0} (Item : Relation A) (item : Parser A) (Follows : Lookahead → Type 0)
    (item_found : (ts : List Token) (x : A) (rest : List Token) → Item ts x rest → Follows (peek rest) → item ts ≡ Some (x, rest))
    (item_short : (ts : List Token) (x : A) (rest : List Token) → Item ts x rest → length rest ≤ length ts) where
  commas_short : (xs : List A) (ts : List Token) (ys : List A) (rest : List Token) → Commas Item xs ts ys rest → length rest ≤ length ts
  commas_short xs ts ys rest commas_end = omega arith
  commas_short xs ts ys rest (commas_next {y = y} {mid = mid} p h t) =
      let a = item_short (drop 1 ts) y mid h in
      let b = commas_short _ mid ys rest t in
      let d = length-drop 1 ts in
      omega (arith, a, b, d)

  -- what follows a thing of a list
  commas_follows : (Follows (see.Mark mark.Comma)) → (xs : List A) (ts : List Token) (ys : List A) (rest : List Token) → Commas Item xs ts ys rest → Follows (peek rest) → Follows (peek ts)
  commas_follows comma xs ts ys rest commas_end h = h
  commas_follows comma xs ts ys rest (commas_next p k t) h = subst Follows (sym p) comma

  pub commas_found : (Follows (see.Mark mark.Comma)) → (xs : List A) (ts : List Token) (ys : List A) (rest : List Token) → Commas Item xs ts ys rest → (n : ℕ) → length ts ≤ n → is_mark mark.Comma (peek rest) ≡ false → Follows (peek rest)
      → commas item n xs ts ≡ Some (ys, rest)
  unfolding commas
  commas_found comma xs ts ys rest commas_end zero k e f = refl
  commas_found comma xs ts ys rest commas_end (suc n) k e f = ap (λ b. cond b (bind (item (drop 1 ts)) (λ p. commas item n (xs ++ p.0 ∷ []) p.1)) (Some (xs, ts))) e
  commas_found comma xs ts ys rest (commas_next {y = y} {mid = mid} p h t) zero k e f = let s = mark_left ts mark.Comma p in absurd (omega (arith, s, k))
  commas_found comma xs ts ys rest (commas_next {y = y} {mid = mid} p h t) (suc n) k e f =
      let a = item_short (drop 1 ts) y mid h in
      let d = length-drop 1 ts in
      ap (λ b. cond b (bind (item (drop 1 ts)) (λ p. commas item n (xs ++ p.0 ∷ []) p.1)) (Some (xs, ts))) (is_mark_of mark.Comma mark.Comma (peek ts) true p refl)
      ∙ bound (item (drop 1 ts)) (y, mid) (λ p. commas item n (xs ++ p.0 ∷ []) p.1) _ (item_found (drop 1 ts) y mid h (commas_follows comma _ mid ys rest t f))
      (commas_found comma (xs ++ y ∷ []) mid ys rest t n (omega (arith, a, d, k)) e f)

  pub separated_short : (ts : List Token) (xs : List A) (rest : List Token) → CommaList Item ts xs rest → length rest ≤ length ts
  separated_short ts xs rest (is_separated {x = x} {mid = mid} h t) = let a = item_short ts x mid h in let b = commas_short _ mid xs rest t in omega (arith, a, b)

  pub separated_found : (Follows (see.Mark mark.Comma)) → (ts : List Token) (xs : List A) (rest : List Token) → CommaList Item ts xs rest → is_mark mark.Comma (peek rest) ≡ false → Follows (peek rest) → comma_list item ts ≡ Some (xs, rest)
  separated_found comma ts xs rest (is_separated {x = x} {mid = mid} h t) e f =
      bound (item ts) (x, mid) (λ p. commas item (length ts) (p.0 ∷ []) p.1) _ (item_found ts x mid h (commas_follows comma _ mid xs rest t f))
      (commas_found comma (x ∷ []) mid xs rest t (length ts) (item_short ts x mid h) e f)

  pub closed_short : (ts : List Token) (xs : List A) (rest : List Token) → ClosedList Item ts xs rest → length rest ≤ length ts
  closed_short ts xs rest (no_items p) = let d = length-drop 1 ts in omega (arith, d)
  closed_short ts xs rest (some_items {mid = mid} h p) = let a = separated_short ts xs mid h in let d = length-drop 1 mid in omega (arith, a, d)

  -- things of a list don't begin with a closing bracket
  pub closed_found : (Follows (see.Mark mark.Comma)) → (Follows (see.Mark mark.RoundClose)) → ((ts : List Token) (x : A) (rest : List Token) → Item ts x rest → is_mark mark.RoundClose (peek ts) ≡ false)
      → (ts : List Token) (xs : List A) (rest : List Token) → ClosedList Item ts xs rest → closed_list item ts ≡ Some (xs, rest)
  closed_found comma close starts ts xs rest (no_items p) = ap (λ b. cond b (Some ([], drop 1 ts)) (before mark.RoundClose (comma_list item ts))) (is_mark_of mark.RoundClose mark.RoundClose (peek ts) true p refl)
  closed_found comma close starts ts xs rest (some_items {mid = mid} h p) =
      ap (λ b. cond b (Some ([], drop 1 ts)) (before mark.RoundClose (comma_list item ts))) (separated_starts h)
      ∙ bound (comma_list item ts) (xs, mid) (λ p. bind (expect mark.RoundClose p.1) (λ rest. Some (p.0, rest))) _
      (separated_found comma ts xs mid h (is_mark_of mark.Comma mark.RoundClose (peek mid) false p refl) (subst Follows (sym p) close))
      (bound (expect mark.RoundClose mid) (drop 1 mid) (λ rest. Some (xs, rest)) _ (expect_found mark.RoundClose mid refl p) refl)
    where
      separated_starts : CommaList Item ts xs mid → is_mark mark.RoundClose (peek ts) ≡ false
      separated_starts (is_separated {x = x} {mid = m} h t) = starts ts x m h

-- Things that stand one behind the other, each of which takes tokens.
module _ {A : Type 0} (Item : Relation A) (item : Parser A) (begins : Lookahead → Bool)
    (item_found : (ts : List Token) (x : A) (rest : List Token) → Item ts x rest → item ts ≡ Some (x, rest))
    (item_begins : (ts : List Token) (x : A) (rest : List Token) → Item ts x rest → begins (peek ts) ≡ true)
    (item_shorter : (ts : List Token) (x : A) (rest : List Token) → Item ts x rest → suc (length rest) ≤ length ts) where
  pub many_short : (xs : List A) (ts : List Token) (ys : List A) (rest : List Token) → Many Item xs ts ys rest → length rest ≤ length ts
  many_short xs ts ys rest many_end = omega arith
  many_short xs ts ys rest (many_next {y = y} {mid = mid} h t) = let a = item_shorter ts y mid h in let b = many_short _ mid ys rest t in omega (arith, a, b)

  pub many_found : (xs : List A) (ts : List Token) (ys : List A) (rest : List Token) → Many Item xs ts ys rest → (n : ℕ) → length ts ≤ n → begins (peek rest) ≡ false → many begins item n xs ts ≡ Some (ys, rest)
  unfolding many
  many_found xs ts ys rest many_end zero k e = refl
  many_found xs ts ys rest many_end (suc n) k e = ap (λ b. cond b (bind (item ts) (λ p. many begins item n (xs ++ p.0 ∷ []) p.1)) (Some (xs, ts))) e
  many_found xs ts ys rest (many_next {y = y} {mid = mid} h t) zero k e = let s = item_shorter ts y mid h in absurd (omega (arith, s, k))
  many_found xs ts ys rest (many_next {y = y} {mid = mid} h t) (suc n) k e =
      let s = item_shorter ts y mid h in
      ap (λ b. cond b (bind (item ts) (λ p. many begins item n (xs ++ p.0 ∷ []) p.1)) (Some (xs, ts))) (item_begins ts y mid h)
      ∙ bound (item ts) (y, mid) (λ p. many begins item n (xs ++ p.0 ∷ []) p.1) _ (item_found ts y mid h) (many_found (xs ++ y ∷ []) mid ys rest t n (omega (arith, s, k)) e)

-- what is found in lists is spelled
module _ {A : Type 0} (Item : Relation A) (item : Parser A) (item_sound : (ts : List Token) (x : A) (rest : List Token) → item ts ≡ Some (x, rest) → Item ts x rest) where
  inside : {B : Type 0} (p q : B × List Token) → Some p ≡ Some q → (p.0 ≡ q.0) × (p.1 ≡ q.1)
  inside p q h = (cc, cc)

  commas_sound : (n : ℕ) (xs : List A) (ts : List Token) (ys : List A) (rest : List Token) → commas item n xs ts ≡ Some (ys, rest) → Commas Item xs ts ys rest
  unfolding commas
  commas_sound zero xs ts ys rest h = let e = inside (xs, ts) (ys, rest) h in subst (λ l. Commas Item xs ts l rest) e.0 (subst (λ l. Commas Item xs ts xs l) e.1 commas_end)
  commas_sound (suc n) xs ts ys rest h = by_test (is_mark mark.Comma (peek ts)) refl (λ zs us. commas_sound n zs us ys rest) h
    where
      by_test : (b : Bool) → is_mark mark.Comma (peek ts) ≡ b → ((zs : List A) (us : List Token) → commas item n zs us ≡ Some (ys, rest) → Commas Item zs us ys rest)
          → cond b (bind (item (drop 1 ts)) (λ p. commas item n (xs ++ p.0 ∷ []) p.1)) (Some (xs, ts)) ≡ Some (ys, rest) → Commas Item xs ts ys rest
      by_test true e go h =
          let (p, q, k) = bind_some (item (drop 1 ts)) (λ p. commas item n (xs ++ p.0 ∷ []) p.1) (ys, rest) h in
          commas_next (peek_is mark.Comma (peek ts) e) (item_sound (drop 1 ts) p.0 p.1 q) (go (xs ++ p.0 ∷ []) p.1 k)
      by_test false e go h = let f = inside (xs, ts) (ys, rest) h in subst (λ l. Commas Item xs ts l rest) f.0 (subst (λ l. Commas Item xs ts xs l) f.1 commas_end)

  pub separated_sound : (ts : List Token) (xs : List A) (rest : List Token) → comma_list item ts ≡ Some (xs, rest) → CommaList Item ts xs rest
  separated_sound ts xs rest h =
      let (p, q, k) = bind_some (item ts) (λ p. commas item (length ts) (p.0 ∷ []) p.1) (xs, rest) h in
      is_separated (item_sound ts p.0 p.1 q) (commas_sound (length ts) (p.0 ∷ []) p.1 xs rest k)

  pub closed_sound : (ts : List Token) (xs : List A) (rest : List Token) → closed_list item ts ≡ Some (xs, rest) → ClosedList Item ts xs rest
  closed_sound ts xs rest h = by_test (is_mark mark.RoundClose (peek ts)) refl h
    where
      by_test : (b : Bool) → is_mark mark.RoundClose (peek ts) ≡ b → cond b (Some ([], drop 1 ts)) (before mark.RoundClose (comma_list item ts)) ≡ Some (xs, rest) → ClosedList Item ts xs rest
      by_test true e h = let f = inside ([], drop 1 ts) (xs, rest) h in subst (λ l. ClosedList Item ts l rest) f.0 (subst (λ l. ClosedList Item ts [] l) f.1 (no_items (peek_is mark.RoundClose (peek ts) e)))
      by_test false e h =
          let (p, q, k) = bind_some (comma_list item ts) (λ p. bind (expect mark.RoundClose p.1) (λ rest. Some (p.0, rest))) (xs, rest) h in
          let (r, s, l) = bind_some (expect mark.RoundClose p.1) (λ rest. Some (p.0, rest)) (xs, rest) k in
          let m = expected mark.RoundClose p.1 r s in
          let f = inside (p.0, r) (xs, rest) l in
          subst (λ l. ClosedList Item ts l rest) f.0 (subst (λ l. ClosedList Item ts p.0 l) (m.1 ∙ f.1) (some_items (separated_sound ts p.0 p.1 q) m.0))

  pub many_sound : (begins : Lookahead → Bool) (n : ℕ) (xs : List A) (ts : List Token) (ys : List A) (rest : List Token) → many begins item n xs ts ≡ Some (ys, rest) → Many Item xs ts ys rest
  unfolding many
  many_sound begins zero xs ts ys rest h = let e = inside (xs, ts) (ys, rest) h in subst (λ l. Many Item xs ts l rest) e.0 (subst (λ l. Many Item xs ts xs l) e.1 many_end)
  many_sound begins (suc n) xs ts ys rest h = by_test (begins (peek ts)) (λ zs us. many_sound begins n zs us ys rest) h
    where
      by_test : (b : Bool) → ((zs : List A) (us : List Token) → many begins item n zs us ≡ Some (ys, rest) → Many Item zs us ys rest)
          → cond b (bind (item ts) (λ p. many begins item n (xs ++ p.0 ∷ []) p.1)) (Some (xs, ts)) ≡ Some (ys, rest) → Many Item xs ts ys rest
      by_test true go h =
          let (p, q, k) = bind_some (item ts) (λ p. many begins item n (xs ++ p.0 ∷ []) p.1) (ys, rest) h in
          many_next (item_sound ts p.0 p.1 q) (go (xs ++ p.0 ∷ []) p.1 k)
      by_test false go h = let f = inside (xs, ts) (ys, rest) h in subst (λ l. Many Item xs ts l rest) f.0 (subst (λ l. Many Item xs ts xs l) f.1 many_end)
