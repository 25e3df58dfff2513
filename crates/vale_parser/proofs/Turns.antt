-- One turn of a list.
use Rattle.std.proofs.Common.{◌≡◌, ◌<◌, ◌+◌, ◌-◌, ℕ, suc, arith, Bool, true, false, cond, List, [], ◌∷◌, ◌++◌, drop, Some, None, refl, ◌∙◌, ap}
use Rattle.vale_syntax.specs.declared.token.Token.{Token}
use Rattle.vale_syntax.specs.declared.mark.Mark.TheVariants as mark
use Rattle.vale_syntax.specs.declared.lookahead.Lookahead.{Lookahead}
use Rattle.vale_syntax.specs.Peek.{peek}
use Rattle.vale_syntax.specs.inner.Marks.{is_mark}
use Rattle.vale_parser.specs.inner.Parts.{bind, Parser, commas, many}

-- a turn that is left
pub turns : (n i : ℕ) → i < n → n - i ≡ suc (n - (i + 1))
turns n i h = omega (arith, h)

commas_turn : {A : Type 0} (item : Parser A) (n m : ℕ) (xs : List A) (ts : List Token) (b : Bool) → n ≡ suc m → b ≡ is_mark mark.Comma (peek ts)
    → commas item n xs ts ≡ cond b (bind (item (drop 1 ts)) (λ p. commas item m (xs ++ p.0 ∷ []) p.1)) (Some (xs, ts))
unfolding commas
commas_turn item n m xs ts b e p = ap (λ k. commas item k xs ts) e ∙ rw p refl

pub commas_stop : {A : Type 0} (item : Parser A) (n m : ℕ) (xs : List A) (ts : List Token) (b : Bool) → n ≡ suc m → b ≡ is_mark mark.Comma (peek ts) → b ≡ false → commas item n xs ts ≡ Some (xs, ts)
commas_stop item n m xs ts b e p q = commas_turn item n m xs ts b e p ∙ rw q refl

pub commas_fail : {A : Type 0} (item : Parser A) (n m : ℕ) (xs : List A) (ts : List Token) (b : Bool) → n ≡ suc m → b ≡ is_mark mark.Comma (peek ts) → b ≡ true → item (drop 1 ts) ≡ None → commas item n xs ts ≡ None
commas_fail item n m xs ts b e p q h = commas_turn item n m xs ts b e p ∙ rw (q, h) refl

pub commas_go_on : {A : Type 0} (item : Parser A) (n m : ℕ) (xs : List A) (ts : List Token) (b : Bool) (x : A) (rest : List Token) → n ≡ suc m → b ≡ is_mark mark.Comma (peek ts) → b ≡ true → item (drop 1 ts) ≡ Some (x, rest)
    → commas item n xs ts ≡ commas item m (xs ++ x ∷ []) rest
commas_go_on item n m xs ts b x rest e p q h = commas_turn item n m xs ts b e p ∙ rw (q, h) refl

pub commas_done : {A : Type 0} (item : Parser A) (n : ℕ) (xs : List A) (ts : List Token) → n ≡ 0 → commas item n xs ts ≡ Some (xs, ts)
unfolding commas
commas_done item n xs ts e = ap (λ k. commas item k xs ts) e

many_turn : {A : Type 0} (begins : Lookahead → Bool) (item : Parser A) (n m : ℕ) (xs : List A) (ts : List Token) (b : Bool) → n ≡ suc m → b ≡ begins (peek ts)
    → many begins item n xs ts ≡ cond b (bind (item ts) (λ p. many begins item m (xs ++ p.0 ∷ []) p.1)) (Some (xs, ts))
unfolding many
many_turn begins item n m xs ts b e p = ap (λ k. many begins item k xs ts) e ∙ rw p refl

pub many_stop : {A : Type 0} (begins : Lookahead → Bool) (item : Parser A) (n m : ℕ) (xs : List A) (ts : List Token) (b : Bool) → n ≡ suc m → b ≡ begins (peek ts) → b ≡ false → many begins item n xs ts ≡ Some (xs, ts)
many_stop begins item n m xs ts b e p q = many_turn begins item n m xs ts b e p ∙ rw q refl

pub many_fail : {A : Type 0} (begins : Lookahead → Bool) (item : Parser A) (n m : ℕ) (xs : List A) (ts : List Token) (b : Bool) → n ≡ suc m → b ≡ begins (peek ts) → b ≡ true → item ts ≡ None → many begins item n xs ts ≡ None
many_fail begins item n m xs ts b e p q h = many_turn begins item n m xs ts b e p ∙ rw (q, h) refl

pub many_go_on : {A : Type 0} (begins : Lookahead → Bool) (item : Parser A) (n m : ℕ) (xs : List A) (ts : List Token) (b : Bool) (x : A) (rest : List Token) → n ≡ suc m → b ≡ begins (peek ts) → b ≡ true → item ts ≡ Some (x, rest)
    → many begins item n xs ts ≡ many begins item m (xs ++ x ∷ []) rest
many_go_on begins item n m xs ts b x rest e p q h = many_turn begins item n m xs ts b e p ∙ rw (q, h) refl

pub many_done : {A : Type 0} (begins : Lookahead → Bool) (item : Parser A) (n : ℕ) (xs : List A) (ts : List Token) → n ≡ 0 → many begins item n xs ts ≡ Some (xs, ts)
unfolding many
many_done begins item n xs ts e = ap (λ k. many begins item k xs ts) e
