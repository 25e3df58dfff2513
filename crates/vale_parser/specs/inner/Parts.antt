-- Lists of things, found by looking ahead, over what finds one of them.
use Rattle.std.specs.Prelude.{ℕ, zero, suc, Bool, List, [], ◌∷◌, ◌++◌, length, drop, Option, Some, None, if◌then◌else◌}
use Rattle.vale_syntax.specs.declared.token.Token.{Token}
use Rattle.vale_syntax.specs.declared.mark.Mark.{Mark as AMark}
use Rattle.vale_syntax.specs.declared.mark.Mark.TheVariants as mark
use Rattle.vale_syntax.specs.declared.lookahead.Lookahead.{Lookahead}
use Rattle.vale_syntax.specs.Peek.{peek}
use Rattle.vale_syntax.specs.inner.Marks.{is_mark}
pub use Rattle.vale_syntax.specs.Options.{◌>>=◌ as bind}

-- a thing at the front, and the tokens behind it
abbrev pub Parser : Type 0 → Type 0
Parser A = List Token → Option (A × List Token)

-- the tokens behind a mark that stands at the front
abbrev pub expect : AMark → List Token → Option (List Token)
expect m ts = if is_mark m (peek ts) then Some (drop 1 ts) else None

-- a thing, and the mark behind it
abbrev pub before : {A : Type 0} → AMark → Option (A × List Token) → Option (A × List Token)
before m found = bind found (λ p. bind (expect m p.1) (λ rest. Some (p.0, rest)))

-- the things behind commas, of which at most so many are left
unfoldable pub commas : {A : Type 0} → Parser A → ℕ → List A → List Token → Option (List A × List Token)
commas item zero xs ts = Some (xs, ts)
commas item (suc n) xs ts = if is_mark mark.Comma (peek ts) then bind (item (drop 1 ts)) (λ p. commas item n (xs ++ p.0 ∷ []) p.1) else Some (xs, ts)

abbrev pub comma_list : {A : Type 0} → Parser A → Parser (List A)
comma_list item ts = bind (item ts) (λ p. commas item (length ts) (p.0 ∷ []) p.1)

-- things joined by commas, and the closing round bracket
abbrev pub closed_list : {A : Type 0} → Parser A → Parser (List A)
closed_list item ts = if is_mark mark.RoundClose (peek ts) then Some ([], drop 1 ts) else before mark.RoundClose (comma_list item ts)

-- the things that go on with a token that begins one, of which at most so many are left
unfoldable pub many : {A : Type 0} → (Lookahead → Bool) → Parser A → ℕ → List A → List Token → Option (List A × List Token)
many begins item zero xs ts = Some (xs, ts)
many begins item (suc n) xs ts = if begins (peek ts) then bind (item ts) (λ p. many begins item n (xs ++ p.0 ∷ []) p.1) else Some (xs, ts)
