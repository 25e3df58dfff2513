-- Where a mark lacks.
use Rattle.std.proofs.Common.{◌≡◌, ℕ, false, List, Option, Some, None, refl, sym}
use Rattle.std.proofs.lemmas.Bool.{false≢true}
use Rattle.vale_syntax.specs.declared.token.Token.{Token}
use Rattle.vale_syntax.specs.declared.mark.Mark.TheVariants as mark
use Rattle.vale_syntax.specs.declared.lookahead.Lookahead.{Lookahead}
use Rattle.vale_syntax.specs.declared.lookahead.Lookahead.TheVariants as see
use Rattle.vale_syntax.specs.Trees.{Exs}
use Rattle.vale_syntax.specs.inner.Parse.{Got, GotList, square_by, indices_by, others_by}
use Rattle.vale_syntax.specs.inner.Marks.{is_mark}

pub not_indexed : (f : Lookahead) → is_mark mark.SquareOpen f ≡ false → (b : ℕ) (g : Got) (go : Option Got) → indices_by f b g go ≡ Some g
not_indexed (see.Mark mark.SquareOpen) h b g go = absurd (false≢true (sym h))
not_indexed _ h b g go = refl

pub not_squared : (f : Lookahead) → is_mark mark.SquareClose f ≡ false → (go : Option Got) → square_by f go ≡ None
not_squared (see.Mark mark.SquareClose) h go = absurd (false≢true (sym h))
not_squared _ h go = refl

pub no_others : (f : Lookahead) → is_mark mark.RoundClose f ≡ false → is_mark mark.Comma f ≡ false → (xs : Exs) (d : ℕ) (ts : List Token) (go : Option GotList) → others_by f xs d ts go ≡ None
no_others (see.Mark mark.RoundClose) h k xs d ts go = absurd (false≢true (sym h))
no_others (see.Mark mark.Comma) h k xs d ts go = absurd (false≢true (sym k))
no_others _ h k xs d ts go = refl
