-- What the tests for marks tell.
use Rattle.std.proofs.Common.{◌≡◌, true, refl, ap}
use Rattle.std.proofs.lemmas.Bool.{false≢true}
use Rattle.vale_syntax.specs.declared.mark.Mark.{Mark}
use Rattle.vale_syntax.specs.declared.mark.Mark.TheVariants as mark
use Rattle.vale_syntax.specs.declared.lookahead.Lookahead.{Lookahead}
use Rattle.vale_syntax.specs.declared.lookahead.Lookahead.TheVariants as see
use Rattle.vale_syntax.specs.inner.Marks.{mark_eq, is_mark}

mark_is : (m n : Mark) → mark_eq m n ≡ true → n ≡ m
mark_is mark.RoundOpen mark.RoundOpen h = refl
mark_is mark.RoundClose mark.RoundClose h = refl
mark_is mark.SquareOpen mark.SquareOpen h = refl
mark_is mark.SquareClose mark.SquareClose h = refl
mark_is mark.BraceOpen mark.BraceOpen h = refl
mark_is mark.BraceClose mark.BraceClose h = refl
mark_is mark.Comma mark.Comma h = refl
mark_is mark.Semicolon mark.Semicolon h = refl
mark_is mark.Colon mark.Colon h = refl
mark_is mark.Equals mark.Equals h = refl
mark_is mark.Assign mark.Assign h = refl
mark_is mark.Bang mark.Bang h = refl
mark_is mark.At mark.At h = refl
mark_is _ _ h = absurd (false≢true h)

pub peek_is : (m : Mark) (f : Lookahead) → is_mark m f ≡ true → f ≡ see.Mark m
peek_is m (see.Mark n) h = ap see.Mark (mark_is m n h)
peek_is m _ h = absurd (false≢true h)
