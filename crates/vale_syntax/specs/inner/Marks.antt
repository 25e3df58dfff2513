-- Which mark a token is, and the lengths of marks.
use Rattle.std.specs.Prelude.{ℕ, Bool, true, false, List, length, Option, Some, None}
use Rattle.vale_syntax.specs.declared.mark.Mark.{Mark}
use Rattle.vale_syntax.specs.declared.mark.Mark.TheVariants as mark
use Rattle.vale_syntax.specs.declared.lookahead.Lookahead.{Lookahead}
use Rattle.vale_syntax.specs.declared.lookahead.Lookahead.TheVariants as see

-- which marks are the same; operators between expressions are none of those that are asked for
abbrev pub mark_eq : Mark → Mark → Bool
mark_eq mark.RoundOpen mark.RoundOpen = true
mark_eq mark.RoundClose mark.RoundClose = true
mark_eq mark.SquareOpen mark.SquareOpen = true
mark_eq mark.SquareClose mark.SquareClose = true
mark_eq mark.BraceOpen mark.BraceOpen = true
mark_eq mark.BraceClose mark.BraceClose = true
mark_eq mark.Comma mark.Comma = true
mark_eq mark.Semicolon mark.Semicolon = true
mark_eq mark.Colon mark.Colon = true
mark_eq mark.Equals mark.Equals = true
mark_eq mark.Assign mark.Assign = true
mark_eq mark.Bang mark.Bang = true
mark_eq mark.At mark.At = true
mark_eq _ _ = false

abbrev pub is_mark : Mark → Lookahead → Bool
is_mark m (see.Mark n) = mark_eq m n
is_mark m _ = false

-- the length of a mark that was found
abbrev pub mark_len : Option (List ℕ × Mark) → ℕ
mark_len None = 0
mark_len (Some m) = length m.0
