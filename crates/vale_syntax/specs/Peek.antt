-- What the grammar sees of a list of tokens: its first token, and where and how that is written.
use Rattle.std.specs.Prelude.{ℕ, List, [], ◌∷◌, Option, Some, None}
use Rattle.x64_syntax.specs.declared.keywords.Keyword.{Keyword as AKeyword}
use Rattle.x64_syntax.specs.Words.{keyword_of}
use Rattle.vale_syntax.specs.declared.token.TokenKind.{TokenKind}
use Rattle.vale_syntax.specs.declared.token.TokenKind.TheVariants as kind
use Rattle.vale_syntax.specs.declared.token.Token.{Token}
use Rattle.vale_syntax.specs.declared.spot.Spot.{Spot}
use Rattle.vale_syntax.specs.declared.lookahead.Lookahead.{Lookahead}
use Rattle.vale_syntax.specs.declared.lookahead.Lookahead.TheVariants.{End, Name, Stamped, Int, Word, Wide, Keyword, Mark}

abbrev pub name_or_keyword : Option AKeyword → Lookahead
name_or_keyword None = Name
name_or_keyword (Some k) = Keyword k

abbrev pub of_kind : TokenKind → List ℕ → Lookahead
of_kind kind.Name text = name_or_keyword (keyword_of text)
of_kind kind.Stamped text = Stamped
of_kind (kind.Int n) text = Int n
of_kind (kind.Word n) text = Word n
of_kind (kind.Wide n) text = Wide n
of_kind (kind.Mark m) text = Mark m

abbrev pub seen_as : Token → Lookahead
seen_as t = of_kind t.kind t.text

unfoldable pub peek : List Token → Lookahead
peek [] = End
peek (t ∷ ts) = seen_as t

-- the text of the first token, and where it stands
abbrev pub text_of : List Token → List ℕ
text_of [] = []
text_of (t ∷ ts) = t.text

abbrev pub spot_of : List Token → Spot
spot_of [] = record { file = 0; at = 0 }
spot_of (t ∷ ts) = t.spot
