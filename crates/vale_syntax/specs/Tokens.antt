-- The tokens of a text, or the first place without one.
use Rattle.std.specs.Prelude.{ℕ, zero, suc, ◌+◌, ◌-◌, ◌*◌, ◌^◌, Bool, not, ◌&&◌, ◌||◌, ◌==◌, nat_lt, nat_le, List, [], ◌∷◌, length, take, drop, Option, Some, None, option_map, codes, if◌then◌else◌}
use Rattle.std.specs.List.{find, prefix_len}
use Rattle.std.specs.Str.{bytes_eq}
use Rattle.x64_syntax.specs.Words.{is_digit_byte, is_name_byte}
use Rattle.vale_syntax.specs.declared.token.TokenKind.{TokenKind}
use Rattle.vale_syntax.specs.declared.token.TokenKind.TheVariants.{Name, Stamped, Int, Word, Wide, Mark}
use Rattle.vale_syntax.specs.declared.token.NotAToken.{NotAToken}
use Rattle.vale_syntax.specs.declared.token.NotAToken.TheVariants.{BadByte, NumberTooLarge, OpenComment}
use Rattle.vale_syntax.specs.declared.token.Front.{Front}
use Rattle.vale_syntax.specs.declared.token.Front.TheVariants.{Skipped, Taken, Stopped}
use Rattle.vale_syntax.specs.declared.token.Token.{Token}
use Rattle.vale_syntax.specs.declared.mark.Mark.{Mark as AMark}
use Rattle.vale_syntax.specs.declared.mark.Mark.TheVariants as mark
use Rattle.vale_syntax.specs.declared.mark.BinaryOp.TheVariants as op

-- the text begins with this one
abbrev pub begins : List ℕ → List ℕ → Bool
begins literal bytes = bytes_eq (take (length literal) bytes) literal

abbrev pub is_blank : ℕ → Bool
is_blank b = (b == 32) || (b == 10) || (b == 13) || (b == 9)

abbrev pub is_in_line : ℕ → Bool
is_in_line b = not (b == 10)

-- as far as the end of the comment, from behind its beginning
unfoldable pub close_len : List ℕ → Option ℕ
close_len [] = None
close_len (b ∷ bs) = if begins (codes "*/") (b ∷ bs) then Some 2 else option_map (λ n. n + 1) (close_len bs)

abbrev pub comment : Option ℕ → Front
comment None = Stopped OpenComment
comment (Some n) = Skipped (n + 2)

-- a lower-case letter or a digit
abbrev pub is_stamp_byte : ℕ → Bool
is_stamp_byte b = is_digit_byte b || (nat_le 97 b && nat_le b 122)

-- the dot and the stamp behind a name: 0 where there is none
abbrev pub stamp_len : List ℕ → ℕ
stamp_len [] = 0
stamp_len (b ∷ bs) = if (b == 46) && nat_lt 0 (prefix_len is_stamp_byte bs) then prefix_len is_stamp_byte bs + 1 else 0

abbrev pub name_front : ℕ → ℕ → Front
name_front n zero = Taken Name n
name_front n (suc m) = Taken Stamped (n + suc m)

abbrev pub front_of_name : List ℕ → Front
front_of_name bytes = let n = prefix_len is_name_byte bytes in name_front n (stamp_len (drop n bytes))

abbrev pub is_hex_byte : ℕ → Bool
is_hex_byte b = is_digit_byte b || (nat_le 97 b && nat_le b 102) || (nat_le 65 b && nat_le b 70)

abbrev pub digit : ℕ → ℕ
digit b = if is_digit_byte b then b - 48 else if nat_le 97 b then b - 87 else b - 55

-- the number that digits write behind one that was read
abbrev pub number_after : ℕ → ℕ → List ℕ → ℕ
number_after radix n [] = n
number_after radix n (d ∷ ds) = number_after radix (n * radix + digit d) ds

-- a whole number is below this
abbrev pub whole_limit : ℕ
whole_limit = 2 ^ 127

-- a word of 64 bits is below this
abbrev pub word_limit : ℕ
word_limit = 2 ^ 64

-- a word of 128 bits is below this
abbrev pub wide_limit : ℕ
wide_limit = 2 ^ 128

abbrev pub wide_number : ℕ → Option ℕ
wide_number n = if nat_lt n wide_limit then Some n else None

-- the number that digits write, where some kind of number may be so large
abbrev pub digits_value : ℕ → List ℕ → Option ℕ
digits_value radix digits = wide_number (number_after radix 0 digits)

-- the number of a kind, with its length, or too large
abbrev pub number_front : ℕ → (ℕ → TokenKind) → ℕ → Option ℕ → Front
number_front limit kind len None = Stopped NumberTooLarge
number_front limit kind len (Some n) = if nat_lt n limit then Taken (kind n) len else Stopped NumberTooLarge

-- a number of some length, by what follows
abbrev pub number_by_suffix : Option ℕ → ℕ → List ℕ → Front
number_by_suffix n len [] = number_front whole_limit Int len n
number_by_suffix n len (b ∷ bs) =
    if b == 119 then number_front word_limit Word (len + 1) n
    else if b == 118 then number_front wide_limit Wide (len + 1) n
    else number_front whole_limit Int len n

-- the hexadecimal digits behind `0x`
abbrev pub hex_len : List ℕ → ℕ
hex_len bytes = if begins (codes "0x") bytes then prefix_len is_hex_byte (drop 2 bytes) else 0

abbrev pub number_of : ℕ → List ℕ → Front
number_of zero bytes = let n = prefix_len is_digit_byte bytes in number_by_suffix (digits_value 10 (take n bytes)) n (drop n bytes)
number_of (suc m) bytes = number_by_suffix (digits_value 16 (take (suc m) (drop 2 bytes))) (suc m + 2) (drop (suc m) (drop 2 bytes))

abbrev pub number : List ℕ → Front
number bytes = number_of (hex_len bytes) bytes

-- the marks, with how each is written; a mark stands before those that it begins with
abbrev pub marks : List (List ℕ × AMark)
marks =
    (codes "==>", mark.Binary op.Implies)
    ∷ (codes ":=", mark.Assign)
    ∷ (codes "==", mark.Binary op.Eq)
    ∷ (codes "!=", mark.Binary op.Ne)
    ∷ (codes "<=", mark.Binary op.Le)
    ∷ (codes ">=", mark.Binary op.Ge)
    ∷ (codes "&&", mark.Binary op.And)
    ∷ (codes "||", mark.Binary op.Or)
    ∷ (codes "(", mark.RoundOpen)
    ∷ (codes ")", mark.RoundClose)
    ∷ (codes "[", mark.SquareOpen)
    ∷ (codes "]", mark.SquareClose)
    ∷ (codes "{", mark.BraceOpen)
    ∷ (codes "}", mark.BraceClose)
    ∷ (codes ",", mark.Comma)
    ∷ (codes ";", mark.Semicolon)
    ∷ (codes ":", mark.Colon)
    ∷ (codes "=", mark.Equals)
    ∷ (codes "<", mark.Binary op.Lt)
    ∷ (codes ">", mark.Binary op.Gt)
    ∷ (codes "+", mark.Binary op.Add)
    ∷ (codes "-", mark.Binary op.Sub)
    ∷ (codes "*", mark.Binary op.Mul)
    ∷ (codes "!", mark.Bang)
    ∷ (codes "@", mark.At)
    ∷ []

-- the first of some marks that the text begins with
abbrev pub mark_at : List (List ℕ × AMark) → List ℕ → Option (List ℕ × AMark)
mark_at ms bytes = find (λ m. begins m.0 bytes) ms

abbrev pub mark_front : Option (List ℕ × AMark) → Front
mark_front None = Stopped BadByte
mark_front (Some m) = Taken (Mark m.1) (length m.0)

abbrev pub other_front : List ℕ → Front
other_front bytes =
    if begins (codes "//") bytes then Skipped (prefix_len is_in_line bytes)
    else if begins (codes "/*") bytes then comment (close_len (drop 2 bytes))
    else mark_front (mark_at marks bytes)

-- what stands at the front: a blank or comment, else the longest token that begins there
abbrev pub front : List ℕ → Front
front [] = Stopped BadByte
front (b ∷ bs) =
    if is_blank b then Skipped 1
    else if is_digit_byte b then number (b ∷ bs)
    else if is_name_byte b then front_of_name (b ∷ bs)
    else other_front (b ∷ bs)

-- the tokens of a text, or the first place without one and its kind
pub data LexResult : Type 0 where
  All : List Token → LexResult
  Nothing : NotAToken → ℕ → LexResult

abbrev pub with_token : Token → LexResult → LexResult
with_token t (All ts) = All (t ∷ ts)
with_token t (Nothing why at) = Nothing why at

-- a token of the first bytes, at an offset of a file
abbrev pub token_at : ℕ → ℕ → TokenKind → List ℕ → Token
token_at file at kind text = record { kind = kind; text = text; spot = record { file = file; at = at } }

-- what stands at the front, and what is behind it: `go n` goes on where n more bytes belong to it
abbrev pub on_front : ℕ → ℕ → List ℕ → Front → (ℕ → LexResult) → LexResult
on_front file at bytes (Skipped n) go = go (n - 1)
on_front file at bytes (Taken kind n) go = with_token (token_at file at kind (take n bytes)) (go (n - 1))
on_front file at bytes (Stopped why) go = Nothing why at

-- The tokens of the bytes of a file from an offset on, of which so many still belong to what was taken before.
unfoldable pub tokens_from : ℕ → ℕ → ℕ → List ℕ → LexResult
tokens_from file covered at [] = All []
tokens_from file (suc n) at (b ∷ bs) = tokens_from file n (at + 1) bs
tokens_from file zero at (b ∷ bs) = on_front file at (b ∷ bs) (front (b ∷ bs)) (λ n. tokens_from file n (at + 1) bs)
