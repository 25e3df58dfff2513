-- The text that an expression is printed as, and which trees have one.
use Rattle.std.specs.Prelude.{◌≡◌, ℕ, ◌<◌, ◌⊎◌, negsuc, nat_abs, Bool, true, false, List, [], ◌∷◌, ◌++◌, length, codes, decimal, None}
use Rattle.std.specs.Fmt.{signed_decimal}
use Rattle.std.specs.List.{list_all}
use Rattle.x64_syntax.specs.Words.{is_name_text, keyword_of}
use Rattle.vale_syntax.specs.declared.token.Token.{Token}
use Rattle.vale_syntax.specs.declared.spot.Spot.{Spot}
use Rattle.vale_syntax.specs.declared.mark.BinaryOp.{BinaryOp}
use Rattle.vale_syntax.specs.declared.mark.BinaryOp.TheVariants as op
use Rattle.vale_syntax.specs.declared.mark.UnaryOp.{UnaryOp}
use Rattle.vale_syntax.specs.declared.mark.UnaryOp.TheVariants as un
use Rattle.vale_syntax.specs.Operators.{any}
use Rattle.vale_syntax.specs.Tokens.{is_stamp_byte, whole_limit, word_limit, wide_limit, All, tokens_from}
use Rattle.vale_syntax.specs.Expressions.{Spells}
use Rattle.vale_syntax.specs.Trees.{Ex, Exs, none, more, Int, Word, Wide, True, False, Prev, Name, Call, Index, Unary, Binary}

abbrev pub binary_text : BinaryOp → List ℕ
binary_text op.Mul = codes "*"
binary_text op.Add = codes "+"
binary_text op.Sub = codes "-"
binary_text op.Eq = codes "=="
binary_text op.Ne = codes "!="
binary_text op.Lt = codes "<"
binary_text op.Le = codes "<="
binary_text op.Gt = codes ">"
binary_text op.Ge = codes ">="
binary_text op.And = codes "&&"
binary_text op.Or = codes "||"
binary_text op.Implies = codes "==>"

abbrev pub unary_text : UnaryOp → List ℕ
unary_text un.Not = codes "!"
unary_text un.Neg = codes "-"

-- what stands without brackets beside an operator and before an index
abbrev pub is_operand : Ex → Bool
is_operand (Int s (negsuc n)) = false
is_operand (Unary s o x) = false
is_operand (Binary s o x y) = false
is_operand _ = true

abbrev pub bracketed_text : Bool → List ℕ → List ℕ
bracketed_text true text = text
bracketed_text false text = codes "(" ++ text ++ codes ")"

abbrev pub separator : Bool → List ℕ
separator true = []
separator false = codes ", "

unfoldable mutual
  -- Operators have blanks around them, and brackets group what isn't an operand by itself.
  pub text : Ex → List ℕ
  text (Int s z) = signed_decimal z
  text (Word s n) = decimal n ++ codes "w"
  text (Wide s n) = decimal n ++ codes "v"
  text (True s) = codes "true"
  text (False s) = codes "false"
  text (Prev s) = codes "prev"
  text (Name n) = n.text
  text (Call f xs) = f.text ++ codes "(" ++ list_text true xs ++ codes ")"
  text (Index s x i) = bracketed_text (is_operand x) (text x) ++ codes "[" ++ text i ++ codes "]"
  text (Unary s o x) = unary_text o ++ codes "(" ++ text x ++ codes ")"
  text (Binary s o x y) = bracketed_text (is_operand x) (text x) ++ (codes " " ++ binary_text o ++ codes " ") ++ bracketed_text (is_operand y) (text y)

  pub list_text : Bool → Exs → List ℕ
  list_text is_first none = []
  list_text is_first (more x xs) = separator is_first ++ text x ++ list_text false xs

abbrev pub operand_text : Ex → List ℕ
operand_text x = bracketed_text (is_operand x) (text x)

-- a name, a dot, and lower-case letters or digits
pub record IsStamped (text : List ℕ) : Type 0 where
  pub name : List ℕ
  pub stamp : List ℕ
  pub whole : text ≡ name ++ 46 ∷ stamp
  pub is_name : is_name_text name ≡ true
  pub some : 0 < length stamp
  pub stamped : list_all is_stamp_byte stamp ≡ true

pub record IsFree (text : List ℕ) : Type 0 where
  pub is_name : is_name_text text ≡ true
  pub no_keyword : keyword_of text ≡ None

unfoldable mutual
  -- The trees that some text spells: numbers are within the limits of their tokens, and names are names.
  pub IsWritable : Ex → Type 0
  IsWritable (Int s z) = nat_abs z < whole_limit
  IsWritable (Word s n) = n < word_limit
  IsWritable (Wide s n) = n < wide_limit
  IsWritable (True s) = Unit {0}
  IsWritable (False s) = Unit {0}
  IsWritable (Prev s) = Unit {0}
  IsWritable (Name n) = IsFree n.text ⊎ IsStamped n.text
  IsWritable (Call f xs) = IsFree f.text × AreWritable xs
  IsWritable (Index s x i) = IsWritable x × IsWritable i
  IsWritable (Unary s o x) = IsWritable x
  IsWritable (Binary s o x y) = IsWritable x × IsWritable y

  pub AreWritable : Exs → Type 0
  AreWritable none = Unit {0}
  AreWritable (more x xs) = IsWritable x × AreWritable xs

abbrev pub nowhere : Spot
nowhere = record { file = 0; at = 0 }

unfoldable mutual
  -- an expression without the places of its nodes
  pub without_places : Ex → Ex
  without_places (Int s z) = Int nowhere z
  without_places (Word s n) = Word nowhere n
  without_places (Wide s n) = Wide nowhere n
  without_places (True s) = True nowhere
  without_places (False s) = False nowhere
  without_places (Prev s) = Prev nowhere
  without_places (Name n) = Name (record { text = n.text; spot = nowhere })
  without_places (Call f xs) = Call (record { text = f.text; spot = nowhere }) (list_without_places xs)
  without_places (Index s x i) = Index nowhere (without_places x) (without_places i)
  without_places (Unary s o x) = Unary nowhere o (without_places x)
  without_places (Binary s o x y) = Binary nowhere o (without_places x) (without_places y)

  pub list_without_places : Exs → Exs
  list_without_places none = none
  list_without_places (more x xs) = more (without_places x) (list_without_places xs)

-- the tokens of the text, in a file, spell the expression, places aside and whatever its depth
pub record IsTextOf (file : ℕ) (bytes : List ℕ) (x : Ex) : Type 0 where
  pub tokens : List Token
  pub lexes : tokens_from file 0 0 bytes ≡ All tokens
  pub tree : Ex
  pub depth : ℕ
  pub spelled : Spells any depth tokens tree []
  pub same : without_places tree ≡ without_places x
