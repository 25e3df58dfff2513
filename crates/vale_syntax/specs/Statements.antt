-- Which tokens spell which statement. The tokens that are left follow, and depths are exact.
use Rattle.std.specs.Prelude.{◌≡◌, ℕ, suc, ◌-◌, ◌≤◌, max, Bool, true, false, List, [], length, take, drop, Option, Some, None}
use Rattle.std.specs.List.{list_all}
use Rattle.x64_syntax.specs.declared.keywords.Keyword.TheVariants as word
use Rattle.x64_syntax.specs.declared.type_words.TypeWord.{TypeWord}
use Rattle.x64_syntax.specs.declared.type_words.TypeWord.TheVariants as type_word
use Rattle.x64_syntax.specs.Words.{type_word_of}
use Rattle.vale_syntax.specs.declared.spot.Spot.{Spot}
use Rattle.vale_syntax.specs.declared.token.Token.{Token}
use Rattle.vale_syntax.specs.declared.token.TokenKind.{TokenKind}
use Rattle.vale_syntax.specs.declared.token.TokenKind.TheVariants as kind
use Rattle.vale_syntax.specs.declared.mark.Mark.TheVariants as mark
use Rattle.vale_syntax.specs.declared.lookahead.Lookahead.{Lookahead}
use Rattle.vale_syntax.specs.declared.lookahead.Lookahead.TheVariants as see
use Rattle.vale_syntax.specs.declared.statement.SortName.{SortName}
use Rattle.vale_syntax.specs.Operators.{any}
use Rattle.vale_syntax.specs.Peek.{peek, text_of, spot_of}
use Rattle.vale_syntax.specs.Trees.{Ex}
use Rattle.vale_syntax.specs.Expressions.{name_of, depth_limit, Spells}
use Rattle.vale_syntax.specs.Programs.{Ar, Memory, Value, St, Sts, no_sts, more_sts, Arm, no_arm, arm, CallStatement, Assert, Ghost, Assign, If, While, InlineIf, LSt, LSts, no_lsts, more_lsts, LArm, no_larm, larm, LCall, LAssert, LIf}
use Rattle.vale_syntax.specs.Lists.{ClosedList, CommaList, Many}

-- the tokens before those that are left
abbrev pub tokens_before : List Token → List Token → List Token
tokens_before rest ts = take (length ts - length rest) ts

abbrev pub is_plain_kind : TokenKind → Bool
is_plain_kind kind.Stamped = false
is_plain_kind _ = true

-- a token that isn't a stamped name
abbrev pub is_plain : Token → Bool
is_plain t = is_plain_kind t.kind

-- an expression of a source: it is no deeper than it may be, and none of its tokens is a stamped name
pub record Expression (ts : List Token) (x : Ex) (rest : List Token) : Type 0 where
  pub depth : ℕ
  pub shallow : depth ≤ depth_limit
  pub spelled : Spells any depth ts x rest
  pub plain : list_all is_plain (tokens_before rest ts) ≡ true

-- the sort that a word is
abbrev pub sort_word : Option TypeWord → Spot → Option SortName
sort_word (Some (type_word.Sort t)) s = Some (record { sort = t; spot = s })
sort_word _ s = None

abbrev pub sort_by : Lookahead → List Token → Option SortName
sort_by see.Name ts = sort_word (type_word_of (text_of ts)) (spot_of ts)
sort_by _ ts = None

unfoldable pub sort_at : List Token → Option SortName
sort_at ts = sort_by (peek ts) ts

-- one more at the end
abbrev pub sts_last : Sts → St → Sts
sts_last no_sts y = more_sts y no_sts
sts_last (more_sts x xs) y = more_sts x (sts_last xs y)

abbrev pub lsts_last : LSts → LSt → LSts
lsts_last no_lsts y = more_lsts y no_lsts
lsts_last (more_lsts x xs) y = more_lsts x (lsts_last xs y)

-- an argument: a memory operand where `@` follows the index of a name
pub data Argument : List Token → Ar → List Token → Type 0 where
  memory : {ts mid rest : List Token} {i : Ex} {a : List Ex} → peek ts ≡ see.Name → peek (drop 1 ts) ≡ see.Mark mark.SquareOpen → Expression (drop 2 ts) i mid
      → peek mid ≡ see.Mark mark.SquareClose → peek (drop 1 mid) ≡ see.Mark mark.At → peek (drop 2 mid) ≡ see.Mark mark.RoundOpen
      → CommaList Expression (drop 3 mid) a rest → peek rest ≡ see.Mark mark.RoundClose → Argument ts (Memory (name_of ts) i a) (drop 1 rest)
  value : {ts rest : List Token} {x : Ex} → Expression ts x rest → Argument ts (Value x) rest

-- `invariant p;`
pub data Invariant : List Token → Ex → List Token → Type 0 where
  invariant_ : {ts mid : List Token} {x : Ex} → peek ts ≡ see.Keyword word.Invariant → Expression (drop 1 ts) x mid → peek mid ≡ see.Mark mark.Semicolon → Invariant ts x (drop 1 mid)

-- the statements that have none inside
pub data Simple : List Token → St → List Token → Type 0 where
  simple_call : {ts mid : List Token} {a : List Ar} → peek ts ≡ see.Name → peek (drop 1 ts) ≡ see.Mark mark.RoundOpen → ClosedList Argument (drop 2 ts) a mid → peek mid ≡ see.Mark mark.Semicolon
      → Simple ts (CallStatement (name_of ts) a) (drop 1 mid)
  simple_assert : {ts mid : List Token} {x : Ex} → peek ts ≡ see.Keyword word.Assert → Expression (drop 1 ts) x mid → peek mid ≡ see.Mark mark.Semicolon → Simple ts (Assert (spot_of ts) x) (drop 1 mid)
  simple_ghost : {ts mid : List Token} {s : SortName} {x : Ex} → peek ts ≡ see.Keyword word.Ghost → peek (drop 1 ts) ≡ see.Name → peek (drop 2 ts) ≡ see.Mark mark.Colon → sort_at (drop 3 ts) ≡ Some s
      → peek (drop 4 ts) ≡ see.Mark mark.Equals → Expression (drop 5 ts) x mid → peek mid ≡ see.Mark mark.Semicolon → Simple ts (Ghost (spot_of ts) (name_of (drop 1 ts)) s x) (drop 1 mid)
  simple_assign : {ts mid : List Token} {x : Ex} → peek ts ≡ see.Name → peek (drop 1 ts) ≡ see.Mark mark.Assign → Expression (drop 2 ts) x mid → peek mid ≡ see.Mark mark.Semicolon
      → Simple ts (Assign (name_of ts) x) (drop 1 mid)

-- `(t)`
pub data Test : List Token → Ex → List Token → Type 0 where
  test : {ts mid : List Token} {x : Ex} → peek ts ≡ see.Mark mark.RoundOpen → Expression (drop 1 ts) x mid → peek mid ≡ see.Mark mark.RoundClose → Test ts x (drop 1 mid)

mutual
  -- `Statement depth ts x rest`
  pub data Statement : ℕ → List Token → St → List Token → Type 0 where
    simple : {ts rest : List Token} {x : St} → Simple ts x rest → Statement 1 ts x rest
    if_ : {d e : ℕ} {ts a b rest : List Token} {t : Ex} {xs : Sts} {y : Arm} → peek ts ≡ see.Keyword word.If → Test (drop 1 ts) t a → Block d a xs b → Else e b y rest
        → Statement (suc (max d e)) ts (If (spot_of ts) t xs y) rest
    while_ : {d : ℕ} {ts a b c rest : List Token} {t m : Ex} {is : List Ex} {xs : Sts} → peek ts ≡ see.Keyword word.While → Test (drop 1 ts) t a → Many Invariant [] a is b
        → peek b ≡ see.Keyword word.Decreases → Expression (drop 1 b) m c → peek c ≡ see.Mark mark.Semicolon → Block d (drop 1 c) xs rest
        → Statement (suc d) ts (While (spot_of ts) t is m xs) rest
    inline_if : {d e : ℕ} {ts a b rest : List Token} {t : Ex} {xs : Sts} {y : Arm} → peek ts ≡ see.Keyword word.Inline → peek (drop 1 ts) ≡ see.Keyword word.If → Test (drop 2 ts) t a → Block d a xs b → Else e b y rest
        → Statement (suc (max d e)) ts (InlineIf (spot_of ts) t xs y) rest

  -- statements in braces, of which the deepest has the depth
  pub data Block : ℕ → List Token → Sts → List Token → Type 0 where
    block : {d : ℕ} {ts mid : List Token} {xs : Sts} → peek ts ≡ see.Mark mark.BraceOpen → Body 0 no_sts (drop 1 ts) d xs mid → peek mid ≡ see.Mark mark.BraceClose → Block d ts xs (drop 1 mid)

  -- behind some statements, the others
  pub data Body : ℕ → Sts → List Token → ℕ → Sts → List Token → Type 0 where
    statements_end : {d : ℕ} {xs : Sts} {ts : List Token} → Body d xs ts d xs ts
    statements_next : {d e f : ℕ} {xs ys : Sts} {y : St} {ts mid rest : List Token} → Statement e ts y mid → Body (max d e) (sts_last xs y) mid f ys rest → Body d xs ts f ys rest

  pub data Else : ℕ → List Token → Arm → List Token → Type 0 where
    no_else : {ts : List Token} → Else 0 ts no_arm ts
    some_else : {d : ℕ} {ts rest : List Token} {xs : Sts} → peek ts ≡ see.Keyword word.Else → Block d (drop 1 ts) xs rest → Else d ts (arm xs) rest

mutual
  -- the same for lemmas
  pub data LStatement : ℕ → List Token → LSt → List Token → Type 0 where
    lcall : {ts mid : List Token} {a : List Ex} → peek ts ≡ see.Name → peek (drop 1 ts) ≡ see.Mark mark.RoundOpen → ClosedList Expression (drop 2 ts) a mid → peek mid ≡ see.Mark mark.Semicolon
        → LStatement 1 ts (LCall (name_of ts) a) (drop 1 mid)
    lassert : {ts mid : List Token} {x : Ex} → peek ts ≡ see.Keyword word.Assert → Expression (drop 1 ts) x mid → peek mid ≡ see.Mark mark.Semicolon → LStatement 1 ts (LAssert (spot_of ts) x) (drop 1 mid)
    lif : {d e : ℕ} {ts a b rest : List Token} {t : Ex} {xs : LSts} {y : LArm} → peek ts ≡ see.Keyword word.If → Test (drop 1 ts) t a → LBlock d a xs b → LElse e b y rest
        → LStatement (suc (max d e)) ts (LIf (spot_of ts) t xs y) rest

  pub data LBlock : ℕ → List Token → LSts → List Token → Type 0 where
    lblock : {d : ℕ} {ts mid : List Token} {xs : LSts} → peek ts ≡ see.Mark mark.BraceOpen → LBody 0 no_lsts (drop 1 ts) d xs mid → peek mid ≡ see.Mark mark.BraceClose → LBlock d ts xs (drop 1 mid)

  pub data LBody : ℕ → LSts → List Token → ℕ → LSts → List Token → Type 0 where
    lstatements_end : {d : ℕ} {xs : LSts} {ts : List Token} → LBody d xs ts d xs ts
    lstatements_next : {d e f : ℕ} {xs ys : LSts} {y : LSt} {ts mid rest : List Token} → LStatement e ts y mid → LBody (max d e) (lsts_last xs y) mid f ys rest → LBody d xs ts f ys rest

  pub data LElse : ℕ → List Token → LArm → List Token → Type 0 where
    no_lelse : {ts : List Token} → LElse 0 ts no_larm ts
    some_lelse : {d : ℕ} {ts rest : List Token} {xs : LSts} → peek ts ≡ see.Keyword word.Else → LBlock d (drop 1 ts) xs rest → LElse d ts (larm xs) rest

-- no statement is deeper
abbrev pub statement_limit : ℕ
statement_limit = 100
