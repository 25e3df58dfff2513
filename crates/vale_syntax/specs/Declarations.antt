-- Which tokens spell which declaration. The tokens that are left follow.
use Rattle.std.specs.Prelude.{◌≡◌, ℕ, ◌≤◌, Bool, true, false, List, [], ◌∷◌, drop, Option, Some, None}
use Rattle.x64_syntax.specs.declared.keywords.Keyword.TheVariants as word
use Rattle.x64_syntax.specs.declared.type_words.TypeWord.{TypeWord}
use Rattle.x64_syntax.specs.declared.type_words.TypeWord.TheVariants as type_word
use Rattle.x64_syntax.specs.Words.{type_word_of}
use Rattle.vale_syntax.specs.declared.spot.Spot.{Spot}
use Rattle.vale_syntax.specs.declared.token.Token.{Token}
use Rattle.vale_syntax.specs.declared.mark.Mark.TheVariants as mark
use Rattle.vale_syntax.specs.declared.lookahead.Lookahead.{Lookahead}
use Rattle.vale_syntax.specs.declared.lookahead.Lookahead.TheVariants as see
use Rattle.vale_syntax.specs.declared.expr.Name.{Name}
use Rattle.vale_syntax.specs.declared.statement.SortName.{SortName}
use Rattle.x64_syntax.specs.declared.type_words.Sort.TheVariants as sort
use Rattle.vale_syntax.specs.declared.declaration.KindName.{KindName}
use Rattle.vale_syntax.specs.declared.declaration.AbiName.{AbiName}
use Rattle.vale_syntax.specs.declared.declaration.Direction.{Direction}
use Rattle.vale_syntax.specs.declared.declaration.Direction.TheVariants as direction
use Rattle.vale_syntax.specs.declared.declaration.Bind.{Bind}
use Rattle.vale_syntax.specs.declared.declaration.Param.{Param}
use Rattle.vale_syntax.specs.declared.declaration.Param.TheVariants as param
use Rattle.vale_syntax.specs.declared.declaration.ReadPlace.{ReadPlace}
use Rattle.vale_syntax.specs.Peek.{peek, text_of, spot_of}
use Rattle.vale_syntax.specs.Trees.{Ex}
use Rattle.vale_syntax.specs.Expressions.{name_of}
use Rattle.vale_syntax.specs.Programs.{Sts, LSts, Cl, Reads, Modifies, Requires, Ensures, Stack, Abi, LCl, LRequires, LEnsures, LDecreases, De, Procedure, Lemma, Function, Export}
use Rattle.vale_syntax.specs.Lists.{ClosedList, CommaList, Many}
use Rattle.vale_syntax.specs.Statements.{Expression, sort_at, Block, LBlock, statement_limit}

-- the kind of operands that a word is
abbrev pub kind_word : Option TypeWord → Spot → Option KindName
kind_word (Some (type_word.Kind k)) s = Some (record { kind = k; spot = s })
kind_word _ s = None

abbrev pub kind_by : Lookahead → List Token → Option KindName
kind_by see.Name ts = kind_word (type_word_of (text_of ts)) (spot_of ts)
kind_by _ ts = None

unfoldable pub kind_at : List Token → Option KindName
kind_at ts = kind_by (peek ts) ts

-- the calling convention that a word is
abbrev pub abi_word : Option TypeWord → Spot → Option AbiName
abi_word (Some (type_word.Abi a)) s = Some (record { abi = a; spot = s })
abi_word _ s = None

abbrev pub abi_by : Lookahead → List Token → Option AbiName
abi_by see.Name ts = abi_word (type_word_of (text_of ts)) (spot_of ts)
abi_by _ ts = None

unfoldable pub abi_at : List Token → Option AbiName
abi_at ts = abi_by (peek ts) ts

-- whether an operand is read alone, or written too
abbrev pub direction_by : Lookahead → Option Direction
direction_by (see.Keyword word.In) = Some direction.In
direction_by (see.Keyword word.InOut) = Some direction.InOut
direction_by _ = None

-- a name
pub data IsName : List Token → Name → List Token → Type 0 where
  name : {ts : List Token} → peek ts ≡ see.Name → IsName ts (name_of ts) (drop 1 ts)

-- `x: sort`
pub data IsBind : List Token → Bind → List Token → Type 0 where
  bind : {ts : List Token} {s : SortName} → peek ts ≡ see.Name → peek (drop 1 ts) ≡ see.Mark mark.Colon → sort_at (drop 2 ts) ≡ Some s → IsBind ts (record { name = name_of ts; sort = s }) (drop 3 ts)

-- `secret` or nothing
pub data IsSecret : List Token → Bool → List Token → Type 0 where
  secret : {ts : List Token} → peek ts ≡ see.Keyword word.Secret → IsSecret ts true (drop 1 ts)
  open_ : {ts : List Token} → IsSecret ts false ts

pub data IsPlace : List Token → ReadPlace → List Token → Type 0 where
  place : {ts mid : List Token} {b : Bool} → IsSecret ts b mid → peek mid ≡ see.Name → IsPlace ts (record { spot = spot_of ts; is_secret = b; name = name_of mid }) (drop 1 mid)

pub data IsParam : List Token → Param → List Token → Type 0 where
  operand_param : {ts mid : List Token} {b : Bool} {d : Direction} {k : KindName} → IsSecret ts b mid → direction_by (peek mid) ≡ Some d → peek (drop 1 mid) ≡ see.Name → peek (drop 2 mid) ≡ see.Mark mark.Colon → kind_at (drop 3 mid) ≡ Some k
      → IsParam ts (param.Operand (spot_of ts) b d (name_of (drop 1 mid)) k) (drop 4 mid)
  out_param : {ts : List Token} {k : KindName} → peek ts ≡ see.Keyword word.Out → peek (drop 1 ts) ≡ see.Name → peek (drop 2 ts) ≡ see.Mark mark.Colon → kind_at (drop 3 ts) ≡ Some k
      → IsParam ts (param.Out (spot_of ts) (name_of (drop 1 ts)) k) (drop 4 ts)
  inline_param : {ts : List Token} {s : Spot} → peek ts ≡ see.Keyword word.Inline → peek (drop 1 ts) ≡ see.Name → peek (drop 2 ts) ≡ see.Mark mark.Colon → sort_at (drop 3 ts) ≡ Some (record { sort = sort.Int; spot = s })
      → IsParam ts (param.Inline (spot_of ts) (name_of (drop 1 ts))) (drop 4 ts)
  ghost_param : {ts : List Token} {s : SortName} → peek ts ≡ see.Keyword word.Ghost → peek (drop 1 ts) ≡ see.Name → peek (drop 2 ts) ≡ see.Mark mark.Colon → sort_at (drop 3 ts) ≡ Some s
      → IsParam ts (param.Ghost (spot_of ts) (name_of (drop 1 ts)) s) (drop 4 ts)
  block_param : {ts mid : List Token} {b : Bool} → IsSecret ts b mid → peek mid ≡ see.Keyword word.Block → peek (drop 1 mid) ≡ see.Name → IsParam ts (param.Block (spot_of ts) b (name_of (drop 1 mid))) (drop 2 mid)

pub data IsClause : List Token → Cl → List Token → Type 0 where
  reads : {ts mid : List Token} {ps : List ReadPlace} → peek ts ≡ see.Keyword word.Reads → CommaList IsPlace (drop 1 ts) ps mid → peek mid ≡ see.Mark mark.Semicolon → IsClause ts (Reads (spot_of ts) ps) (drop 1 mid)
  modifies : {ts mid : List Token} {ns : List Name} → peek ts ≡ see.Keyword word.Modifies → CommaList IsName (drop 1 ts) ns mid → peek mid ≡ see.Mark mark.Semicolon → IsClause ts (Modifies (spot_of ts) ns) (drop 1 mid)
  requires_ : {ts mid : List Token} {x : Ex} → peek ts ≡ see.Keyword word.Requires → Expression (drop 1 ts) x mid → peek mid ≡ see.Mark mark.Semicolon → IsClause ts (Requires (spot_of ts) x) (drop 1 mid)
  ensures_ : {ts mid : List Token} {x : Ex} → peek ts ≡ see.Keyword word.Ensures → Expression (drop 1 ts) x mid → peek mid ≡ see.Mark mark.Semicolon → IsClause ts (Ensures (spot_of ts) x) (drop 1 mid)
  stack : {ts mid : List Token} {x : Ex} → peek ts ≡ see.Keyword word.Stack → Expression (drop 1 ts) x mid → peek mid ≡ see.Mark mark.Semicolon → IsClause ts (Stack (spot_of ts) x) (drop 1 mid)
  abi_ : {ts : List Token} {a : AbiName} → peek ts ≡ see.Keyword word.Abi → abi_at (drop 1 ts) ≡ Some a → peek (drop 2 ts) ≡ see.Mark mark.Semicolon → IsClause ts (Abi (spot_of ts) a) (drop 3 ts)

pub data IsLClause : List Token → LCl → List Token → Type 0 where
  lrequires : {ts mid : List Token} {x : Ex} → peek ts ≡ see.Keyword word.Requires → Expression (drop 1 ts) x mid → peek mid ≡ see.Mark mark.Semicolon → IsLClause ts (LRequires (spot_of ts) x) (drop 1 mid)
  lensures : {ts mid : List Token} {x : Ex} → peek ts ≡ see.Keyword word.Ensures → Expression (drop 1 ts) x mid → peek mid ≡ see.Mark mark.Semicolon → IsLClause ts (LEnsures (spot_of ts) x) (drop 1 mid)
  ldecreases : {ts mid : List Token} {x : Ex} → peek ts ≡ see.Keyword word.Decreases → Expression (drop 1 ts) x mid → peek mid ≡ see.Mark mark.Semicolon → IsLClause ts (LDecreases (spot_of ts) x) (drop 1 mid)

-- a keyword, a name and an opening round bracket
pub record Head (k : Lookahead) (ts : List Token) : Type 0 where
  pub keyword : peek ts ≡ k
  pub is_name : peek (drop 1 ts) ≡ see.Name
  pub opens : peek (drop 2 ts) ≡ see.Mark mark.RoundOpen

pub data Declaration : List Token → De → List Token → Type 0 where
  procedure_ : {d : ℕ} {ts a b rest : List Token} {ps : List Param} {cs : List Cl} {body : Sts} → Head (see.Keyword word.Procedure) ts → ClosedList IsParam (drop 3 ts) ps a → Many IsClause [] a cs b → Block d b body rest → d ≤ statement_limit
      → Declaration ts (Procedure (spot_of ts) (name_of (drop 1 ts)) ps cs body) rest
  lemma_ : {d : ℕ} {ts a b rest : List Token} {bs : List Bind} {cs : List LCl} {body : LSts} → Head (see.Keyword word.Lemma) ts → ClosedList IsBind (drop 3 ts) bs a → Many IsLClause [] a cs b → LBlock d b body rest → d ≤ statement_limit
      → Declaration ts (Lemma (spot_of ts) (name_of (drop 1 ts)) bs cs body) rest
  function_ : {ts a b : List Token} {bs : List Bind} {s : SortName} {x : Ex} → Head (see.Keyword word.Function) ts → ClosedList IsBind (drop 3 ts) bs a → peek a ≡ see.Mark mark.Colon → sort_at (drop 1 a) ≡ Some s
      → peek (drop 2 a) ≡ see.Mark mark.Equals → Expression (drop 3 a) x b → peek b ≡ see.Mark mark.Semicolon
      → Declaration ts (Function (spot_of ts) (name_of (drop 1 ts)) bs s None x) (drop 1 b)
  recursive : {ts a b c : List Token} {bs : List Bind} {s : SortName} {x y : Ex} → Head (see.Keyword word.Function) ts → ClosedList IsBind (drop 3 ts) bs a → peek a ≡ see.Mark mark.Colon → sort_at (drop 1 a) ≡ Some s
      → peek (drop 2 a) ≡ see.Mark mark.BraceOpen → peek (drop 3 a) ≡ see.Keyword word.Zero → Expression (drop 4 a) x b → peek b ≡ see.Mark mark.Semicolon
      → peek (drop 1 b) ≡ see.Keyword word.Step → Expression (drop 2 b) y c → peek c ≡ see.Mark mark.Semicolon → peek (drop 1 c) ≡ see.Mark mark.BraceClose
      → Declaration ts (Function (spot_of ts) (name_of (drop 1 ts)) bs s (Some x) y) (drop 2 c)
  export_ : {ts a : List Token} {xs : List Ex} → peek ts ≡ see.Keyword word.Export → peek (drop 1 ts) ≡ see.Name → peek (drop 2 ts) ≡ see.Mark mark.Equals → peek (drop 3 ts) ≡ see.Name → peek (drop 4 ts) ≡ see.Mark mark.RoundOpen
      → ClosedList Expression (drop 5 ts) xs a → peek a ≡ see.Mark mark.Semicolon
      → Declaration ts (Export (spot_of ts) (name_of (drop 1 ts)) (name_of (drop 3 ts)) xs) (drop 1 a)

-- declarations, one behind the other, and nothing else
pub data AreDecls : List Token → List De → Type 0 where
  no_decls : AreDecls [] []
  more_decls : {ts rest : List Token} {x : De} {xs : List De} → Declaration ts x rest → AreDecls rest xs → AreDecls ts (x ∷ xs)
