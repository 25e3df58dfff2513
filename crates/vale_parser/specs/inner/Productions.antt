-- The thing of each production that tokens begin with, found by looking ahead; `read_decls` gives it, and it is the one that they spell.
use Rattle.std.specs.Prelude.{ℕ, zero, suc, max, Bool, true, false, ◌&&◌, List, [], length, drop, Option, Some, None, if◌then◌else◌}
use Rattle.std.specs.List.{list_all}
use Rattle.x64_syntax.specs.declared.keywords.Keyword.TheVariants as word
use Rattle.x64_syntax.specs.declared.type_words.Sort.{Sort}
use Rattle.x64_syntax.specs.declared.type_words.Sort.TheVariants as sort
use Rattle.vale_syntax.specs.declared.spot.Spot.{Spot}
use Rattle.vale_syntax.specs.declared.token.Token.{Token}
use Rattle.vale_syntax.specs.declared.mark.Mark.TheVariants as mark
use Rattle.vale_syntax.specs.declared.lookahead.Lookahead.{Lookahead}
use Rattle.vale_syntax.specs.declared.lookahead.Lookahead.TheVariants as see
use Rattle.vale_syntax.specs.declared.expr.Name.{Name}
use Rattle.vale_syntax.specs.declared.statement.SortName.{SortName}
use Rattle.vale_syntax.specs.declared.declaration.KindName.{KindName}
use Rattle.vale_syntax.specs.declared.declaration.Direction.{Direction}
use Rattle.vale_syntax.specs.declared.declaration.Direction.TheVariants as direction
use Rattle.vale_syntax.specs.declared.declaration.Bind.{Bind}
use Rattle.vale_syntax.specs.declared.declaration.Param.{Param}
use Rattle.vale_syntax.specs.declared.declaration.Param.TheVariants as param
use Rattle.vale_syntax.specs.declared.declaration.ReadPlace.{ReadPlace}
use Rattle.vale_syntax.specs.Peek.{peek, spot_of}
use Rattle.vale_syntax.specs.Trees.{Ex}
use Rattle.vale_syntax.specs.Expressions.{name_of}
use Rattle.vale_syntax.specs.Programs.{Ar, Memory, Value, St, Sts, no_sts, Arm, no_arm, arm, CallStatement, Assert, Ghost, Assign, If, While, InlineIf, LSt, LSts, no_lsts, LArm, no_larm, larm, LCall, LAssert, LIf, Cl, Reads, Modifies, Requires, Ensures, Stack, Abi, LCl, LRequires, LEnsures, LDecreases, De, Procedure, Lemma, Function, Export}
use Rattle.vale_syntax.specs.Statements.{is_plain, tokens_before, sort_at, sts_last, lsts_last, statement_limit}
use Rattle.vale_syntax.specs.Declarations.{kind_at, abi_at}
use Rattle.expr_parser.specs.inner.Reads.{expression as expression_front}
use Rattle.vale_syntax.specs.inner.Marks.{is_mark}
use Rattle.vale_parser.specs.inner.Parts.{bind as and_then, Parser, expect, before, comma_list, closed_list, many}

-- words
abbrev pub is_name : Lookahead → Bool
is_name see.Name = true
is_name _ = false

abbrev pub is_if : Lookahead → Bool
is_if (see.Keyword word.If) = true
is_if _ = false

abbrev pub is_else : Lookahead → Bool
is_else (see.Keyword word.Else) = true
is_else _ = false

abbrev pub is_invariant : Lookahead → Bool
is_invariant (see.Keyword word.Invariant) = true
is_invariant _ = false

abbrev pub is_decreases : Lookahead → Bool
is_decreases (see.Keyword word.Decreases) = true
is_decreases _ = false

abbrev pub is_secret : Lookahead → Bool
is_secret (see.Keyword word.Secret) = true
is_secret _ = false

abbrev pub is_zero : Lookahead → Bool
is_zero (see.Keyword word.Zero) = true
is_zero _ = false

abbrev pub is_step : Lookahead → Bool
is_step (see.Keyword word.Step) = true
is_step _ = false

abbrev pub only_if : {A : Type 0} → Bool → Option A → Option A
only_if true o = o
only_if false o = None

abbrev pub name : Parser Name
name ts = only_if (is_name (peek ts)) (Some (name_of ts, drop 1 ts))

-- an expression, where it has no stamped names
abbrev pub plain_only : List Token → Ex × List Token → Option (Ex × List Token)
plain_only ts p = only_if (list_all is_plain (tokens_before p.1 ts)) (Some p)

abbrev pub expression : Parser Ex
expression ts = and_then (expression_front ts) (plain_only ts)

-- `x: sort`, behind the name
abbrev pub sort_behind : List Token → Option (SortName × List Token)
sort_behind ts = and_then (expect mark.Colon ts) (λ rest. and_then (sort_at rest) (λ s. Some (s, drop 1 rest)))

abbrev pub kind_behind : List Token → Option (KindName × List Token)
kind_behind ts = and_then (expect mark.Colon ts) (λ rest. and_then (kind_at rest) (λ k. Some (k, drop 1 rest)))

unfoldable pub bind : Parser Bind
bind ts = and_then (name ts) (λ n. and_then (sort_behind n.1) (λ s. Some (record { name = n.0; sort = s.0 }, s.1)))

abbrev pub place_at : Spot → Bool → List Token → Option (ReadPlace × List Token)
place_at s b ts = and_then (name ts) (λ n. Some (record { spot = s; is_secret = b; name = n.0 }, n.1))

unfoldable pub place : Parser ReadPlace
place ts = if is_secret (peek ts) then place_at (spot_of ts) true (drop 1 ts) else place_at (spot_of ts) false ts

-- parameters, by their first words
abbrev pub operand_at : Spot → Bool → Direction → List Token → Option (Param × List Token)
operand_at s b d ts = and_then (name ts) (λ n. and_then (kind_behind n.1) (λ k. Some (param.Operand s b d n.0 k.0, k.1)))

abbrev pub out_at : Spot → List Token → Option (Param × List Token)
out_at s ts = and_then (name ts) (λ n. and_then (kind_behind n.1) (λ k. Some (param.Out s n.0 k.0, k.1)))

-- an `inline` parameter is a whole number
abbrev pub inline_by : Sort → Param × List Token → Option (Param × List Token)
inline_by sort.Int found = Some found
inline_by _ found = None

abbrev pub inline_at : Spot → List Token → Option (Param × List Token)
inline_at s ts = and_then (name ts) (λ n. and_then (sort_behind n.1) (λ t. inline_by t.0.sort (param.Inline s n.0, t.1)))

abbrev pub ghost_at : Spot → List Token → Option (Param × List Token)
ghost_at s ts = and_then (name ts) (λ n. and_then (sort_behind n.1) (λ t. Some (param.Ghost s n.0 t.0, t.1)))

abbrev pub block_at : Spot → Bool → List Token → Option (Param × List Token)
block_at s b ts = and_then (name ts) (λ n. Some (param.Block s b n.0, n.1))

-- a parameter that may be secret
abbrev pub secret_param_by : Spot → Bool → Lookahead → List Token → Option (Param × List Token)
secret_param_by s b (see.Keyword word.In) ts = operand_at s b direction.In ts
secret_param_by s b (see.Keyword word.InOut) ts = operand_at s b direction.InOut ts
secret_param_by s b (see.Keyword word.Block) ts = block_at s b ts
secret_param_by s b _ ts = None

abbrev pub secret_param : Spot → Bool → List Token → Option (Param × List Token)
secret_param s b ts = secret_param_by s b (peek ts) (drop 1 ts)

abbrev pub param_by : Lookahead → List Token → Option (Param × List Token)
param_by (see.Keyword word.Secret) ts = secret_param (spot_of ts) true (drop 1 ts)
param_by (see.Keyword word.Out) ts = out_at (spot_of ts) (drop 1 ts)
param_by (see.Keyword word.Inline) ts = inline_at (spot_of ts) (drop 1 ts)
param_by (see.Keyword word.Ghost) ts = ghost_at (spot_of ts) (drop 1 ts)
param_by _ ts = secret_param (spot_of ts) false ts

unfoldable pub parameter : Parser Param
parameter ts = param_by (peek ts) ts

-- an argument
abbrev pub memory_at : Name → Ex → List Token → Option (Ar × List Token)
memory_at b i ts = and_then (expect mark.RoundOpen ts) (λ rest. and_then (before mark.RoundClose (comma_list expression rest)) (λ a. Some (Memory b i a.0, a.1)))

abbrev pub value_at : List Token → Option (Ar × List Token)
value_at ts = and_then (expression ts) (λ x. Some (Value x.0, x.1))

-- behind the index of a name, by whether `] @` follows
abbrev pub argument_by : Option (Ex × List Token) → List Token → Option (Ar × List Token)
argument_by (Some (i, rest)) ts = if is_mark mark.SquareClose (peek rest) && is_mark mark.At (peek (drop 1 rest)) then memory_at (name_of ts) i (drop 2 rest) else value_at ts
argument_by None ts = value_at ts

unfoldable pub argument : Parser Ar
argument ts = if is_name (peek ts) && is_mark mark.SquareOpen (peek (drop 1 ts)) then argument_by (expression (drop 2 ts)) ts else value_at ts

-- a keyword, an expression and a semicolon
abbrev pub expression_end : List Token → Option (Ex × List Token)
expression_end ts = before mark.Semicolon (expression (drop 1 ts))

unfoldable pub invariant_ : Parser Ex
invariant_ ts = only_if (is_invariant (peek ts)) (expression_end ts)

-- `(t)`
abbrev pub test : Parser Ex
test ts = and_then (expect mark.RoundOpen ts) (λ rest. before mark.RoundClose (expression rest))

-- statements that have none inside
abbrev pub call_at : List Token → Option (St × List Token)
call_at ts = and_then (before mark.Semicolon (closed_list argument (drop 2 ts))) (λ a. Some (CallStatement (name_of ts) a.0, a.1))

abbrev pub assign_at : List Token → Option (St × List Token)
assign_at ts = and_then (before mark.Semicolon (expression (drop 2 ts))) (λ x. Some (Assign (name_of ts) x.0, x.1))

abbrev pub call_or_assign : Lookahead → List Token → Option (St × List Token)
call_or_assign (see.Mark mark.RoundOpen) ts = call_at ts
call_or_assign (see.Mark mark.Assign) ts = assign_at ts
call_or_assign _ ts = None

abbrev pub ghost_statement : List Token → Option (St × List Token)
ghost_statement ts =
    and_then (name (drop 1 ts)) (λ n. and_then (sort_behind n.1) (λ s. and_then (expect mark.Equals s.1) (λ rest.
    and_then (before mark.Semicolon (expression rest)) (λ x. Some (Ghost (spot_of ts) n.0 s.0 x.0, x.1)))))

abbrev pub simple_by : Lookahead → List Token → Option (St × List Token)
simple_by see.Name ts = call_or_assign (peek (drop 1 ts)) ts
simple_by (see.Keyword word.Assert) ts = and_then (expression_end ts) (λ x. Some (Assert (spot_of ts) x.0, x.1))
simple_by (see.Keyword word.Ghost) ts = ghost_statement ts
simple_by _ ts = None

unfoldable pub simple : Parser St
simple ts = simple_by (peek ts) ts

-- a statement, its depth, and the tokens behind it
pub record StatementParse : Type 0 where
  pub tree : St
  pub height : ℕ
  pub rest : List Token

pub record BodyParse : Type 0 where
  pub trees : Sts
  pub height : ℕ
  pub rest : List Token

pub record ElseParse : Type 0 where
  pub arm : Arm
  pub height : ℕ
  pub rest : List Token

abbrev pub statement_parse : St → ℕ → List Token → StatementParse
statement_parse x d ts = record { tree = x; height = d; rest = ts }

abbrev pub body_parse : Sts → ℕ → List Token → BodyParse
body_parse xs d ts = record { trees = xs; height = d; rest = ts }

abbrev pub else_parse : Arm → ℕ → List Token → ElseParse
else_parse y d ts = record { arm = y; height = d; rest = ts }

abbrev pub Statements : Type 0
Statements = List Token → Option StatementParse

-- the statements behind some, as far as the closing brace
unfoldable pub body : Statements → ℕ → Sts → ℕ → List Token → Option BodyParse
body sub zero xs d ts = None
body sub (suc n) xs d ts = if is_mark mark.BraceClose (peek ts) then Some (body_parse xs d (drop 1 ts)) else and_then (sub ts) (λ s. body sub n (sts_last xs s.tree) (max d s.height) s.rest)

abbrev pub block : Statements → List Token → Option BodyParse
block sub ts = and_then (expect mark.BraceOpen ts) (λ rest. body sub (length rest) no_sts 0 rest)

abbrev pub else_by : Statements → List Token → Option ElseParse
else_by sub ts = if is_else (peek ts) then and_then (block sub (drop 1 ts)) (λ b. Some (else_parse (arm b.trees) b.height b.rest)) else Some (else_parse no_arm 0 ts)

-- both arms behind a test, with the depth of the whole
pub record Branches : Type 0 where
  pub first : Sts
  pub second : Arm
  pub height : ℕ
  pub rest : List Token

abbrev pub branches : Sts → Arm → ℕ → List Token → Branches
branches xs y d ts = record { first = xs; second = y; height = d; rest = ts }

abbrev pub arms : Statements → List Token → Option Branches
arms sub ts = and_then (block sub ts) (λ b. and_then (else_by sub b.rest) (λ e. Some (branches b.trees e.arm (suc (max b.height e.height)) e.rest)))

abbrev pub if_at : Statements → Spot → Option (Ex × List Token) → Option StatementParse
if_at sub s found = and_then found (λ t. and_then (arms sub t.1) (λ a. Some (statement_parse (If s t.0 a.first a.second) a.height a.rest)))

abbrev pub inline_if_at : Statements → Spot → Option (Ex × List Token) → Option StatementParse
inline_if_at sub s found = and_then found (λ t. and_then (arms sub t.1) (λ a. Some (statement_parse (InlineIf s t.0 a.first a.second) a.height a.rest)))

abbrev pub loop_at : Statements → Spot → Ex × List Token → Option StatementParse
loop_at sub s t =
    and_then (many is_invariant invariant_ (length t.1) [] t.1) (λ is. and_then (only_if (is_decreases (peek is.1)) (expression_end is.1)) (λ m.
    and_then (block sub m.1) (λ b. Some (statement_parse (While s t.0 is.0 m.0 b.trees) (suc b.height) b.rest))))

abbrev pub shallow_statement : Option (St × List Token) → Option StatementParse
shallow_statement found = and_then found (λ x. Some (statement_parse x.0 1 x.1))

abbrev pub statement_by : Statements → Lookahead → List Token → Option StatementParse
statement_by sub (see.Keyword word.If) ts = if_at sub (spot_of ts) (test (drop 1 ts))
statement_by sub (see.Keyword word.While) ts = and_then (test (drop 1 ts)) (loop_at sub (spot_of ts))
statement_by sub (see.Keyword word.Inline) ts = inline_if_at sub (spot_of ts) (only_if (is_if (peek (drop 1 ts))) (test (drop 2 ts)))
statement_by sub _ ts = shallow_statement (simple ts)

-- a statement with a depth of at most so many
unfoldable pub statement : ℕ → List Token → Option StatementParse
statement zero ts = None
statement (suc b) ts = statement_by (statement b) (peek ts) ts

-- the same for lemmas
pub record LStatementParse : Type 0 where
  pub tree : LSt
  pub height : ℕ
  pub rest : List Token

pub record LBodyParse : Type 0 where
  pub trees : LSts
  pub height : ℕ
  pub rest : List Token

pub record LElseParse : Type 0 where
  pub arm : LArm
  pub height : ℕ
  pub rest : List Token

abbrev pub lstatement_parse : LSt → ℕ → List Token → LStatementParse
lstatement_parse x d ts = record { tree = x; height = d; rest = ts }

abbrev pub lbody_parse : LSts → ℕ → List Token → LBodyParse
lbody_parse xs d ts = record { trees = xs; height = d; rest = ts }

abbrev pub lelse_parse : LArm → ℕ → List Token → LElseParse
lelse_parse y d ts = record { arm = y; height = d; rest = ts }

abbrev pub LStatements : Type 0
LStatements = List Token → Option LStatementParse

unfoldable pub lbody : LStatements → ℕ → LSts → ℕ → List Token → Option LBodyParse
lbody sub zero xs d ts = None
lbody sub (suc n) xs d ts = if is_mark mark.BraceClose (peek ts) then Some (lbody_parse xs d (drop 1 ts)) else and_then (sub ts) (λ s. lbody sub n (lsts_last xs s.tree) (max d s.height) s.rest)

abbrev pub lblock : LStatements → List Token → Option LBodyParse
lblock sub ts = and_then (expect mark.BraceOpen ts) (λ rest. lbody sub (length rest) no_lsts 0 rest)

abbrev pub lelse_by : LStatements → List Token → Option LElseParse
lelse_by sub ts = if is_else (peek ts) then and_then (lblock sub (drop 1 ts)) (λ b. Some (lelse_parse (larm b.trees) b.height b.rest)) else Some (lelse_parse no_larm 0 ts)

pub record LBranches : Type 0 where
  pub first : LSts
  pub second : LArm
  pub height : ℕ
  pub rest : List Token

abbrev pub lbranches : LSts → LArm → ℕ → List Token → LBranches
lbranches xs y d ts = record { first = xs; second = y; height = d; rest = ts }

abbrev pub larms : LStatements → List Token → Option LBranches
larms sub ts = and_then (lblock sub ts) (λ b. and_then (lelse_by sub b.rest) (λ e. Some (lbranches b.trees e.arm (suc (max b.height e.height)) e.rest)))

abbrev pub lif_at : LStatements → Spot → Option (Ex × List Token) → Option LStatementParse
lif_at sub s found = and_then found (λ t. and_then (larms sub t.1) (λ a. Some (lstatement_parse (LIf s t.0 a.first a.second) a.height a.rest)))

abbrev pub lcall : List Token → Option LStatementParse
lcall ts = and_then (expect mark.RoundOpen (drop 1 ts)) (λ rest. and_then (before mark.Semicolon (closed_list expression rest)) (λ a. Some (lstatement_parse (LCall (name_of ts) a.0) 1 a.1)))

abbrev pub lstatement_by : LStatements → Lookahead → List Token → Option LStatementParse
lstatement_by sub see.Name ts = lcall ts
lstatement_by sub (see.Keyword word.Assert) ts = and_then (expression_end ts) (λ x. Some (lstatement_parse (LAssert (spot_of ts) x.0) 1 x.1))
lstatement_by sub (see.Keyword word.If) ts = lif_at sub (spot_of ts) (test (drop 1 ts))
lstatement_by sub _ ts = None

unfoldable pub lstatement : ℕ → List Token → Option LStatementParse
lstatement zero ts = None
lstatement (suc b) ts = lstatement_by (lstatement b) (peek ts) ts

-- clauses
abbrev pub begins_clause : Lookahead → Bool
begins_clause (see.Keyword word.Reads) = true
begins_clause (see.Keyword word.Modifies) = true
begins_clause (see.Keyword word.Requires) = true
begins_clause (see.Keyword word.Ensures) = true
begins_clause (see.Keyword word.Stack) = true
begins_clause (see.Keyword word.Abi) = true
begins_clause _ = false

abbrev pub abi_clause : Spot → List Token → Option (Cl × List Token)
abi_clause s ts = and_then (abi_at ts) (λ a. and_then (expect mark.Semicolon (drop 1 ts)) (λ rest. Some (Abi s a, rest)))

abbrev pub reads_clause : List Token → Option (Cl × List Token)
reads_clause ts = and_then (before mark.Semicolon (comma_list place (drop 1 ts))) (λ p. Some (Reads (spot_of ts) p.0, p.1))

abbrev pub modifies_clause : List Token → Option (Cl × List Token)
modifies_clause ts = and_then (before mark.Semicolon (comma_list name (drop 1 ts))) (λ p. Some (Modifies (spot_of ts) p.0, p.1))

abbrev pub clause_by : Lookahead → List Token → Option (Cl × List Token)
clause_by (see.Keyword word.Reads) ts = reads_clause ts
clause_by (see.Keyword word.Modifies) ts = modifies_clause ts
clause_by (see.Keyword word.Requires) ts = and_then (expression_end ts) (λ x. Some (Requires (spot_of ts) x.0, x.1))
clause_by (see.Keyword word.Ensures) ts = and_then (expression_end ts) (λ x. Some (Ensures (spot_of ts) x.0, x.1))
clause_by (see.Keyword word.Stack) ts = and_then (expression_end ts) (λ x. Some (Stack (spot_of ts) x.0, x.1))
clause_by (see.Keyword word.Abi) ts = abi_clause (spot_of ts) (drop 1 ts)
clause_by _ ts = None

unfoldable pub clause : Parser Cl
clause ts = clause_by (peek ts) ts

abbrev pub begins_lclause : Lookahead → Bool
begins_lclause (see.Keyword word.Requires) = true
begins_lclause (see.Keyword word.Ensures) = true
begins_lclause (see.Keyword word.Decreases) = true
begins_lclause _ = false

abbrev pub lclause_by : Lookahead → List Token → Option (LCl × List Token)
lclause_by (see.Keyword word.Requires) ts = and_then (expression_end ts) (λ x. Some (LRequires (spot_of ts) x.0, x.1))
lclause_by (see.Keyword word.Ensures) ts = and_then (expression_end ts) (λ x. Some (LEnsures (spot_of ts) x.0, x.1))
lclause_by (see.Keyword word.Decreases) ts = and_then (expression_end ts) (λ x. Some (LDecreases (spot_of ts) x.0, x.1))
lclause_by _ ts = None

unfoldable pub lclause : Parser LCl
lclause ts = lclause_by (peek ts) ts

-- declarations; behind the keyword, a name and an opening round bracket
abbrev pub head : List Token → Option (Name × List Token)
head ts = before mark.RoundOpen (name (drop 1 ts))

abbrev pub procedure_ : Parser De
procedure_ ts =
    and_then (head ts) (λ n. and_then (closed_list parameter n.1) (λ ps. and_then (many begins_clause clause (length ps.1) [] ps.1) (λ cs.
    and_then (block (statement statement_limit) cs.1) (λ b. Some (Procedure (spot_of ts) n.0 ps.0 cs.0 b.trees, b.rest)))))

abbrev pub lemma_ : Parser De
lemma_ ts =
    and_then (head ts) (λ n. and_then (closed_list bind n.1) (λ bs. and_then (many begins_lclause lclause (length bs.1) [] bs.1) (λ cs.
    and_then (lblock (lstatement statement_limit) cs.1) (λ b. Some (Lemma (spot_of ts) n.0 bs.0 cs.0 b.trees, b.rest)))))

-- what stands before a function's value
pub record Header : Type 0 where
  pub spot : Spot
  pub name : Name
  pub binds : List Bind
  pub sort : SortName

abbrev pub header : Spot → Name → List Bind → SortName → Header
header s n bs t = record { spot = s; name = n; binds = bs; sort = t }

abbrev pub plain_at : Header → List Token → Option (De × List Token)
plain_at h ts = and_then (expression_end ts) (λ x. Some (Function h.spot h.name h.binds h.sort None x.0, x.1))

-- what stands behind the value at zero of a recursive function
abbrev pub step_at : Header → Ex × List Token → Option (De × List Token)
step_at h x =
    and_then (only_if (is_step (peek x.1)) (expression_end x.1)) (λ y.
    and_then (expect mark.BraceClose y.1) (λ rest. Some (Function h.spot h.name h.binds h.sort (Some x.0) y.0, rest)))

-- the parts of a recursive function, in braces
abbrev pub parts_at : Header → List Token → Option (De × List Token)
parts_at h ts = and_then (only_if (is_zero (peek ts)) (expression_end ts)) (step_at h)

abbrev pub result_by : Header → Lookahead → List Token → Option (De × List Token)
result_by h (see.Mark mark.Equals) ts = plain_at h ts
result_by h (see.Mark mark.BraceOpen) ts = parts_at h (drop 1 ts)
result_by h _ ts = None

abbrev pub result_at : Header → List Token → Option (De × List Token)
result_at h ts = result_by h (peek ts) ts

abbrev pub function_ : Parser De
function_ ts = and_then (head ts) (λ n. and_then (closed_list bind n.1) (λ bs. and_then (sort_behind bs.1) (λ s. result_at (header (spot_of ts) n.0 bs.0 s.0) s.1)))

abbrev pub export_ : Parser De
export_ ts =
    and_then (before mark.Equals (name (drop 1 ts))) (λ n. and_then (before mark.RoundOpen (name n.1)) (λ p.
    and_then (before mark.Semicolon (closed_list expression p.1)) (λ xs. Some (Export (spot_of ts) n.0 p.0 xs.0, xs.1))))

abbrev pub declaration_by : Lookahead → List Token → Option (De × List Token)
declaration_by (see.Keyword word.Procedure) ts = procedure_ ts
declaration_by (see.Keyword word.Lemma) ts = lemma_ ts
declaration_by (see.Keyword word.Function) ts = function_ ts
declaration_by (see.Keyword word.Export) ts = export_ ts
declaration_by _ ts = None

unfoldable pub declaration : Parser De
declaration ts = declaration_by (peek ts) ts
