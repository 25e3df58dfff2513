-- The first fault of statements, and which names are known behind them.
use Rattle.std.specs.Prelude.{List, [], ◌∷◌, length, take, Option, None, is_some, Result, Ok, if◌then◌else◌}
use Rattle.x64_syntax.specs.Words.{operation_of}
use Rattle.vale_syntax.specs.declared.expr.Name.{Name as AName}
use Rattle.vale_syntax.specs.Trees.{Ex}
use Rattle.vale_syntax.specs.Programs.{Ar, Memory, Value, St, CallStatement, Assert, Ghost, Assign, If, While, InlineIf, Sts, no_sts, more_sts, Arm, no_arm, arm, LSt, LCall, LAssert, LIf, LSts, no_lsts, more_lsts, LArm, no_larm, larm}
use Rattle.name_scopes.specs.Faults.{Fault, told_at, unless, ◌<|>◌, ◌>>=◌}
use Rattle.name_scopes.specs.Names.{Texts, Names, with_name, own_name, binding}
use Rattle.name_scopes.specs.Uses.{called_by_procedure, accessed}
use Rattle.name_scopes.specs.Expressions.{Scope, called_at, expr_fault}

-- expressions one behind the other
unfoldable pub list_fault : Scope → Texts → List Ex → Option Fault
list_fault s known [] = None
list_fault s known (x ∷ xs) = expr_fault s known x <|> list_fault s known xs

abbrev pub own_at : Scope → Names → AName → Option Fault
own_at s names n = told_at n.spot (own_name s.of names n.text)

abbrev pub accessed_at : Scope → Texts → AName → Option Fault
accessed_at s known n = told_at n.spot (accessed (binding s.of known n.text))

-- an instruction, a procedure or a lemma
abbrev pub callee_at : Scope → Texts → AName → Option Fault
callee_at s known n = if is_some (operation_of n.text) then None else told_at n.spot (called_by_procedure (binding s.of known n.text))

-- an argument of a statement
abbrev pub arg_fault : Scope → Texts → Ar → Option Fault
arg_fault s known (Memory b i a) = accessed_at s known b <|> expr_fault s known i <|> list_fault s known a
arg_fault s known (Value x) = expr_fault s known x

unfoldable pub args_fault : Scope → Texts → List Ar → Option Fault
args_fault s known [] = None
args_fault s known (a ∷ as_) = arg_fault s known a <|> args_fault s known as_

-- Statements in braces: behind them those names are known that were before.
abbrev pub braced : Names → Result Names Fault → Result Names Fault
braced names inside = inside >>= λ m. Ok (record { declared = m.declared; known = take (length names.known) m.known })

unfoldable mutual
  -- a `ghost` variable is known behind its own statement, to the end of its brace
  pub stmt_names : Scope → Names → St → Result Names Fault
  stmt_names s names (CallStatement n a) = unless (callee_at s names.known n <|> args_fault s names.known a) names
  stmt_names s names (Assert p x) = unless (expr_fault s names.known x) names
  stmt_names s names (Ghost p n t x) = unless (own_at s names n <|> expr_fault s names.known x) (with_name names n.text)
  stmt_names s names (Assign n x) = unless (accessed_at s names.known n <|> expr_fault s names.known x) names
  stmt_names s names (If p t xs y) = unless (expr_fault s names.known t) names >>= λ m. braced m (stmts_names s m xs) >>= λ m. arm_names s m y
  stmt_names s names (While p t is d xs) = unless (expr_fault s names.known t <|> list_fault s names.known is <|> expr_fault s names.known d) names >>= λ m. braced m (stmts_names s m xs)
  stmt_names s names (InlineIf p t xs y) = unless (expr_fault s names.known t) names >>= λ m. braced m (stmts_names s m xs) >>= λ m. arm_names s m y

  pub stmts_names : Scope → Names → Sts → Result Names Fault
  stmts_names s names no_sts = Ok names
  stmts_names s names (more_sts x xs) = stmt_names s names x >>= λ m. stmts_names s m xs

  pub arm_names : Scope → Names → Arm → Result Names Fault
  arm_names s names no_arm = Ok names
  arm_names s names (arm xs) = braced names (stmts_names s names xs)

unfoldable mutual
  -- a lemma's statements declare nothing
  pub lstmt_fault : Scope → Texts → LSt → Option Fault
  lstmt_fault s known (LCall n a) = called_at s known n <|> list_fault s known a
  lstmt_fault s known (LAssert p x) = expr_fault s known x
  lstmt_fault s known (LIf p t xs y) = expr_fault s known t <|> lstmts_fault s known xs <|> larm_fault s known y

  pub lstmts_fault : Scope → Texts → LSts → Option Fault
  lstmts_fault s known no_lsts = None
  lstmts_fault s known (more_lsts x xs) = lstmt_fault s known x <|> lstmts_fault s known xs

  pub larm_fault : Scope → Texts → LArm → Option Fault
  larm_fault s known no_larm = None
  larm_fault s known (larm xs) = lstmts_fault s known xs
