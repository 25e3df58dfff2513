-- The first fault of an expression.
use Rattle.std.specs.Prelude.{ℕ, ◌+◌, ◌==◌, List, [], ◌∷◌, ◌++◌, Option, Some, None, if◌then◌else◌}
use Rattle.x64_syntax.specs.declared.built_in.BuiltIn.{BuiltIn}
use Rattle.x64_syntax.specs.declared.built_in.BuiltIn.TheVariants.{ForAll}
use Rattle.x64_syntax.specs.Words.{built_in_of}
use Rattle.vale_syntax.specs.declared.expr.Name.{Name as AName}
use Rattle.vale_syntax.specs.Trees.{Ex, Exs, none, more, Int, Word, Wide, True, False, Prev, Name, Call, Index, Unary, Binary}
use Rattle.name_scopes.specs.declared.home.Home.{Home}
use Rattle.name_scopes.specs.Faults.{Fault, told_at, ◌<|>◌}
use Rattle.name_scopes.specs.Globals.{Table}
use Rattle.name_scopes.specs.Names.{Texts, bound_name, binding}
use Rattle.name_scopes.specs.Uses.{alone, called}

-- the names of all files, and the declaration that one is in
pub record Scope : Type 0 where
  pub of : Table
  pub home : Home

abbrev pub alone_at : Scope → Texts → AName → Option Fault
alone_at s known n = told_at n.spot (alone s.home (binding s.of known n.text))

abbrev pub called_at : Scope → Texts → AName → Option Fault
called_at s known n = told_at n.spot (called s.home (binding s.of known n.text))

abbrev pub bound_at : Scope → Texts → AName → Option Fault
bound_at s known n = told_at n.spot (bound_name s.of known n.text)

-- a call: of no operator of the language, of `forall`, or of another operator
abbrev pub call_fault : Option BuiltIn → Option Fault → Option Fault → Option Fault → Option Fault
call_fault None named args bound = named <|> args
call_fault (Some ForAll) named args bound = bound
call_fault (Some _) named args bound = args

-- the name that an expression is
abbrev pub name_alone : Ex → Option AName
name_alone (Name n) = Some n
name_alone _ = None

-- the first argument of `forall`: a name is declared there, and the others may know it
abbrev pub bound_by : Scope → Texts → Option AName → Option Fault → (List ℕ → Option Fault) → Option Fault
bound_by s known (Some i) args others = bound_at s known i <|> others i.text
bound_by s known None args others = args

-- what is known in an argument of `forall`, of that number from 0: the fourth alone knows the name
abbrev pub known_in : Texts → List ℕ → ℕ → Texts
known_in known i k = if k == 3 then known ++ i ∷ [] else known

unfoldable mutual
  -- each name is judged where it stands, the left ones first
  pub expr_fault : Scope → Texts → Ex → Option Fault
  expr_fault s known (Int p z) = None
  expr_fault s known (Word p n) = None
  expr_fault s known (Wide p n) = None
  expr_fault s known (True p) = None
  expr_fault s known (False p) = None
  expr_fault s known (Prev p) = None
  expr_fault s known (Name n) = alone_at s known n
  expr_fault s known (Call f xs) = call_fault (built_in_of f.text) (called_at s known f) (exprs_fault s known xs) (forall_fault s known xs)
  expr_fault s known (Index p x i) = expr_fault s known x <|> expr_fault s known i
  expr_fault s known (Unary p o x) = expr_fault s known x
  expr_fault s known (Binary p o x y) = expr_fault s known x <|> expr_fault s known y

  pub exprs_fault : Scope → Texts → Exs → Option Fault
  exprs_fault s known none = None
  exprs_fault s known (more x xs) = expr_fault s known x <|> exprs_fault s known xs

  -- `forall(i, lo, hi, p)`
  pub forall_fault : Scope → Texts → Exs → Option Fault
  forall_fault s known none = None
  forall_fault s known (more x xs) = bound_by s known (name_alone x) (expr_fault s known x <|> exprs_fault s known xs) (λ i. range_fault s known i 1 xs)

  -- arguments of `forall` behind the name, numbered from k on
  pub range_fault : Scope → Texts → List ℕ → ℕ → Exs → Option Fault
  range_fault s known i k none = None
  range_fault s known i k (more x xs) = expr_fault s (known_in known i k) x <|> range_fault s known i (k + 1) xs
