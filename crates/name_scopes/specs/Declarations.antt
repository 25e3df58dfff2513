-- The first fault of a declaration.
use Rattle.std.specs.Prelude.{ℕ, Bool, true, false, not, ◌==◌, List, [], ◌∷◌, map, Option, Some, None, Result, Ok, if◌then◌else◌}
use Rattle.x64_syntax.specs.Words.{is_export_text}
use Rattle.vale_syntax.specs.declared.expr.Name.{Name as AName}
use Rattle.vale_syntax.specs.declared.declaration.Bind.{Bind}
use Rattle.vale_syntax.specs.declared.declaration.Param.{Param}
use Rattle.vale_syntax.specs.declared.declaration.Param.TheVariants as param
use Rattle.vale_syntax.specs.Trees.{Ex}
use Rattle.vale_syntax.specs.Programs.{Sts, LSts, Cl, Reads, Modifies, Requires, Ensures, Stack, Abi, LCl, LRequires, LEnsures, LDecreases, De, Procedure, Lemma, Function, Export}
use Rattle.name_scopes.specs.declared.fault.ScopeFault.TheVariants.{Reserved, Twice}
use Rattle.name_scopes.specs.declared.globals.GlobalDecl.{GlobalDecl}
use Rattle.name_scopes.specs.declared.home.Home.{Home}
use Rattle.name_scopes.specs.declared.home.Home.TheVariants as home
use Rattle.name_scopes.specs.Faults.{Fault, told_at, once, unless, fault_of, ◌<|>◌, ◌>>=◌}
use Rattle.name_scopes.specs.Globals.{Table}
use Rattle.name_scopes.specs.Names.{Texts, has, Names, no_names, with_name, new_name, binding}
use Rattle.name_scopes.specs.Uses.{listed}
use Rattle.name_scopes.specs.Expressions.{Scope, called_at, expr_fault}
use Rattle.name_scopes.specs.Statements.{list_fault, own_at, stmts_names, lstmts_fault}

-- names of parameters, one behind the other
unfoldable pub params_names : Scope → Names → List AName → Result Names Fault
params_names s names [] = Ok names
params_names s names (n ∷ ns) = unless (own_at s names n) (with_name names n.text) >>= λ m. params_names s m ns

abbrev pub param_name : Param → AName
param_name (param.Operand s b d n k) = n
param_name (param.Out s n k) = n
param_name (param.Inline s n) = n
param_name (param.Ghost s n t) = n
param_name (param.Block s b n) = n

-- names in `reads` or `modifies`
unfoldable pub listed_fault : Scope → Texts → List AName → Option Fault
listed_fault s known [] = None
listed_fault s known (n ∷ ns) = told_at n.spot (listed (binding s.of known n.text)) <|> listed_fault s known ns

-- clauses of a procedure, where a `stack` and an `abi` may have stood already
unfoldable pub clauses_fault : Scope → Texts → Bool → Bool → List Cl → Option Fault
clauses_fault s known stack abi [] = None
clauses_fault s known stack abi (Reads p rs ∷ cs) = listed_fault s known (map (λ r. r.name) rs) <|> clauses_fault s known stack abi cs
clauses_fault s known stack abi (Modifies p ns ∷ cs) = listed_fault s known ns <|> clauses_fault s known stack abi cs
clauses_fault s known stack abi (Requires p x ∷ cs) = expr_fault s known x <|> clauses_fault s known stack abi cs
clauses_fault s known stack abi (Ensures p x ∷ cs) = expr_fault s known x <|> clauses_fault s known stack abi cs
clauses_fault s known stack abi (Stack p x ∷ cs) = once stack p <|> expr_fault s known x <|> clauses_fault s known true abi cs
clauses_fault s known stack abi (Abi p a ∷ cs) = once abi p <|> clauses_fault s known stack true cs

-- clauses of a lemma, where a `decreases` may have stood already
unfoldable pub lclauses_fault : Scope → Texts → Bool → List LCl → Option Fault
lclauses_fault s known decreases [] = None
lclauses_fault s known decreases (LRequires p x ∷ cs) = expr_fault s known x <|> lclauses_fault s known decreases cs
lclauses_fault s known decreases (LEnsures p x ∷ cs) = expr_fault s known x <|> lclauses_fault s known decreases cs
lclauses_fault s known decreases (LDecreases p x ∷ cs) = once decreases p <|> expr_fault s known x <|> lclauses_fault s known true cs

-- the declaration of number k has a name that stands for another
abbrev pub is_another : ℕ → Option GlobalDecl → Bool
is_another k None = false
is_another k (Some g) = not (g.number == k)

abbrev pub global_at : Table → ℕ → AName → Option Fault
global_at of k n = told_at n.spot (new_name (is_another k (of n.text)) n.text)

abbrev pub export_at : Texts → AName → Option Fault
export_at exports n = told_at n.spot (if not (is_export_text n.text) then Some Reserved else if has exports n.text then Some Twice else None)

abbrev pub procedure_fault : Scope → List Param → List Cl → Sts → Option Fault
procedure_fault s ps cs b =
    fault_of (params_names s no_names (map param_name ps) >>= λ names. unless (clauses_fault s names.known false false cs) names >>= λ names. stmts_names s names b)

abbrev pub lemma_fault : Scope → List Bind → List LCl → LSts → Option Fault
lemma_fault s bs cs b =
    fault_of (params_names s no_names (map (λ b. b.name) bs) >>= λ names. unless (lclauses_fault s names.known false cs <|> lstmts_fault s names.known b) names)

-- the part `zero`, where there is one
abbrev pub zero_fault : Scope → Texts → Option Ex → Option Fault
zero_fault s known None = None
zero_fault s known (Some x) = expr_fault s known x

abbrev pub function_fault : Scope → List Bind → Option Ex → Ex → Option Fault
function_fault s bs z x = fault_of (params_names s no_names (map (λ b. b.name) bs) >>= λ names. unless (zero_fault s names.known z <|> expr_fault s names.known x) names)

abbrev pub scope_of : Table → Home → Scope
scope_of of h = record { of = of; home = h }

-- the declaration of number k, behind exports of those names
unfoldable pub decl_fault : Table → Texts → ℕ → De → Option Fault
decl_fault of exports k (Procedure p n ps cs b) = global_at of k n <|> procedure_fault (scope_of of home.Procedure) ps cs b
decl_fault of exports k (Lemma p n bs cs b) = global_at of k n <|> lemma_fault (scope_of of (home.Lemma k)) bs cs b
decl_fault of exports k (Function p n bs t z x) = global_at of k n <|> function_fault (scope_of of (home.Function k)) bs z x
decl_fault of exports k (Export p n q a) = export_at exports n <|> called_at (scope_of of home.Export) [] q <|> list_fault (scope_of of home.Export) [] a
