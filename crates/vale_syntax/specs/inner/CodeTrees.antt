-- The trees of the code's values, without where these lie in memory.
use Rattle.std.specs.Prelude.{List, [], ◌∷◌, map, Option, Some, None}
use Rattle.std.specs.Option.{option_map}
use Rattle.vale_syntax.specs.declared.expr.Expr.{Expr}
use Rattle.vale_syntax.specs.declared.expr.Expr.TheOpen.{Expr-F}
use Rattle.vale_syntax.specs.declared.expr.Expr.TheFolds.{fold-Expr}
use Rattle.vale_syntax.specs.declared.statement.Arg.{Arg}
use Rattle.vale_syntax.specs.declared.statement.Arg.TheVariants as arg
use Rattle.vale_syntax.specs.declared.statement.Stmt.{Stmt}
use Rattle.vale_syntax.specs.declared.statement.Stmt.TheOpen.{Stmt-F}
use Rattle.vale_syntax.specs.declared.statement.Stmt.TheFolds.{fold-Stmt}
use Rattle.vale_syntax.specs.declared.statement.LemmaStmt.{LemmaStmt}
use Rattle.vale_syntax.specs.declared.statement.LemmaStmt.TheOpen.{LemmaStmt-F}
use Rattle.vale_syntax.specs.declared.statement.LemmaStmt.TheFolds.{fold-LemmaStmt}
use Rattle.vale_syntax.specs.declared.declaration.Clause.{Clause}
use Rattle.vale_syntax.specs.declared.declaration.Clause.TheVariants as clause
use Rattle.vale_syntax.specs.declared.declaration.LemmaClause.{LemmaClause}
use Rattle.vale_syntax.specs.declared.declaration.LemmaClause.TheVariants as lemma_clause
use Rattle.vale_syntax.specs.declared.declaration.Decl.{Decl}
use Rattle.vale_syntax.specs.declared.declaration.Decl.TheVariants as decl
use Rattle.vale_syntax.specs.Trees.{Ex, Exs, none, more, Int, Word, Wide, True, False, Prev, Name, Call, Index, Unary, Binary}
use Rattle.vale_syntax.specs.Programs.{Ar, Memory, Value, St, CallStatement, Assert, Ghost, Assign, If, While, InlineIf, Sts, no_sts, more_sts, Arm, no_arm, arm as some_arm, LSt, LCall, LAssert, LIf, LSts, no_lsts, more_lsts, LArm, no_larm, larm, Cl, Reads, Modifies, Requires, Ensures, Stack, Abi, LCl, LRequires, LEnsures, LDecreases, De, Procedure, Lemma, Function, Export}

abbrev pub exs : List Ex → Exs
exs [] = none
exs (x ∷ xs) = more x (exs xs)

abbrev pub layer : Expr-F Ex → Ex
layer (Expr-F.Int s z) = Int s z
layer (Expr-F.Word s n) = Word s n
layer (Expr-F.Wide s n) = Wide s n
layer (Expr-F.True s) = True s
layer (Expr-F.False s) = False s
layer (Expr-F.Prev s) = Prev s
layer (Expr-F.Name n) = Name n
layer (Expr-F.Call f xs) = Call f (exs xs)
layer (Expr-F.Index s x i) = Index s x i
layer (Expr-F.Unary s o x) = Unary s o x
layer (Expr-F.Binary s o x y) = Binary s o x y

abbrev pub tree : Expr → Ex
tree = fold-Expr Ex layer

abbrev pub arg_tree : Arg → Ar
arg_tree (arg.Memory b i a) = Memory b (tree i) (map tree a)
arg_tree (arg.Value x) = Value (tree x)

abbrev pub sts : List St → Sts
sts [] = no_sts
sts (x ∷ xs) = more_sts x (sts xs)

abbrev pub arm_of : Option (List St) → Arm
arm_of None = no_arm
arm_of (Some xs) = some_arm (sts xs)

abbrev pub stmt_layer : Stmt-F St → St
stmt_layer (Stmt-F.Call n a) = CallStatement n (map arg_tree a)
stmt_layer (Stmt-F.Assert s x) = Assert s (tree x)
stmt_layer (Stmt-F.Ghost s n t x) = Ghost s n t (tree x)
stmt_layer (Stmt-F.Assign n x) = Assign n (tree x)
stmt_layer (Stmt-F.If s x first second) = If s (tree x) (sts first) (arm_of second)
stmt_layer (Stmt-F.While s x is m body) = While s (tree x) (map tree is) (tree m) (sts body)
stmt_layer (Stmt-F.InlineIf s x first second) = InlineIf s (tree x) (sts first) (arm_of second)

abbrev pub stmt_tree : Stmt → St
stmt_tree = fold-Stmt St stmt_layer

abbrev pub lsts : List LSt → LSts
lsts [] = no_lsts
lsts (x ∷ xs) = more_lsts x (lsts xs)

abbrev pub larm_of : Option (List LSt) → LArm
larm_of None = no_larm
larm_of (Some xs) = larm (lsts xs)

abbrev pub lstmt_layer : LemmaStmt-F LSt → LSt
lstmt_layer (LemmaStmt-F.Call n a) = LCall n (map tree a)
lstmt_layer (LemmaStmt-F.Assert s x) = LAssert s (tree x)
lstmt_layer (LemmaStmt-F.If s x first second) = LIf s (tree x) (lsts first) (larm_of second)

abbrev pub lstmt_tree : LemmaStmt → LSt
lstmt_tree = fold-LemmaStmt LSt lstmt_layer

abbrev pub clause_tree : Clause → Cl
clause_tree (clause.Reads s ps) = Reads s ps
clause_tree (clause.Modifies s ns) = Modifies s ns
clause_tree (clause.Requires s x) = Requires s (tree x)
clause_tree (clause.Ensures s x) = Ensures s (tree x)
clause_tree (clause.Stack s x) = Stack s (tree x)
clause_tree (clause.Abi s a) = Abi s a

abbrev pub lclause_tree : LemmaClause → LCl
lclause_tree (lemma_clause.Requires s x) = LRequires s (tree x)
lclause_tree (lemma_clause.Ensures s x) = LEnsures s (tree x)
lclause_tree (lemma_clause.Decreases s x) = LDecreases s (tree x)

abbrev pub decl_tree : Decl → De
decl_tree (decl.Procedure s n ps cs b) = Procedure s n ps (map clause_tree cs) (sts (map stmt_tree b))
decl_tree (decl.Lemma s n bs cs b) = Lemma s n bs (map lclause_tree cs) (lsts (map lstmt_tree b))
decl_tree (decl.Function s n bs t z x) = Function s n bs t (option_map tree z) (tree x)
decl_tree (decl.Export s n p a) = Export s n p (map tree a)
