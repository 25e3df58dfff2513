-- What a function of the parser returned, as what looking ahead gives.
use Rattle.std.specs.Prelude.{map}
use Rattle.std.specs.Option.{option_map}
use Rattle.vale_syntax.specs.inner.CodeTrees.{stmt_tree, sts, arm_of, lstmt_tree, lsts, larm_of}
use Rattle.vale_parser.specs.declared.lemma_statements.LemmaStated.{LemmaStated}
use Rattle.vale_parser.specs.declared.lemma_statements.LemmaBodied.{LemmaBodied}
use Rattle.vale_parser.specs.declared.lemma_statements.LemmaArmed.{LemmaArmed}
use Rattle.vale_parser.specs.declared.lemma_statements.LemmaBranches.{LemmaBranches}
use Rattle.vale_parser.specs.declared.statements.Stated.{Stated}
use Rattle.vale_parser.specs.declared.statements.Bodied.{Bodied}
use Rattle.vale_parser.specs.declared.statements.Armed.{Armed}
use Rattle.vale_parser.specs.declared.statements.Branches.{Branches}
use Rattle.vale_parser.specs.inner.Productions.{statement_parse, body_parse, else_parse, branches, StatementParse, BodyParse, ElseParse, Branches as ABranches, header, Header as AHeader, lstatement_parse, lbody_parse, lelse_parse, lbranches, LStatementParse, LBodyParse, LElseParse, LBranches}
use Rattle.vale_parser.specs.declared.declarations.Header.{Header}

abbrev pub statement_view : Stated → StatementParse
statement_view s = statement_parse (stmt_tree s.tree) s.height s.rest.now

abbrev pub body_view : Bodied → BodyParse
body_view b = body_parse (sts (map stmt_tree b.trees)) b.height b.rest.now

abbrev pub else_view : Armed → ElseParse
else_view a = else_parse (arm_of (option_map (λ xs. map stmt_tree xs) a.arm)) a.height a.rest.now

abbrev pub branches_view : Branches → ABranches
branches_view b = branches (sts (map stmt_tree b.first)) (arm_of (option_map (λ xs. map stmt_tree xs) b.second)) b.height b.rest.now

abbrev pub lstatement_view : LemmaStated → LStatementParse
lstatement_view s = lstatement_parse (lstmt_tree s.tree) s.height s.rest.now

abbrev pub lbody_view : LemmaBodied → LBodyParse
lbody_view b = lbody_parse (lsts (map lstmt_tree b.trees)) b.height b.rest.now

abbrev pub lelse_view : LemmaArmed → LElseParse
lelse_view a = lelse_parse (larm_of (option_map (λ xs. map lstmt_tree xs) a.arm)) a.height a.rest.now

abbrev pub lbranches_view : LemmaBranches → LBranches
lbranches_view b = lbranches (lsts (map lstmt_tree b.first)) (larm_of (option_map (λ xs. map lstmt_tree xs) b.second)) b.height b.rest.now

abbrev pub header_view : Header → AHeader
header_view h = header h.spot h.name h.binds h.sort
