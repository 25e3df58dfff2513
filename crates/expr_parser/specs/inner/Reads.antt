-- What a function of the parser returned, as what looking ahead gives.
use Rattle.std.specs.Prelude.{List, map, Option, Some}
use Rattle.vale_syntax.specs.declared.token.Token.{Token}
use Rattle.vale_syntax.specs.Operators.{any}
use Rattle.vale_syntax.specs.Expressions.{depth_limit}
use Rattle.vale_syntax.specs.Options.{◌>>=◌}
use Rattle.vale_syntax.specs.inner.Parse.{Got, got, GotList, got_list, parse}
use Rattle.vale_syntax.specs.Trees.{Ex}
use Rattle.vale_syntax.specs.inner.CodeTrees.{tree, exs}
use Rattle.expr_parser.specs.declared.nodes.Parsed.{Parsed}
use Rattle.expr_parser.specs.declared.nodes.ParsedList.{ParsedList}

abbrev pub view : Parsed → Got
view p = got (tree p.tree) p.height p.rest.now

abbrev pub view_list : ParsedList → GotList
view_list p = got_list (exs (map tree p.trees)) p.height p.rest.now

-- the expression that tokens begin with, within its depth, and the tokens behind it
unfoldable pub expression : List Token → Option (Ex × List Token)
expression ts = parse depth_limit any ts >>= λ g. Some (g.tree, g.rest)
