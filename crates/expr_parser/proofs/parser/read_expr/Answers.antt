use Rattle.std.proofs.Common.{◌≡◌, Option, Some, None}
use Rattle.std.specs.Prelude.{Result, Ok, Err, IsErrOf}
use Rattle.vale_syntax.specs.declared.fault.MatchFault.{MatchFault}
use Rattle.vale_syntax.specs.declared.fault.MatchFault.TheVariants.{NoMatch, NoMemory}
use Rattle.vale_syntax.specs.inner.Matches.{Gives}
use Rattle.expr_parser.proofs.parser.read_expr.Goals as goal

refused : {X Y : Type 0} (view : X → Y) (r : Result X MatchFault) (o : Option Y) → Gives view r o → IsErrOf r NoMatch → o ≡ None
refused view (Ok x) o g h = absurd cc
refused view (Err NoMatch) o g h = g
refused view (Err NoMemory) o g h = absurd cc

pub returns-clause-not_an_expr : goal.returns-clause-not_an_expr
returns-clause-not_an_expr c h x is =
    let none = refused _ c.whole.result _ c.whole.ensures h in
    let some = c.read_as_spelled.ensures.complete c.args.tokens.now x is in
    clash _ _ none some
  where
    clash : {A : Type 0} (o : Option A) (x : A) → o ≡ None → o ≡ Some x → ⊥
    clash o x p q = absurd cc
