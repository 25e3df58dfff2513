use Rattle.std.proofs.Common.{sym, ◌∙◌, ◌≤◌, length, arith}
use Rattle.std.proofs.lemmas.Bool.{eqb-true}
use Rattle.vale_lexer.proofs.Lexing.{lexed_all}
use Rattle.vale_lexer.proofs.scan.tokens.Goals as goal

pub returns : goal.returns
returns c =
    let zero = eqb-true _ _ (sym c.is_empty.ensures ∙ c.loop-rest-test.false) in
    let none : length c.loop-rest.rest.now ≤ 0 = omega (arith, zero) in
    lexed_all _ _ _ _ _ none c.loop-rest.invariant.whole
