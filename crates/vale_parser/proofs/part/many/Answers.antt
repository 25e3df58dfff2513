use Rattle.std.proofs.Common.{[], ◌∷◌, length, map, sym, ◌∙◌, arith}
use Rattle.std.proofs.lemmas.List.{map-append}
use Rattle.vale_syntax.proofs.Faults.{passed_on}
use Rattle.vale_parser.proofs.Turns.{turns, many_stop, many_fail, many_go_on, many_done}
use Rattle.vale_parser.proofs.part.many.Goals as goal

pub returns-then-not-begins : goal.returns-then-not-begins
returns-then-not-begins g c = sym c.loop-turn.invariant ∙ many_stop g.T.Repeated.begins g.T.Part.found _ _ _ _ c.begins.result (turns _ _ c.loop-turn-test.true) (rw c.peek.ensures at c.begins.ensures) c.if-not-begins.true

pub returns-in_err-next : goal.returns-in_err-next
returns-in_err-next g c =
    passed_on _ c.from_residual.result c.in_err-next.field-0.0 (g.T.Part.found c.loop-turn.rest.now) _ c.from_residual.ensures.1 c.in_err-next.ensures (λ none.
    sym c.loop-turn.invariant ∙ many_fail g.T.Repeated.begins g.T.Part.found _ _ _ _ c.begins.result (turns _ _ c.loop-turn-test.true) (rw c.peek.ensures at c.begins.ensures) c.if-not-begins.false none)

pub loop-turn-preserved : goal.loop-turn-preserved
loop-turn-preserved g c =
    let next = many_go_on g.T.Repeated.begins g.T.Part.found _ _ (map g.T.Part.thing c.loop-turn.parts) c.loop-turn.rest.now c.begins.result (g.T.Part.thing c.in_ok-next.next.part) c.in_ok-next.next.rest.now
    (turns (length c.args.tokens.now) c.loop-turn._turn c.loop-turn-test.true) (rw c.peek.ensures at c.begins.ensures) c.if-not-begins.false c.in_ok-next.ensures in
    rw (c.in_ok-push.ensures.ok, map-append g.T.Part.thing c.loop-turn.parts (c.in_ok-next.next.part ∷ [])) (sym next ∙ c.loop-turn.invariant)

pub returns : goal.returns
returns g c = sym c.loop-turn.invariant ∙ many_done g.T.Repeated.begins g.T.Part.found _ _ _ (omega (arith, c.loop-turn-test.false))
