use Rattle.std.proofs.Common.{[], ◌∷◌, map, sym, ◌∙◌, arith}
use Rattle.std.proofs.lemmas.List.{map-append}
use Rattle.vale_syntax.proofs.Faults.{passed_on}
use Rattle.vale_parser.proofs.Turns.{turns, commas_stop, commas_fail, commas_go_on, commas_done}
use Rattle.vale_parser.proofs.part.commas.Goals as goal

pub returns-then-not-is_at : goal.returns-then-not-is_at
returns-then-not-is_at g c = sym c.loop-turn.invariant ∙ commas_stop g.T.Part.found _ _ _ _ c.is_at.result (turns _ _ c.loop-turn-test.true) c.is_at.ensures c.if-not-is_at.true

pub returns-in_err-next : goal.returns-in_err-next
returns-in_err-next g c =
    passed_on _ c.from_residual.result c.in_err-next.field-0.0 (g.T.Part.found c.after.result.now) _ c.from_residual.ensures.1 c.in_err-next.ensures (λ none.
    sym c.loop-turn.invariant ∙ commas_fail g.T.Part.found _ _ _ _ c.is_at.result (turns _ _ c.loop-turn-test.true) c.is_at.ensures c.if-not-is_at.false (rw c.after.ensures at none))

pub loop-turn-preserved : goal.loop-turn-preserved
loop-turn-preserved g c =
    let next = commas_go_on g.T.Part.found _ _ (map g.T.Part.thing c.loop-turn.parts) c.loop-turn.rest.now c.is_at.result (g.T.Part.thing c.in_ok-next.next.part) c.in_ok-next.next.rest.now
    (turns c.args.turns c.loop-turn._turn c.loop-turn-test.true) c.is_at.ensures c.if-not-is_at.false (rw c.after.ensures at c.in_ok-next.ensures) in
    rw (c.in_ok-push.ensures.ok, map-append g.T.Part.thing c.loop-turn.parts (c.in_ok-next.next.part ∷ [])) (sym next ∙ c.loop-turn.invariant)

pub returns : goal.returns
returns g c = sym c.loop-turn.invariant ∙ commas_done g.T.Part.found _ _ _ (omega (arith, c.loop-turn-test.false))
