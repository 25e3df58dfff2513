use Rattle.std.proofs.Common.{[], ◌∷◌, length, map, sym, ◌∙◌, arith}
use Rattle.std.proofs.lemmas.List.{map-append}
use Rattle.vale_syntax.specs.inner.CodeTrees.{tree}
use Rattle.vale_parser.specs.inner.Productions.{is_invariant, invariant_}
use Rattle.vale_syntax.proofs.Faults.{passed_on}
use Rattle.vale_parser.proofs.Turns.{turns, many_stop, many_fail, many_go_on, many_done}
use Rattle.vale_parser.proofs.arguments.invariants.Goals as goal

pub returns-then-not-is_invariant : goal.returns-then-not-is_invariant
returns-then-not-is_invariant c = sym c.loop-turn.invariant ∙ many_stop is_invariant invariant_ _ _ _ _ c.is_invariant.result (turns _ _ c.loop-turn-test.true) (rw c.peek.ensures at c.is_invariant.ensures) c.if-not-is_invariant.true

pub returns-in_err-next : goal.returns-in_err-next
returns-in_err-next c =
    passed_on _ c.from_residual.result c.in_err-next.field-0.0 (invariant_ c.loop-turn.rest.now) _ c.from_residual.ensures.1 c.in_err-next.ensures (λ none.
    sym c.loop-turn.invariant ∙ many_fail is_invariant invariant_ _ _ _ _ c.is_invariant.result (turns _ _ c.loop-turn-test.true) (rw c.peek.ensures at c.is_invariant.ensures) c.if-not-is_invariant.false none)

pub loop-turn-preserved : goal.loop-turn-preserved
loop-turn-preserved c =
    let next = many_go_on is_invariant invariant_ _ _ (map tree c.loop-turn.parts) c.loop-turn.rest.now c.is_invariant.result (tree c.in_ok-next.next.part) c.in_ok-next.next.rest.now
    (turns (length c.args.tokens.now) c.loop-turn._turn c.loop-turn-test.true) (rw c.peek.ensures at c.is_invariant.ensures) c.if-not-is_invariant.false c.in_ok-next.ensures in
    rw (c.in_ok-push.ensures.ok, map-append tree c.loop-turn.parts (c.in_ok-next.next.part ∷ [])) (sym next ∙ c.loop-turn.invariant)

pub returns : goal.returns
returns c = sym c.loop-turn.invariant ∙ many_done is_invariant invariant_ _ _ _ (omega (arith, c.loop-turn-test.false))
