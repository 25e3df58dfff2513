use Rattle.std.proofs.Common.{◌≡◌, ◌<◌, ℕ, suc, ◌+◌, ◌-◌, max, refl, sym, ◌∙◌, ap, arith}
use Rattle.vale_syntax.specs.declared.mark.Mark.TheVariants as mark
use Rattle.vale_syntax.specs.Peek.{peek}
use Rattle.vale_syntax.specs.inner.Parse.{Got, GotList, others, parse}
use Rattle.expr_parser.specs.inner.Reads.{view, view_list}
use Rattle.vale_syntax.proofs.MarkTests.{peek_is}
use Rattle.vale_syntax.proofs.Faults.{passed_on}
use Rattle.expr_parser.proofs.Marks.{not_indexed, not_squared, no_others}
use Rattle.expr_parser.proofs.Turns.{chain_stops, chain_high, chain_fails, chain_goes_on, index_stops, index_high, index_fails, index_open, index_goes_on, others_turn, others_close, others_fail, others_go_on, chain_done, index_done, others_done}
use Rattle.expr_parser.proofs.parser.+expression.Goals as goal

-- a turn that is left
turns : (b i : ℕ) → i < b + 1 → suc b - i ≡ suc (suc b - (i + 1))
turns b i h = omega (arith, h)

pub chain-returns-in_default-clause-found : goal.chain-returns-in_default-clause-found
chain-returns-in_default-clause-found t c =
    sym c.loop-turn.invariant.found
    ∙ chain_stops _ _ _ _ _ _ _ c.operator.result (turns _ _ c.loop-turn-test.true) (rw c.peek.ensures at c.operator.ensures) c.in_default.is

pub chain-returns-then-below-sofar-clause-found : goal.chain-returns-then-below-sofar-clause-found
chain-returns-then-below-sofar-clause-found t c =
    sym c.loop-turn.invariant.found
    ∙ chain_high _ _ _ _ _ _ _ c.operator.result c.in-Some.op (turns _ _ c.loop-turn-test.true) (rw c.peek.ensures at c.operator.ensures) c.in-Some.is c.if-below-sofar.true

pub chain-returns-in_err-right-clause-found : goal.chain-returns-in_err-right-clause-found
chain-returns-in_err-right-clause-found t c =
    passed_on view c.from_residual.result c.in_err-right.field-0.0 (parse c.args.below c.right.result c.after.result.now) _ c.from_residual.ensures.1 c.in_err-right.ensures.found (λ none.
    sym c.loop-turn.invariant.found
    ∙ chain_fails _ _ _ _ _ _ _ c.operator.result c.in-Some.op (turns _ _ c.loop-turn-test.true) (rw c.peek.ensures at c.operator.ensures) c.in-Some.is (rw (c.right.ensures, c.after.ensures) at none))

pub chain-loop-turn-preserved : goal.chain-loop-turn-preserved
chain-loop-turn-preserved t c =
    let height : c.in_ok-sofar.sofar.height ≡ suc (max c.loop-turn.sofar.height c.in_ok-right.right.height) = ap (λ (g : Got). g.height) c.in_ok-sofar.ensures in
    let next = chain_goes_on (parse c.args.below) c.args.below (suc c.args.below - c.loop-turn._turn) _ c.loop-turn.goes_on c.args.spot (view c.loop-turn.sofar) (view c.in_ok-right.right) c.operator.result c.in-Some.op
    (turns _ _ c.loop-turn-test.true) (rw c.peek.ensures at c.operator.ensures) c.in-Some.is (omega (arith, c.if-below-sofar.false)) (rw (c.right.ensures, c.after.ensures) at c.in_ok-right.ensures.found) in
    record {
      found = rw (c.in_ok-sofar.ensures, c.again-goes_on.ensures) (sym next ∙ c.loop-turn.invariant.found);
      shallow = omega (arith, height, c.if-below-sofar.false, c.in_ok-right.ensures.shallow);
    }

pub chain-returns-clause-found : goal.chain-returns-clause-found
chain-returns-clause-found t c = sym c.loop-turn.invariant.found ∙ chain_done _ _ _ _ _ _ (omega (arith, c.loop-turn-test.false))

pub indexed-returns-then-not-is_mark-clause-found : goal.indexed-returns-then-not-is_mark-clause-found
indexed-returns-then-not-is_mark-clause-found t c =
    let other = rw c.is_mark.ensures at c.if-not-is_mark.true in
    sym c.loop-turn.invariant.found
    ∙ index_stops _ _ _ _ _ _ c.peek.result (turns _ _ c.loop-turn-test.true) c.peek.ensures (not_indexed c.peek.result other _ _)

pub indexed-returns-then-below-sofar-clause-found : goal.indexed-returns-then-below-sofar-clause-found
indexed-returns-then-below-sofar-clause-found t c =
    let open_ = peek_is mark.SquareOpen c.peek.result (rw c.is_mark.ensures at c.if-not-is_mark.false) in
    sym c.loop-turn.invariant.found
    ∙ index_high _ _ _ _ _ _ c.peek.result (turns _ _ c.loop-turn-test.true) c.peek.ensures open_ c.if-below-sofar.true

pub indexed-returns-in_err-at-clause-found : goal.indexed-returns-in_err-at-clause-found
indexed-returns-in_err-at-clause-found t c =
    let open_ = peek_is mark.SquareOpen c.peek.result (rw c.is_mark.ensures at c.if-not-is_mark.false) in
    passed_on view c.from_residual.result c.in_err-at.field-0.0 (parse c.args.below 6 c.after.result.now) _ c.from_residual.ensures.1 c.in_err-at.ensures.found (λ none.
    sym c.loop-turn.invariant.found
    ∙ index_fails _ _ _ _ _ _ c.peek.result (turns _ _ c.loop-turn-test.true) c.peek.ensures open_ (rw c.after.ensures at none))

pub indexed-returns-then-not-is_mark-2-clause-found : goal.indexed-returns-then-not-is_mark-2-clause-found
indexed-returns-then-not-is_mark-2-clause-found t c =
    let open_ = peek_is mark.SquareOpen c.peek.result (rw c.is_mark.ensures at c.if-not-is_mark.false) in
    let other = rw (c.is_mark-in-loop-turn.ensures, c.peek-in-loop-turn.ensures) at c.if-not-is_mark-2.true in
    sym c.loop-turn.invariant.found
    ∙ index_open _ _ _ _ _ _ (view c.in_ok-at.at) c.peek.result (turns _ _ c.loop-turn-test.true) c.peek.ensures open_ (rw c.after.ensures at c.in_ok-at.ensures.found) (not_squared (peek c.in_ok-at.at.rest.now) other)

pub indexed-loop-turn-preserved : goal.indexed-loop-turn-preserved
indexed-loop-turn-preserved t c =
    let open_ = peek_is mark.SquareOpen c.peek.result (rw c.is_mark.ensures at c.if-not-is_mark.false) in
    let close = peek_is mark.SquareClose (peek c.in_ok-at.at.rest.now) (rw (c.is_mark-in-loop-turn.ensures, c.peek-in-loop-turn.ensures) at c.if-not-is_mark-2.false) in
    let height : c.in_ok-sofar.sofar.height ≡ suc (max c.loop-turn.sofar.height c.in_ok-at.at.height) = ap (λ (g : Got). g.height) c.in_ok-sofar.ensures in
    let next = index_goes_on (parse c.args.below) c.args.below (suc c.args.below - c.loop-turn._turn) _ c.args.spot (view c.loop-turn.sofar) (view c.in_ok-at.at) c.peek.result
    (turns _ _ c.loop-turn-test.true) c.peek.ensures open_ (omega (arith, c.if-below-sofar.false)) (rw c.after.ensures at c.in_ok-at.ensures.found) close in
    record {
      found = rw (c.in_ok-sofar.ensures, c.after-rest.ensures) (sym next ∙ c.loop-turn.invariant.found);
      shallow = omega (arith, height, c.if-below-sofar.false, c.in_ok-at.ensures.shallow);
    }

pub indexed-returns-clause-found : goal.indexed-returns-clause-found
indexed-returns-clause-found t c = sym c.loop-turn.invariant.found ∙ index_done _ _ _ _ _ (omega (arith, c.loop-turn-test.false))

-- a turn of arguments that is left
argument_turns : (n i : ℕ) → i < n → n - i ≡ suc (n - (i + 1))
argument_turns n i h = omega (arith, h)

pub others-returns-then-is_mark-clause-found : goal.others-returns-then-is_mark-clause-found
others-returns-then-is_mark-clause-found t c =
    let close = peek_is mark.RoundClose c.peek-token.result (rw c.is_mark.ensures at c.if-is_mark.true) in
    sym c.loop-turn.invariant.found
    ∙ others_close _ _ _ _ _ _ c.peek-token.result (argument_turns _ _ c.loop-turn-test.true) c.peek-token.ensures close ∙ rw c.after-sofar.ensures refl

pub others-returns-then-not-is_mark-clause-found : goal.others-returns-then-not-is_mark-clause-found
others-returns-then-not-is_mark-clause-found t c =
    let open_ = rw c.is_mark.ensures at c.if-is_mark.false in
    let other = rw c.is_mark-in-loop-turn.ensures at c.if-not-is_mark.true in
    sym c.loop-turn.invariant.found
    ∙ others_turn _ _ _ _ _ _ c.peek-token.result (argument_turns _ _ c.loop-turn-test.true) c.peek-token.ensures ∙ no_others c.peek-token.result open_ other _ _ _ _

pub others-returns-in_err-next-clause-found : goal.others-returns-in_err-next-clause-found
others-returns-in_err-next-clause-found t c =
    let comma = peek_is mark.Comma c.peek-token.result (rw c.is_mark-in-loop-turn.ensures at c.if-not-is_mark.false) in
    passed_on view_list c.from_residual.result c.in_err-next.field-0.0 (parse c.args.below 6 c.after.result.now) _ c.from_residual.ensures.1 c.in_err-next.ensures.found (λ none.
    sym c.loop-turn.invariant.found
    ∙ others_fail _ _ _ _ _ _ c.peek-token.result (argument_turns _ _ c.loop-turn-test.true) c.peek-token.ensures comma (rw c.after.ensures at none))

pub others-loop-turn-preserved : goal.others-loop-turn-preserved
others-loop-turn-preserved t c =
    let comma = peek_is mark.Comma c.peek-token.result (rw c.is_mark-in-loop-turn.ensures at c.if-not-is_mark.false) in
    let height : c.in_ok-sofar.sofar.height ≡ max c.loop-turn.sofar.height c.in_ok-next.next.height = ap (λ (g : GotList). g.height) c.in_ok-sofar.ensures in
    let next = others_go_on (parse c.args.below) (c.args.turns - c.loop-turn._turn) _ (view_list c.loop-turn.sofar).trees c.loop-turn.sofar.height c.loop-turn.sofar.rest.now (view c.in_ok-next.next) c.peek-token.result
    (argument_turns _ _ c.loop-turn-test.true) c.peek-token.ensures comma (rw c.after.ensures at c.in_ok-next.ensures.found) in
    let now = ap (λ (g : GotList). others (parse c.args.below) (c.args.turns - (c.loop-turn._turn + 1)) g.trees g.height g.rest) c.in_ok-sofar.ensures in
    record {
      found = now ∙ sym next ∙ c.loop-turn.invariant.found;
      shallow = omega (arith, height, c.loop-turn.invariant.shallow, c.in_ok-next.ensures.shallow);
    }

pub others-returns-clause-found : goal.others-returns-clause-found
others-returns-clause-found t c = sym c.loop-turn.invariant.found ∙ others_done _ _ _ _ _ (omega (arith, c.loop-turn-test.false))
