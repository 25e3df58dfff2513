use Rattle.std.proofs.Common.{length, map, refl, sym, ◌∙◌, arith}
use Rattle.vale_syntax.specs.inner.CodeTrees.{stmt_tree, sts}
use Rattle.vale_parser.specs.inner.Productions.{statement}
use Rattle.vale_parser.specs.inner.Reads.{statement_view, body_view}
use Rattle.vale_syntax.proofs.Faults.{passed_on}
use Rattle.vale_parser.proofs.Turns.{turns}
use Rattle.vale_parser.proofs.Bodies.{body_stop, body_fail, body_go_on, body_done, sts_last_is, statement_is}
use Rattle.vale_parser.proofs.statements.+statement.Goals as goal

pub body-returns-then-is_at-clause-found : goal.body-returns-then-is_at-clause-found
body-returns-then-is_at-clause-found t c =
    sym c.loop-turn.invariant.found ∙ body_stop _ _ _ _ _ _ c.is_at.result (turns _ _ c.loop-turn-test.true) c.is_at.ensures c.if-is_at.true ∙ rw c.after.ensures refl

pub body-returns-in_err-next-clause-found : goal.body-returns-in_err-next-clause-found
body-returns-in_err-next-clause-found t c =
    passed_on body_view c.from_residual.result c.in_err-next.field-0.0 (statement c.args.below c.loop-turn.rest.now) _ c.from_residual.ensures.1 c.in_err-next.ensures.found (λ none.
    sym c.loop-turn.invariant.found ∙ body_fail _ _ _ _ _ _ c.is_at.result (turns _ _ c.loop-turn-test.true) c.is_at.ensures c.if-is_at.false none)

pub body-loop-turn-preserved : goal.body-loop-turn-preserved
body-loop-turn-preserved t c =
    let next = body_go_on (statement c.args.below) _ _ (sts (map stmt_tree c.loop-turn.trees)) c.loop-turn.height c.loop-turn.rest.now c.is_at.result (statement_view c.in_ok-next.next)
    (turns (length c.args.tokens.now) c.loop-turn._turn c.loop-turn-test.true) c.is_at.ensures c.if-is_at.false c.in_ok-next.ensures.found in
    record {
      found = rw (c.in_ok-push.ensures.ok, c.max-height.ensures, sts_last_is c.loop-turn.trees c.in_ok-next.next.tree) (sym next ∙ c.loop-turn.invariant.found);
      shallow = omega (arith, c.max-height.ensures, c.loop-turn.invariant.shallow, c.in_ok-next.ensures.shallow);
    }

pub body-returns-clause-found : goal.body-returns-clause-found
body-returns-clause-found t c = sym c.loop-turn.invariant.found ∙ body_done _ _ _ _ _ (omega (arith, c.loop-turn-test.false))

pub statement-returns-clause-found : goal.statement-returns-clause-found
statement-returns-clause-found t c = rw (statement_is c.args.left c.args.tokens.now (omega (arith, c.if-left-eq0.false))) c.statement_of.ensures.found
