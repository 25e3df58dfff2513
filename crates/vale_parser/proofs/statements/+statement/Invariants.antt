use Rattle.std.proofs.Common.{◌≡◌, ◌≤◌, ◌+◌, ◌-◌, ◌*◌, map, length}
use Rattle.vale_syntax.specs.Programs.{no_sts}
use Rattle.vale_syntax.specs.inner.CodeTrees.{stmt_tree, sts}
use Rattle.vale_parser.specs.inner.Productions.{statement, body}
use Rattle.vale_parser.proofs.statements.+statement.Given as goal

abbrev pub decreases-statement : goal.decreases-statement
decreases-statement l = 16 * l.left

abbrev pub decreases-statement_of : goal.decreases-statement_of
decreases-statement_of l = 16 * l.below + 8

abbrev pub decreases-arms : goal.decreases-arms
decreases-arms l = 16 * l.below + 4

abbrev pub decreases-loop_at : goal.decreases-loop_at
decreases-loop_at l = 16 * l.below + 4

abbrev pub decreases-second_arm : goal.decreases-second_arm
decreases-second_arm l = 16 * l.below + 3

abbrev pub decreases-block : goal.decreases-block
decreases-block l = 16 * l.below + 2

abbrev pub decreases-body : goal.decreases-body
decreases-body l = 16 * l.below + 1

-- what the turns that are left give is what all give
abbrev pub invariant-body-loop-turn : goal.invariant-body-loop-turn
invariant-body-loop-turn l = record {
  found : body (statement l.below) (length l.tokens - l._turn) (sts (map stmt_tree l.trees)) l.height l.rest ≡ body (statement l.below) (length l.tokens) no_sts 0 l.tokens;
  shallow : l.height ≤ l.below;
}
