use Rattle.std.proofs.Common.{◌≡◌, [], map, length, ◌-◌}
use Rattle.vale_syntax.specs.inner.CodeTrees.{tree}
use Rattle.vale_parser.specs.inner.Parts.{many}
use Rattle.vale_parser.specs.inner.Productions.{is_invariant, invariant_}
use Rattle.vale_parser.proofs.arguments.invariants.Given as goal

-- what the turns that are left give is what all give
abbrev pub invariant-loop-turn : goal.invariant-loop-turn
invariant-loop-turn l = many is_invariant invariant_ (length l.tokens - l._turn) (map tree l.parts) l.rest ≡ many is_invariant invariant_ (length l.tokens) [] l.tokens
