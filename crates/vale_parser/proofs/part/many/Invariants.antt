use Rattle.std.proofs.Common.{◌≡◌, [], map, length, ◌-◌}
use Rattle.vale_parser.specs.inner.Parts.{many}
use Rattle.vale_parser.proofs.part.many.Given as goal

-- what the turns that are left give is what all give
abbrev pub invariant-loop-turn : goal.invariant-loop-turn
invariant-loop-turn g l = many g.T.Repeated.begins g.T.Part.found (length l.tokens - l._turn) (map g.T.Part.thing l.parts) l.rest ≡ many g.T.Repeated.begins g.T.Part.found (length l.tokens) [] l.tokens
