use Rattle.std.proofs.Common.{◌≡◌, map, ◌-◌}
use Rattle.vale_parser.specs.inner.Parts.{commas}
use Rattle.vale_parser.proofs.part.commas.Given as goal

-- what the turns that are left give is what all give
abbrev pub invariant-loop-turn : goal.invariant-loop-turn
invariant-loop-turn g l = commas g.T.Part.found (l.turns - l._turn) (map g.T.Part.thing l.parts) l.rest ≡ commas g.T.Part.found l.turns (map g.T.Part.thing l.fn.first) l.fn.tokens
