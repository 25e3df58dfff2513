use Rattle.std.proofs.Common.{◌≡◌, ℕ, ◌+◌}
use Rattle.x64_evaluator.specs.Evaluated.{evaluation, way}
use Rattle.x64_evaluator.proofs.run.run_items.Given as goal

-- what is left to run from here on gives what the whole gives
abbrev pub invariant-loop-made : goal.invariant-loop-made
invariant-loop-made l =
    (l.t.room ≡ l.fn.t.room)
    × ((n : ℕ) → l.made + n ≡ l.steps → evaluation l.items l.fn.t.room l.steps l.entry (way l.fn.m l.fn.t.seen 0) ≡ evaluation l.items l.fn.t.room n l.at (way l.m l.t.seen l.made))
