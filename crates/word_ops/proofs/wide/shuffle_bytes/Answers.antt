use Rattle.std.proofs.Common.{◌≡◌, ◌∙◌, ℕ, ◌≤◌, ◌++◌, List, length, take, drop, ap, arith}
use Rattle.std.proofs.lemmas.Grind.{common_steps}
use Rattle.std.specs.Prelude.{map}
use Rattle.word_ops.specs.Words128.{of_digits}
use Rattle.word_ops.proofs.wide.shuffle_bytes.Goals as goal

-- the loop has gone over all
all_done : (f : ℕ → ℕ) (xs ys : List ℕ) (i : ℕ) → length xs ≤ i → take i xs ++ map f (drop i xs) ≡ ys → xs ≡ ys
all_done f xs ys i h e = grind (arith, common_steps)

pub returns : goal.returns
returns c = c.of_bytes.ensures ∙ ap (of_digits 256) (all_done _ _ _ _ (omega (arith, c.loop-byte-test.false, c.loop-byte-test.array_long)) c.loop-byte.invariant)
