use Rattle.std.proofs.Common.{◌≡◌, ℕ, ◌/◌, ◌%◌, ◌<◌, length, get_or}
use Rattle.aes_words.specs.Rounds.{of_digits, mixed}
use Rattle.aes_words.proofs.rounds.mix_columns.Given as goal

abbrev pub invariant-loop-k : goal.invariant-loop-k
invariant-loop-k l =
    (length l.columns ≡ 16) × ((k : ℕ) → k < l.k → get_or l.columns k 0 ≡ mixed (of_digits 256 l.state) (k % 4) (k / 4))
