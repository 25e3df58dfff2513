use Rattle.std.proofs.Common.{◌≡◌, ℕ, ◌+◌, ◌/◌, ◌%◌, ◌<◌, length, get_or}
use Rattle.aes_words.specs.Rounds.{of_digits, cell}
use Rattle.aes_words.proofs.rounds.shift_rows.Given as goal

abbrev pub invariant-loop-k : goal.invariant-loop-k
invariant-loop-k l =
    (length l.shifted ≡ 16) × ((k : ℕ) → k < l.k → get_or l.shifted k 0 ≡ cell (of_digits 256 l.state) (k % 4) ((k / 4 + k % 4) % 4))
