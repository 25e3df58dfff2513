use Rattle.std.proofs.Common.{◌≡◌, ℕ, ◌<◌, length, get_or}
use Rattle.aes_words.specs.Rounds.{sub}
use Rattle.aes_words.proofs.rounds.sub_bytes.Given as goal

abbrev pub invariant-loop-k : goal.invariant-loop-k
invariant-loop-k l =
    (length l.replaced ≡ 16) × ((k : ℕ) → k < l.k → get_or l.replaced k 0 ≡ sub (get_or l.state k 0))
