-- The lines of a text, one after the other.
use Rattle.std.proofs.Common.{◌≡◌, ℕ, zero, suc, ◌<◌, Bool, true, List, [], ◌∷◌, length, take, drop, ap, ◌∙◌, arith}
use Rattle.std.specs.Prelude.{◌==◌, slice_index, if◌then◌else◌}
use Rattle.std.proofs.lemmas.Bool.{false_from_ne_true}
use Rattle.x64_evaluator.specs.StateFile.{lines_of, in_front}

-- where no byte ends a line
pub one_line : (xs : List ℕ) → 0 < length xs → ((k : ℕ) → k < length xs → (slice_index xs k == 10) ≡ true → ⊥) → lines_of xs ≡ xs ∷ []
one_line [] some_ none = absurd (omega (arith, some_))
one_line (x ∷ []) some_ none = ap (λ (t : Bool). if t then [] ∷ [] else (x ∷ []) ∷ []) (false_from_ne_true (x == 10) (none 0 (omega arith)))
one_line (x ∷ (y ∷ ys)) some_ none =
    ap (λ (t : Bool). if t then [] ∷ lines_of (y ∷ ys) else in_front x (lines_of (y ∷ ys))) (false_from_ne_true (x == 10) (none 0 (omega arith)))
    ∙ ap (in_front x) (one_line (y ∷ ys) (omega arith) (λ k lt. none (suc k) (omega (arith, lt))))

-- where the first such byte is
pub line_at : (xs : List ℕ) (k : ℕ) → k < length xs → ((j : ℕ) → j < k → (slice_index xs j == 10) ≡ true → ⊥) → (slice_index xs k == 10) ≡ true → lines_of xs ≡ take k xs ∷ lines_of (drop 1 (drop k xs))
line_at [] k lt before at = absurd (omega (arith, lt))
line_at (x ∷ xs) zero lt before at = ap (λ (t : Bool). if t then [] ∷ lines_of xs else in_front x (lines_of xs)) at
line_at (x ∷ xs) (suc k) lt before at =
    ap (λ (t : Bool). if t then [] ∷ lines_of xs else in_front x (lines_of xs)) (false_from_ne_true (x == 10) (before 0 (omega arith)))
    ∙ ap (in_front x) (line_at xs k (omega (arith, lt)) (λ j lt_j. before (suc j) (omega (arith, lt_j))) at)
