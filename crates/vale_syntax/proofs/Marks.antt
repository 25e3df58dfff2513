-- The first mark of the table that begins a text is the longest that does, since longer marks come first.
use Rattle.std.proofs.Common.{◌≡◌, ℕ, ◌≤◌, Bool, true, false, cond, List, [], ◌∷◌, length, Some, refl, sym, ◌∙◌, arith}
use Rattle.std.specs.Prelude.{◌&&◌, nat_le}
use Rattle.std.specs.List.{find, list_all, AllByRecursion}
use Rattle.std.proofs.lemmas.Bool.{and_parts, leb-true, false≢true}
use Rattle.vale_syntax.specs.declared.mark.Mark.{Mark}
use Rattle.vale_syntax.specs.Tokens.{begins, marks}
use Rattle.vale_syntax.specs.inner.Marks.{mark_len}

-- no mark is shorter than one behind it
longer_first : List (List ℕ × Mark) → Bool
longer_first [] = true
longer_first (m ∷ ms) = list_all (λ k. nat_le (length k.0) (length m.0)) ms && longer_first ms

all_short : (bytes : List ℕ) (m : List ℕ × Mark) (ms : List (List ℕ × Mark)) → list_all (λ k. nat_le (length k.0) (length m.0)) ms ≡ true → AllByRecursion (λ k. begins k.0 bytes ≡ true → length k.0 ≤ length m.0) ms
all_short bytes m [] h = tt
all_short bytes m (k ∷ ms) h = let p = and_parts _ _ h in ((λ e. leb-true _ _ p.0), all_short bytes m ms p.1)

longest_in : (bytes : List ℕ) (ms : List (List ℕ × Mark)) → longer_first ms ≡ true → AllByRecursion (λ k. begins k.0 bytes ≡ true → length k.0 ≤ mark_len (find (λ n. begins n.0 bytes) ms)) ms
unfolding longer_first
longest_in bytes [] h = tt
longest_in bytes (m ∷ ms) h = by_test (begins m.0 bytes) refl (and_parts _ _ h).0 (longest_in bytes ms (and_parts _ _ h).1)
  where
    by_test : (t : Bool) → begins m.0 bytes ≡ t → list_all (λ k. nat_le (length k.0) (length m.0)) ms ≡ true
        → AllByRecursion (λ k. begins k.0 bytes ≡ true → length k.0 ≤ mark_len (find (λ n. begins n.0 bytes) ms)) ms
        → AllByRecursion (λ k. begins k.0 bytes ≡ true → length k.0 ≤ mark_len (cond t (Some m) (find (λ n. begins n.0 bytes) ms))) (m ∷ ms)
    by_test true e short rest = ((λ f. same), all_short bytes m ms short)
      where
        same : length m.0 ≤ length m.0
        same = omega arith
    by_test false e short rest = ((λ f. absurd (false≢true (sym e ∙ f))), rest)

pub longest : (bytes : List ℕ) → AllByRecursion (λ k. begins k.0 bytes ≡ true → length k.0 ≤ mark_len (find (λ n. begins n.0 bytes) marks)) marks
unfolding longer_first
longest bytes = longest_in bytes marks refl

pub some : AllByRecursion (λ m. 1 ≤ length m.0) marks
some = omega arith
