-- Words without blanks, and texts that are cut at the first blank.
use Rattle.std.proofs.Common.{◌≡◌, ℕ, zero, suc, ◌+◌, ◌%◌, ◌^◌, ◌<◌, true, List, [], ◌∷◌, ◌++◌, decimal, refl, sym, ap, ◌∙◌, arith}
use Rattle.std.specs.Prelude.{nat_lt}
use Rattle.std.specs.Str.{IsAscii}
use Rattle.std.proofs.lemmas.Bool.{and_parts, and_from, ltb-true, lt-ltb}
use Rattle.std.proofs.lemmas.Nat.{mod_below}
use Rattle.std.proofs.lemmas.List.Folds.{list_all-append}
use Rattle.std.proofs.lemmas.Str.Ascii.{IsAscii-nil, IsAscii-cons}
use Rattle.std.proofs.lemmas.Fmt.{decimal_by_steps_wide}
use Rattle.x64_syntax.proofs.Lists.{same_head, same_tail}
use Rattle.x64_evaluator.specs.inner.Setting.{is_graphic, graphic, Blankless}

pub blankless : (bs : List ℕ) → graphic bs ≡ true → Blankless bs
blankless [] h k lt = absurd (omega (arith, lt))
blankless (b ∷ bs) h zero lt =
    let p = and_parts (is_graphic b) (graphic bs) h in
    let above = ltb-true 32 b (and_parts (nat_lt 32 b) (nat_lt b 128) p.0).0 in
    λ e. absurd (omega (arith, above, e))
blankless (b ∷ bs) h (suc k) lt = blankless bs (and_parts (is_graphic b) (graphic bs) h).1 k (omega (arith, lt))

pub ascii : (bs : List ℕ) → graphic bs ≡ true → IsAscii bs
ascii [] h = IsAscii-nil
ascii (b ∷ bs) h =
    let p = and_parts (is_graphic b) (graphic bs) h in
    IsAscii-cons b bs (ltb-true b 128 (and_parts (nat_lt 32 b) (nat_lt b 128) p.0).1) (ascii bs p.1)

digit_graphic : (d : ℕ) → d < 10 → is_graphic (48 + d) ≡ true
digit_graphic d lt = and_from _ _ (lt-ltb 32 (48 + d) (omega arith)) (lt-ltb (48 + d) 128 (omega (arith, lt)))

pub decimal_graphic : (n : ℕ) → n < 10 ^ 64 → graphic (decimal n) ≡ true
decimal_graphic n lt =
    decimal_by_steps_wide (λ n ds. graphic ds ≡ true)
    (λ n small. and_from _ _ (digit_graphic n small) refl)
    (λ n ds ge h. list_all-append is_graphic ds ((48 + n % 10) ∷ []) ∙ and_from _ _ h (and_from _ _ (digit_graphic (n % 10) (mod_below n 10 (omega arith))) refl))
    n lt

-- two words without blanks before a blank are one
pub cut_same : (xs ys vs ws : List ℕ) → Blankless xs → Blankless vs → xs ++ 32 ∷ ys ≡ vs ++ 32 ∷ ws → (xs ≡ vs) × (ys ≡ ws)
cut_same [] ys [] ws h k e = (refl, same_tail e)
cut_same [] ys (v ∷ vs) ws h k e = absurd (k 0 (omega arith) (sym (same_head e)))
cut_same (x ∷ xs) ys [] ws h k e = absurd (h 0 (omega arith) (same_head e))
cut_same (x ∷ xs) ys (v ∷ vs) ws h k e =
    let rest = cut_same xs ys vs ws (λ j lt. h (suc j) (omega (arith, lt))) (λ j lt. k (suc j) (omega (arith, lt))) (same_tail e) in
    (ap (λ z. z ∷ xs) (same_head e) ∙ ap (λ zs. v ∷ zs) rest.0, rest.1)

-- numbers of 128 bits have few digits
pub few_digits : (n : ℕ) → n < 2 ^ 128 → n < 10 ^ 64
few_digits n lt = omega (arith, lt)

pub number_blankless : (n : ℕ) → n < 2 ^ 128 → Blankless (decimal n)
number_blankless n lt = blankless (decimal n) (decimal_graphic n (few_digits n lt))
