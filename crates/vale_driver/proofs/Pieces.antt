-- What each piece that is read says of the text, and that a text in front of others is read again.
use Rattle.std.proofs.Common.{◌≡◌, ℕ, ◌+◌, ◌<◌, ◌^◌, ◌%◌, Bool, true, false, not, cond, List, [], ◌∷◌, ◌++◌, length, take, drop, Option, Some, None, refl, sym, ap, ◌∙◌, subst, arith, decimal}
use Rattle.std.specs.List.{prefix_len, list_all}
use Rattle.std.proofs.lemmas.Bool.{and_parts, and_from, false≢true, le-leb}
use Rattle.std.proofs.lemmas.Slice.Eq.{bytes_eq-Decides}
use Rattle.std.proofs.lemmas.Fmt.{decimal_by_steps}
use Rattle.std.proofs.lemmas.List.{take-append-drop}
use Rattle.std.proofs.Math.Seq.{take-append_seam, drop-append_seam}
use Rattle.x64_syntax.specs.Words.{is_digit_byte}
use Rattle.x64_syntax.specs.inner.Digits.{number_of}
use Rattle.x64_syntax.proofs.Digits.{read_back, number_written}
use Rattle.vale_driver.specs.inner.Fronts.{◌>>=◌, strip, span, number_at}
use Rattle.vale_driver.specs.Words.{value_if}
pub use Rattle.vale_syntax.proofs.Sound.{bind_some}

pub given_some : {A : Type 0} (b : Bool) (x y : A) → value_if b x ≡ Some y → (b ≡ true) × (x ≡ y)
given_some true x y h = (refl, cc)
given_some false x y h = absurd cc

-- a literal that is read stands in front
pub strip_is : (l bytes rest : List ℕ) → strip l bytes ≡ Some rest → bytes ≡ l ++ rest
unfolding strip
strip_is l bytes rest h =
    let g = given_some _ _ _ h in
    sym (take-append-drop (length l) bytes) ∙ ap (λ x. x ++ drop (length l) bytes) ((bytes_eq-Decides _ l).0 g.0) ∙ ap (λ x. l ++ x) g.1

-- a literal in front is read
pub strip_takes : (l rest : List ℕ) → strip l (l ++ rest) ≡ Some rest
unfolding strip
strip_takes l rest =
    ap (λ b. value_if b (drop (length l) (l ++ rest))) ((bytes_eq-Decides _ l).1 (take-append_seam l rest))
    ∙ ap Some (drop-append_seam l rest)

pub takes : {B : Type 0} (l rest : List ℕ) (f : List ℕ → Option B) → (strip l (l ++ rest) >>= f) ≡ f rest
takes l rest f = ap (λ o. o >>= f) (strip_takes l rest)

-- no byte that passes the test stands in front
abbrev pub stops : (ℕ → Bool) → List ℕ → Bool
stops p [] = true
stops p (b ∷ bs) = not (p b)

prefix_len_stops : (p : ℕ → Bool) (rest : List ℕ) → stops p rest ≡ true → prefix_len p rest ≡ 0
prefix_len_stops p [] h = refl
prefix_len_stops p (b ∷ bs) h = by_test (p b) h
  where
    by_test : (t : Bool) → not t ≡ true → cond t (1 + prefix_len p bs) 0 ≡ 0
    by_test true h = absurd (false≢true h)
    by_test false h = refl

prefix_len_front : (p : ℕ → Bool) (w rest : List ℕ) → list_all p w ≡ true → stops p rest ≡ true → prefix_len p (w ++ rest) ≡ length w
prefix_len_front p [] rest h s = prefix_len_stops p rest s
prefix_len_front p (b ∷ w) rest h s =
    let both = and_parts (p b) (list_all p w) h in
    let more = prefix_len_front p w rest both.1 s in
    ap (λ t. cond t (1 + prefix_len p (w ++ rest)) 0) both.0 ∙ (omega arith)

-- bytes that pass a test, in front of one that doesn't, are read as they are
pub span_front : (p : ℕ → Bool) (w rest : List ℕ) → list_all p w ≡ true → stops p rest ≡ true → span p (w ++ rest) ≡ (w, rest)
unfolding span
span_front p w rest h s =
    let n = prefix_len_front p w rest h s in
    ap (λ k. (take k (w ++ rest), drop k (w ++ rest))) n ∙ ap (λ x. (x, drop (length w) (w ++ rest))) (take-append_seam w rest) ∙ ap (λ x. (w, x)) (drop-append_seam w rest)

-- what is read and what is left is all of it
pub span_whole : (p : ℕ → Bool) (bytes : List ℕ) → bytes ≡ (span p bytes).0 ++ (span p bytes).1
unfolding span
span_whole p bytes = sym (take-append-drop (prefix_len p bytes) bytes)

list_all-append : (p : ℕ → Bool) (xs ys : List ℕ) → list_all p xs ≡ true → list_all p ys ≡ true → list_all p (xs ++ ys) ≡ true
list_all-append p [] ys h k = k
list_all-append p (x ∷ xs) ys h k =
    let both = and_parts (p x) (list_all p xs) h in
    and_from _ _ both.0 (list_all-append p xs ys both.1 k)

one_digit : (d : ℕ) → d < 10 → is_digit_byte (48 + d) ≡ true
one_digit d h = and_from _ _ (le-leb 48 (48 + d) (omega arith)) (le-leb (48 + d) 57 (omega arith))

-- a number's text has digits alone
pub digits-decimal : (n : ℕ) → n < 2 ^ 64 → list_all is_digit_byte (decimal n) ≡ true
digits-decimal =
    decimal_by_steps (λ n ds. list_all is_digit_byte ds ≡ true)
    (λ n h. and_from _ _ (one_digit n h) refl)
    (λ n ds h k. list_all-append is_digit_byte ds ((48 + n % 10) ∷ []) k (and_from _ _ (one_digit (n % 10) (omega arith)) refl))

-- what a number that is read says
pub number_is : (bytes rest : List ℕ) (n : ℕ) → number_at bytes ≡ Some (n, rest) → (bytes ≡ decimal n ++ rest) × (n < 2 ^ 64)
unfolding number_at
number_is bytes rest n h =
    let s = span is_digit_byte bytes in
    let b = bind_some (number_of s.0) _ _ h in
    let m = b.0 in
    let written : (decimal m ≡ s.0) × (m < 2 ^ 64) = number_written s.0 m b.1 in
    let pair : Some (m, s.1) ≡ Some (n, rest) = b.2 in
    let first : m ≡ n = ap (λ (o : Option (ℕ × List ℕ)). first_of o) pair in
    let second : s.1 ≡ rest = ap (λ (o : Option (ℕ × List ℕ)). rest_of o) pair in (
      span_whole is_digit_byte bytes ∙ ap (λ x. x ++ s.1) (sym written.0) ∙ ap (λ x. decimal m ++ x) second ∙ ap (λ k. decimal k ++ rest) first,
      subst (λ k. k < 2 ^ 64) first written.1,
    )
  where
    first_of : Option (ℕ × List ℕ) → ℕ
    first_of None = 0
    first_of (Some x) = x.0

    rest_of : Option (ℕ × List ℕ) → List ℕ
    rest_of None = []
    rest_of (Some x) = x.1

pub number_takes : (n : ℕ) (rest : List ℕ) → n < 2 ^ 64 → stops is_digit_byte rest ≡ true → number_at (decimal n ++ rest) ≡ Some (n, rest)
unfolding number_at
number_takes n rest fits s =
    ap (λ x. number_of x.0 >>= λ m. Some (m, x.1)) (span_front is_digit_byte (decimal n) rest (digits-decimal n fits) s)
    ∙ ap (λ o. o >>= λ m. Some (m, rest)) (read_back n fits)
