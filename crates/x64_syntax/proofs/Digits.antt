-- Numbers are read back from their digits.
use Rattle.std.proofs.Common.{◌≡◌, ℕ, ◌+◌, ◌*◌, ◌-◌, ◌^◌, ◌<◌, ◌≤◌, Bool, true, false, List, [], ◌∷◌, refl, sym, ap, ◌∙◌, ◌&&◌, subst, arith, None, Some, decimal}
use Rattle.std.specs.Prelude.{nat_lt, nat_le, if◌then◌else◌, Option, option_and_then}
use Rattle.std.specs.List.{list_all}
use Rattle.std.specs.Str.{bytes_eq}
use Rattle.std.proofs.lemmas.Bool.{and_parts, and_from, leb-true, le-leb, lt-ltb, ltb-true}
use Rattle.std.proofs.lemmas.Option.{same_Some}
use Rattle.std.proofs.lemmas.Str.Parse.{IsDigitsTest, FoldsDigits, IsNumeralModel, numerals_by_fold}
use Rattle.std.proofs.lemmas.Fmt.{digits_decimal, digits_value-decimal}
use Rattle.std.proofs.lemmas.Slice.Eq.{bytes_eq-Decides}
use Rattle.x64_syntax.specs.Words.{is_digit_byte}
use Rattle.x64_syntax.specs.inner.Digits.{digits_from, number_of}

-- the number whose digits follow those of n
abbrev pub valued : ℕ → List ℕ → ℕ
valued n [] = n
valued n (b ∷ bs) = valued (n * 10 + (b - 48)) bs

abbrev pub AreDigits : List ℕ → Type 0
AreDigits ds = list_all is_digit_byte ds ≡ true

tells : IsDigitsTest AreDigits
tells = record {
  empty = refl;
  parts = λ c cs p. let q = and_parts (is_digit_byte c) _ p in let r = and_parts (nat_le 48 c) _ q.0 in ((leb-true 48 c r.0, leb-true c 57 r.1), q.1);
  more = λ c cs k p. and_from _ _ (and_from _ _ (le-leb 48 c k.0) (le-leb c 57 k.1)) p;
}

folds : FoldsDigits valued
folds = record { empty = λ n. refl; more = λ n c cs k. refl }

model : IsNumeralModel AreDigits (valued 0)
model = numerals_by_fold AreDigits tells valued folds

pub are_digits : (n : ℕ) → n < 2 ^ 64 → AreDigits (decimal n)
are_digits n h = digits_decimal model n h

grows : (n : ℕ) (bs : List ℕ) → n ≤ valued n bs
grows n [] = omega arith
grows n (b ∷ bs) = let more = grows (n * 10 + (b - 48)) bs in omega (arith, more)

pub read_digits : (limit n : ℕ) (bs : List ℕ) → 2 ^ 64 ≡ limit → AreDigits bs → valued n bs < limit → digits_from n bs ≡ Some (valued n bs)
read_digits limit n [] is ds lt = refl
read_digits limit n (b ∷ bs) is ds lt =
    let p = and_parts (is_digit_byte b) _ ds in
    let more = grows (n * 10 + (b - 48)) bs in
    let fits = lt-ltb (n * 10 + (b - 48)) limit (omega (arith, more, lt)) in
    let yes = and_from (is_digit_byte b) (nat_lt (n * 10 + (b - 48)) (2 ^ 64)) p.0 (ap (λ k. nat_lt (n * 10 + (b - 48)) k) is ∙ fits) in
    ap (λ (t : Bool). if t then digits_from (n * 10 + (b - 48)) bs else None) yes ∙ read_digits limit (n * 10 + (b - 48)) bs is p.1 lt

pub read_decimal : (n : ℕ) → n < 2 ^ 64 → digits_from 0 (decimal n) ≡ Some n
read_decimal n h =
    let value = digits_value-decimal model n h in
    read_digits (2 ^ 64) 0 (decimal n) refl (are_digits n h) (subst (λ k. k < 2 ^ 64) (sym value) h) ∙ ap Some value

pub read_back : (n : ℕ) → n < 2 ^ 64 → number_of (decimal n) ≡ Some n
read_back n h = rw (read_decimal n h, (bytes_eq-Decides (decimal n) (decimal n)).1 refl) refl

-- what reads as a text does reads as the number that is written so
pub only_number : (text : List ℕ) (n : ℕ) → n < 2 ^ 64 → decimal n ≡ text → number_of text ≡ Some n
only_number text n h e = ap number_of (sym e) ∙ read_back n h

-- digits that are read give a number of 64 bits
digits_fit : (n m : ℕ) (bs : List ℕ) → n < 2 ^ 64 → digits_from n bs ≡ Some m → m < 2 ^ 64
digits_fit n m [] h is = subst (λ k. k < 2 ^ 64) (same_Some _ _ is) h
digits_fit n m (b ∷ bs) h is = by_test (λ fits goes_on. digits_fit (n * 10 + (b - 48)) m bs fits goes_on) _ refl
  where
    next : ℕ
    next = n * 10 + (b - 48)

    on : Bool → Option ℕ
    on t = if t then digits_from next bs else None

    by_test : (next < 2 ^ 64 → digits_from next bs ≡ Some m → m < 2 ^ 64) → (t : Bool) → (is_digit_byte b && nat_lt next (2 ^ 64)) ≡ t → m < 2 ^ 64
    by_test rest true e = rest (ltb-true _ _ (and_parts _ _ e).1) (sym (ap on e) ∙ is)
    by_test rest false e = let wrong : Some m ≡ None = sym is ∙ ap on e in absurd cc

-- a number that is read is written so, and has 64 bits
pub number_written : (text : List ℕ) (n : ℕ) → number_of text ≡ Some n → (decimal n ≡ text) × (n < 2 ^ 64)
number_written text n is = by_digits (digits_from 0 text) refl
  where
    when_same : ℕ → Option ℕ
    when_same m = if bytes_eq (decimal m) text then Some m else None

    by_test : (m : ℕ) → digits_from 0 text ≡ Some m → (t : Bool) → bytes_eq (decimal m) text ≡ t → (decimal n ≡ text) × (n < 2 ^ 64)
    by_test m d true e =
        let chosen : number_of text ≡ Some m = ap (λ o. option_and_then when_same o) d ∙ ap (λ (t : Bool). if t then Some m else None) e in
        let same : m ≡ n = same_Some _ _ (sym chosen ∙ is) in
        (ap decimal (sym same) ∙ (bytes_eq-Decides (decimal m) text).0 e, subst (λ k. k < 2 ^ 64) same (digits_fit 0 m text (omega arith) d))
    by_test m d false e =
        let none : number_of text ≡ None = ap (λ o. option_and_then when_same o) d ∙ ap (λ (t : Bool). if t then Some m else None) e in
        let wrong : Some n ≡ None = sym is ∙ none in absurd cc

    by_digits : (o : Option ℕ) → digits_from 0 text ≡ o → (decimal n ≡ text) × (n < 2 ^ 64)
    by_digits (Some m) d = by_test m d (bytes_eq (decimal m) text) refl
    by_digits None d =
        let none : number_of text ≡ None = ap (λ o. option_and_then when_same o) d in
        let wrong : Some n ≡ None = sym is ∙ none in absurd cc
