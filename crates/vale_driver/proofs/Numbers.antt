-- Numbers in decimal digits.
use Rattle.std.proofs.Common.{◌≡◌, ℕ, ◌<◌, ◌≤◌, ◌^◌, ◌⊎◌, inl, inr, length, arith, nat_le, Err, true, List, Some, None, Result, Ok, refl, ap, ◌∙◌}
use Rattle.std.specs.Str.Parse.{digits_value, ParsesUnsigned}
use Rattle.std.proofs.lemmas.Bool.{and_parts, and_from, and_right, leb-true, le-leb, lt-leb, cases_lt}
use Rattle.std.proofs.lemmas.Str.Parse.{IsDigitsTest, numerals_by_value, parse_digits}
use Rattle.std.specs.List.{list_all}
use Rattle.std.specs.Result.{OkIff, result_ok}
use Rattle.x64_syntax.specs.Words.{is_digit_byte}
use Rattle.vale_driver.specs.Words.{is_number, step_count, value_if}
use Rattle.vale_driver.specs.Limits.{step_limit}

-- digits, as words have them
tells : IsDigitsTest (λ ds. list_all is_digit_byte ds ≡ true)
tells = record {
  empty = refl;
  parts = λ c cs p. let q = and_parts (is_digit_byte c) _ p in let r = and_parts (nat_le 48 c) _ q.0 in ((leb-true 48 c r.0, leb-true c 57 r.1), q.1);
  more = λ c cs k p. and_from _ _ (and_from _ _ (le-leb 48 c k.0) (le-leb c 57 k.1)) p;
}

module _ {E : Type 0} (word : List ℕ) (r : Result ℕ E) (number : is_number word ≡ true) (parsed : ParsesUnsigned 64 10 word r) where
  read : OkIff r ((0 < length word) × (digits_value 10 word < 2 ^ 64)) (digits_value 10 word)
  read = parse_digits (numerals_by_value _ tells) 64 word r parsed (and_parts _ (list_all is_digit_byte word) number).1

  some_ : 0 < length word
  some_ = leb-true 1 (length word) (and_parts (nat_le 1 (length word)) _ (and_parts _ (list_all is_digit_byte word) number).0).0

  -- a number of more than 64 bits is no number of steps
  pub steps_refused : result_ok r ≡ None → step_count word ≡ None
  steps_refused = by r read
    where
      by : (r : Result ℕ E) → OkIff r ((0 < length word) × (digits_value 10 word < 2 ^ 64)) (digits_value 10 word) → result_ok r ≡ None → step_count word ≡ None
      by (Ok n) h none = absurd cc
      by (Err e) h none = by_size (cases_lt (digits_value 10 word) (2 ^ 64))
        where
          by_size : (digits_value 10 word < 2 ^ 64) ⊎ (2 ^ 64 ≤ digits_value 10 word) → step_count word ≡ None
          by_size (inl lt) = absurd (h (some_, lt))
          by_size (inr ge) =
              ap (λ b. value_if b (digits_value 10 word)) (and_right (is_number word) (nat_le (digits_value 10 word) step_limit) (lt-leb (digits_value 10 word) step_limit (omega (arith, ge))))

  pub steps_value : (n : ℕ) → result_ok r ≡ Some n → n ≡ digits_value 10 word
  steps_value n = by r read
    where
      by : (r : Result ℕ E) → OkIff r ((0 < length word) × (digits_value 10 word < 2 ^ 64)) (digits_value 10 word) → result_ok r ≡ Some n → n ≡ digits_value 10 word
      by (Ok m) h is = let same : n ≡ m = cc in same ∙ h.1
      by (Err e) h is = absurd cc
