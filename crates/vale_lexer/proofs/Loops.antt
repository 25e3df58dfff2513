-- What the loops keep.
use Rattle.std.proofs.Common.{◌≡◌, ℕ, zero, suc, ◌+◌, ◌*◌, ◌^◌, ◌≤◌, ◌<◌, Bool, true, false, cond, List, [], ◌∷◌, length, take, drop, get_or, drop-cons, Option, Some, None, refl, sym, ap, ◌∙◌, subst, arith, option_map, codes, nat_lt}
use native.Mathlib.Numerals.{unary_clauses}
use Rattle.std.proofs.lemmas.Bool.{le-ltb, lt-ltb, ltb-false}
use Rattle.vale_syntax.specs.Tokens.{begins, close_len, number_after, digit, wide_number, digits_value, hex_len, number_of, number, number_by_suffix}

-- The end of a comment.
closes : (bytes : List ℕ) → begins (codes "*/") bytes ≡ true → close_len bytes ≡ Some 2
unfolding close_len
closes [] h = absurd cc
closes (b ∷ bs) h = ap (λ t. cond t (Some 2) (option_map (λ n. n + 1) (close_len bs))) h

goes_on : (bytes : List ℕ) → begins (codes "*/") bytes ≡ false → close_len bytes ≡ option_map (λ n. n + 1) (close_len (drop 1 bytes))
unfolding close_len
goes_on [] h = refl
goes_on (b ∷ bs) h = ap (λ t. cond t (Some 2) (option_map (λ n. n + 1) (close_len bs))) h

ends_open : close_len [] ≡ None
unfolding close_len
ends_open = refl

drop_more : (i : ℕ) (bytes : List ℕ) → drop 1 (drop i bytes) ≡ drop (i + 1) bytes
drop_more i bytes = simp unary_clauses (one i bytes)
  where
    one : (i : ℕ) (bytes : List ℕ) → drop 1 (drop i bytes) ≡ drop (suc i) bytes
    one zero bytes = refl
    one (suc i) [] = refl
    one (suc i) (b ∷ bs) = one i bs

drop_end : (i : ℕ) (bytes : List ℕ) → length bytes ≤ i → drop i bytes ≡ []
drop_end i [] h = drop_nil i
  where
    drop_nil : (i : ℕ) → ◌≡◌ {A = List ℕ} (drop i []) []
    drop_nil zero = refl
    drop_nil (suc i) = refl
drop_end zero (b ∷ bs) h = absurd (over h)
  where
    over : suc (length bs) ≤ 0 → ⊥
    over h = omega arith
drop_end (suc i) (b ∷ bs) h = drop_end i bs (omega arith)

-- where the end of a comment is found, and what is behind one byte more
abbrev pub CloseAt : ℕ → List ℕ → Type 0
CloseAt i bytes = close_len bytes ≡ option_map (λ n. n + i) (close_len (drop i bytes))

pub close_here : (i : ℕ) (bytes : List ℕ) → CloseAt i bytes → begins (codes "*/") (drop i bytes) ≡ true → Some (i + 2) ≡ close_len bytes
close_here i bytes h e = ap Some (swap i) ∙ ap (option_map (λ n. n + i)) (sym (closes (drop i bytes) e)) ∙ sym h
  where
    swap : (i : ℕ) → i + 2 ≡ 2 + i
    swap i = omega arith

pub close_next : (i : ℕ) (bytes : List ℕ) → CloseAt i bytes → begins (codes "*/") (drop i bytes) ≡ false → CloseAt (i + 1) bytes
close_next i bytes h e =
    h ∙ ap (option_map (λ n. n + i)) (goes_on (drop i bytes) e ∙ ap (λ d. option_map (λ n. n + 1) (close_len d)) (drop_more i bytes)) ∙ twice (close_len (drop (i + 1) bytes))
  where
    sums : (n i : ℕ) → n + 1 + i ≡ n + (i + 1)
    sums n i = omega arith

    twice : (o : Option ℕ) → option_map (λ n. n + i) (option_map (λ n. n + 1) o) ≡ option_map (λ n. n + (i + 1)) o
    twice None = refl
    twice (Some n) = ap Some (sums n i)

pub close_end : (i : ℕ) (bytes : List ℕ) → CloseAt i bytes → length bytes ≤ i → None ≡ close_len bytes
close_end i bytes h e = sym (h ∙ ap (λ d. option_map (λ n. n + i) (close_len d)) (drop_end i bytes e) ∙ ap (option_map (λ n. n + i)) ends_open)

-- What digits write.
number_grows : (radix n : ℕ) (digits : List ℕ) → 1 ≤ radix → n ≤ number_after radix n digits
number_grows radix n [] h = omega arith
number_grows radix n (d ∷ ds) h =
    let rest = number_grows radix (n * radix + digit d) ds h in
    let more = grows n radix (digit d) h in
    omega (arith, rest, more)
  where
    times_suc : (n r : ℕ) → n * suc r ≡ n * r + n
    times_suc n r = simp unary_clauses refl

    grows : (n radix d : ℕ) → 1 ≤ radix → n ≤ n * radix + d
    grows n zero d h = omega arith
    grows n (suc r) d h = let times = times_suc n r in omega (arith, times)

pub number_step : (radix n i : ℕ) (digits : List ℕ) (d : ℕ) → i < length digits → number_after radix (n * radix + digit (get_or digits i d)) (drop (suc i) digits) ≡ number_after radix n (drop i digits)
number_step radix n i digits d h = ap (number_after radix n) (sym (drop-cons digits i d h))

-- none below 2^128 from some digit on is none at the end
pub value_none : (radix n : ℕ) (digits rest : List ℕ) → 1 ≤ radix → number_after radix n rest ≡ number_after radix 0 digits → wide_number n ≡ None → None ≡ digits_value radix digits
value_none radix n digits rest h e f =
    let grows = number_grows radix n rest h in
    let above : 2 ^ 128 ≤ number_after radix 0 digits = omega (arith, e, grows, above_of n f) in
    by_test (nat_lt (number_after radix 0 digits) (2 ^ 128)) (le-ltb _ _ above)
  where
    above_of : (n : ℕ) → wide_number n ≡ None → 2 ^ 128 ≤ n
    above_of n f = at_test (nat_lt n (2 ^ 128)) refl f
      where
        at_test : (t : Bool) → nat_lt n (2 ^ 128) ≡ t → cond t (Some n) None ≡ None → 2 ^ 128 ≤ n
        at_test true e f = absurd cc
        at_test false e f = ltb-false _ _ e

    by_test : (t : Bool) → t ≡ false → None ≡ cond t (Some (number_after radix 0 digits)) None
    by_test true e = absurd cc
    by_test false e = refl

pub number_end : (radix n i : ℕ) (digits : List ℕ) → length digits ≤ i → number_after radix n (drop i digits) ≡ number_after radix 0 digits → n ≡ number_after radix 0 digits
number_end radix n i digits h e = ap (number_after radix n) (sym (drop_end i digits h)) ∙ e

pub value_some : (radix n : ℕ) (digits : List ℕ) → n ≡ number_after radix 0 digits → n < 2 ^ 128 → Some n ≡ digits_value radix digits
value_some radix n digits e h = subst (λ k. Some n ≡ wide_number k) e (ap (λ t. cond t (Some n) None) (sym (lt-ltb _ _ h)))

pub number_hex : (bytes : List ℕ) (n : ℕ) → 0 < n → n ≡ hex_len bytes → number_by_suffix (digits_value 16 (take n (drop 2 bytes))) (n + 2) (drop n (drop 2 bytes)) ≡ number bytes
number_hex bytes zero h e = absurd (over h)
  where
    over : 0 < 0 → ⊥
    over h = omega arith
number_hex bytes (suc n) h e = ap (λ k. number_of k bytes) e
