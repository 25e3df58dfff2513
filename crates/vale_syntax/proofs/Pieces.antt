-- What stands at the front of a text that begins with a name, a number or a mark.
use Rattle.std.proofs.Common.{◌≡◌, ℕ, suc, ◌+◌, ◌-◌, ◌*◌, ◌/◌, ◌%◌, ◌^◌, ◌<◌, ◌≤◌, Bool, true, false, cond, not, ◌&&◌, ◌||◌, List, [], ◌∷◌, ◌++◌, length, take, drop, Some, None, ◌⊎◌, inl, inr, refl, sym, ◌∙◌, ap, subst, arith, decimal, append_assoc, length-append}
use native.Mathlib.Numerals.{unary_clauses}
use Rattle.std.specs.Prelude.{◌==◌, nat_lt, nat_le, codes, slice_index}
use Rattle.std.specs.List.{list_all, prefix_len}
use Rattle.std.proofs.lemmas.Bool.{and_parts, and_from, or_parts, eqb-true, leb-true, le-leb, lt-leb, lt-ltb, ltb-true, false≢true}
use Rattle.std.proofs.lemmas.Fmt.{decimal_by_steps_wide}
use Rattle.std.proofs.lemmas.Nat.{div-add-mod', mod_below}
use Rattle.x64_syntax.specs.Words.{is_digit_byte, is_letter_byte, is_name_byte, is_name_text}
use Rattle.vale_syntax.specs.declared.token.TokenKind.{TokenKind}
use Rattle.vale_syntax.specs.declared.token.TokenKind.TheVariants as kind
use Rattle.vale_syntax.specs.declared.token.Front.TheVariants.{Skipped, Taken, Stopped}
use Rattle.vale_syntax.specs.declared.token.NotAToken.TheVariants.{NumberTooLarge}
use Rattle.vale_syntax.specs.Tokens.{is_blank, is_stamp_byte, stamp_len, name_front, front_of_name, is_hex_byte, digit, number_after, wide_number, digits_value, number_front, number_by_suffix, hex_len, number_of, number, other_front, front}
use Rattle.vale_syntax.specs.inner.Print.{IsStamped}
use Rattle.vale_syntax.proofs.Lexing.{take_front, drop_front}

-- what ends a name or number before it: the end, or a byte that stands in neither
unfoldable pub ends : ℕ → Bool
ends b = not (is_name_byte b) && not (b == 46)

unfoldable pub Ends : List ℕ → Type 0
Ends [] = Unit {0}
Ends (b ∷ bs) = ends b ≡ true

-- no byte that passes stands at the front
Stops : (ℕ → Bool) → List ℕ → Type 0
Stops p [] = Unit {0}
Stops p (b ∷ bs) = p b ≡ false

not_false : (b : Bool) → not b ≡ true → b ≡ false
not_false false h = refl
not_false true h = absurd (false≢true h)

one : (n : ℕ) → 1 + n ≡ suc n
one n = omega arith

run : (p : ℕ → Bool) (xs rest : List ℕ) → list_all p xs ≡ true → Stops p rest → prefix_len p (xs ++ rest) ≡ length xs
unfolding Stops
run p [] [] h k = refl
run p [] (b ∷ bs) h k = ap (λ t. cond t (1 + prefix_len p bs) 0) k
run p (x ∷ xs) rest h k =
    let q = and_parts (p x) (list_all p xs) h in
    ap (λ t. cond t (1 + prefix_len p (xs ++ rest)) 0) q.0 ∙ ap (λ n. 1 + n) (run p xs rest q.1 k) ∙ one (length xs)

ends_names : (rest : List ℕ) → Ends rest → Stops is_name_byte rest
unfolding Ends Stops ends
ends_names [] h = tt
ends_names (b ∷ bs) h = not_false _ (and_parts _ _ h).0

-- digits are bytes of names, and so are those of stamps
digit_in_name : (b : ℕ) → is_name_byte b ≡ false → is_digit_byte b ≡ false
digit_in_name b h = (or_parts (is_letter_byte b) (is_digit_byte b) h).1

or_cases : (a b : Bool) → (a || b) ≡ true → (a ≡ true) ⊎ (b ≡ true)
or_cases true b h = inl refl
or_cases false b h = inr h

ends_digits : (rest : List ℕ) → Ends rest → Stops is_digit_byte rest
unfolding Ends Stops ends
ends_digits [] h = tt
ends_digits (b ∷ bs) h = digit_in_name b (not_false _ (and_parts _ _ h).0)

letter_or_digit : (b : ℕ) → is_stamp_byte b ≡ true → is_name_byte b ≡ true
letter_or_digit b h = by_parts (or_cases (is_digit_byte b) _ h)
  where
    or_right : (a b : Bool) → b ≡ true → (a || b) ≡ true
    or_right true b h = refl
    or_right false b h = h

    or_left : (a b : Bool) → a ≡ true → (a || b) ≡ true
    or_left true b h = refl
    or_left false b h = absurd (false≢true h)

    by_parts : (is_digit_byte b ≡ true) ⊎ ((nat_le 97 b && nat_le b 122) ≡ true) → is_name_byte b ≡ true
    by_parts (inl d) = or_right (is_letter_byte b) _ d
    by_parts (inr l) = or_left (is_letter_byte b) _ (or_left (nat_le 97 b && nat_le b 122 || nat_le 65 b && nat_le b 90) _ (or_left (nat_le 97 b && nat_le b 122) _ l))

ends_stamps : (rest : List ℕ) → Ends rest → Stops is_stamp_byte rest
unfolding Ends Stops ends
ends_stamps [] h = tt
ends_stamps (b ∷ bs) h = by_test (is_stamp_byte b) refl
  where
    by_test : (t : Bool) → is_stamp_byte b ≡ t → is_stamp_byte b ≡ false
    by_test false e = e
    by_test true e = absurd (false≢true (sym (not_false _ (and_parts _ _ h).0) ∙ letter_or_digit b e))

-- no dot follows
stamp_none : (rest : List ℕ) → Ends rest → stamp_len rest ≡ 0
unfolding Ends ends
stamp_none [] h = refl
stamp_none (b ∷ bs) h = ap (λ t. cond (t && nat_lt 0 (prefix_len is_stamp_byte bs)) (prefix_len is_stamp_byte bs + 1) 0) (not_false _ (and_parts _ _ h).1)

differs : (b k : ℕ) → k < b → (b == k) ≡ false
differs b k h = by_test (b == k) refl
  where
    by_test : (t : Bool) → (b == k) ≡ t → t ≡ false
    by_test false e = refl
    by_test true e = let f = eqb-true b k e in absurd (omega (arith, f, h))

not_blank : (b : ℕ) → 32 < b → is_blank b ≡ false
not_blank b h = rw (differs b 32 h, differs b 10 (omega (arith, h)), differs b 13 (omega (arith, h)), differs b 9 (omega (arith, h))) refl

letter_big : (b : ℕ) → is_letter_byte b ≡ true → 65 ≤ b
letter_big b h = by_line (or_cases _ (b == 95) h)
  where
    by_case : ((nat_le 97 b && nat_le b 122) ≡ true) ⊎ ((nat_le 65 b && nat_le b 90) ≡ true) → 65 ≤ b
    by_case (inl l) = let f = leb-true 97 b (and_parts _ _ l).0 in omega (arith, f)
    by_case (inr l) = leb-true 65 b (and_parts _ _ l).0

    by_line : ((nat_le 97 b && nat_le b 122 || nat_le 65 b && nat_le b 90) ≡ true) ⊎ ((b == 95) ≡ true) → 65 ≤ b
    by_line (inl l) = by_case (or_cases (nat_le 97 b && nat_le b 122) _ l)
    by_line (inr e) = let f = eqb-true b 95 e in omega (arith, f)

and_false : (a b : Bool) → b ≡ false → (a && b) ≡ false
and_false true b h = h
and_false false b h = refl

or_true : (a b : Bool) → a ≡ true → (a || b) ≡ true
or_true true b h = refl
or_true false b h = absurd (false≢true h)

-- a byte that begins a name is no blank and no digit
letter_front : (b : ℕ) (bs : List ℕ) → is_letter_byte b ≡ true → front (b ∷ bs) ≡ front_of_name (b ∷ bs)
letter_front b bs h =
    let big = letter_big b h in
    ap (λ t. cond t (Skipped 1) (cond (is_digit_byte b) (number (b ∷ bs)) (cond (is_name_byte b) (front_of_name (b ∷ bs)) (other_front (b ∷ bs))))) (not_blank b (omega (arith, big)))
    ∙ ap (λ t. cond t (number (b ∷ bs)) (cond (is_name_byte b) (front_of_name (b ∷ bs)) (other_front (b ∷ bs)))) (and_false (nat_le 48 b) _ (lt-leb b 57 (omega (arith, big))))
    ∙ ap (λ t. cond t (front_of_name (b ∷ bs)) (other_front (b ∷ bs))) (or_true (is_letter_byte b) (is_digit_byte b) h)

digit_front : (b : ℕ) (bs : List ℕ) → is_digit_byte b ≡ true → front (b ∷ bs) ≡ number (b ∷ bs)
digit_front b bs h =
    let big = leb-true 48 b (and_parts _ _ h).0 in
    ap (λ t. cond t (Skipped 1) (cond (is_digit_byte b) (number (b ∷ bs)) (cond (is_name_byte b) (front_of_name (b ∷ bs)) (other_front (b ∷ bs))))) (not_blank b (omega (arith, big)))
    ∙ ap (λ t. cond t (number (b ∷ bs)) (cond (is_name_byte b) (front_of_name (b ∷ bs)) (other_front (b ∷ bs)))) h

-- names
named_is : (name rest : List ℕ) → list_all is_name_byte name ≡ true → Ends rest → front_of_name (name ++ rest) ≡ Taken kind.Name (length name)
named_is name rest h k =
    let n = run is_name_byte name rest h (ends_names rest k) in
    ap (λ n. name_front n (stamp_len (drop n (name ++ rest)))) n ∙ ap (name_front (length name)) (ap stamp_len (drop_front name rest) ∙ stamp_none rest k)

-- a name's first byte is a letter, and the others may stand in names
name_parts : (name : List ℕ) → is_name_text name ≡ true → (0 < length name) × (is_letter_byte (slice_index name 0) ≡ true) × (list_all is_name_byte name ≡ true)
name_parts name h =
    let p = and_parts _ _ h in
    let q = and_parts _ _ p.0 in
    (ltb-true 0 (length name) q.0, q.1, p.1)

pub name_piece : (name rest : List ℕ) → is_name_text name ≡ true → Ends rest → front (name ++ rest) ≡ Taken kind.Name (length name)
name_piece [] rest h k = let p = name_parts [] h in absurd (omega (arith, p.0))
name_piece (b ∷ bs) rest h k =
    let p = name_parts (b ∷ bs) h in
    letter_front b (bs ++ rest) p.1 ∙ named_is (b ∷ bs) rest p.2 k

pub stamped_piece : (text rest : List ℕ) → IsStamped text → Ends rest → front (text ++ rest) ≡ Taken kind.Stamped (length text)
unfolding Stops
stamped_piece text rest s k = subst (λ t. front (t ++ rest) ≡ Taken kind.Stamped (length t)) (sym s.whole) (by_name s.name s.is_name)
  where
    stamp_run : prefix_len is_stamp_byte (s.stamp ++ rest) ≡ length s.stamp
    stamp_run = run is_stamp_byte s.stamp rest s.stamped (ends_stamps rest k)

    stamp_is : stamp_len (46 ∷ s.stamp ++ rest) ≡ length s.stamp + 1
    stamp_is =
        ap (λ n. cond (nat_lt 0 n) (n + 1) 0) stamp_run ∙ ap (λ t. cond t (length s.stamp + 1) 0) (lt-ltb 0 (length s.stamp) s.some)

    stamp_front : (n m : ℕ) → name_front n (m + 1) ≡ Taken kind.Stamped (n + (m + 1))
    stamp_front n m = simp unary_clauses refl

    sizes : (n m : ℕ) → n + (m + 1) ≡ n + suc m
    sizes n m = omega arith

    by_name : (name : List ℕ) → is_name_text name ≡ true → front ((name ++ 46 ∷ s.stamp) ++ rest) ≡ Taken kind.Stamped (length (name ++ 46 ∷ s.stamp))
    by_name [] h = let p = name_parts [] h in absurd (omega (arith, p.0))
    by_name (b ∷ bs) h =
        let p = name_parts (b ∷ bs) h in
        letter_front b ((bs ++ 46 ∷ s.stamp) ++ rest) p.1
        ∙ ap (λ l. front_of_name (b ∷ l)) (append_assoc bs (46 ∷ s.stamp) rest)
        ∙ ap (λ n. name_front n (stamp_len (drop n ((b ∷ bs) ++ (46 ∷ (s.stamp ++ rest)))))) (run is_name_byte (b ∷ bs) (46 ∷ (s.stamp ++ rest)) p.2 refl)
        ∙ ap (name_front (length (b ∷ bs))) (ap stamp_len (drop_front (b ∷ bs) (46 ∷ (s.stamp ++ rest))) ∙ stamp_is)
        ∙ stamp_front (length (b ∷ bs)) (length s.stamp)
        ∙ ap (Taken kind.Stamped) (sizes (length (b ∷ bs)) (length s.stamp) ∙ sym (length-append (b ∷ bs) (46 ∷ s.stamp)))

-- numbers
digit_of : (k : ℕ) → k < 10 → (is_digit_byte (48 + k) ≡ true) × (digit (48 + k) ≡ k)
digit_of k h = (is, ap (λ t. cond t (48 + k - 48) (cond (nat_le 97 (48 + k)) (48 + k - 87) (48 + k - 55))) is ∙ back)
  where
    is : is_digit_byte (48 + k) ≡ true
    is = and_from _ _ (le-leb 48 (48 + k) (omega arith)) (le-leb (48 + k) 57 (omega (arith, h)))

    back : 48 + k - 48 ≡ k
    back = omega arith

number_last : (n : ℕ) (ds : List ℕ) (d : ℕ) → number_after 10 n (ds ++ d ∷ []) ≡ number_after 10 n ds * 10 + digit d
number_last n [] d = refl
number_last n (e ∷ ds) d = number_last (n * 10 + digit e) ds d

Numeral : ℕ → List ℕ → Type 0
Numeral n ds = (list_all is_digit_byte ds ≡ true) × (number_after 10 0 ds ≡ n) × (1 ≤ length ds)

all_last : (ds : List ℕ) (d : ℕ) → list_all is_digit_byte ds ≡ true → is_digit_byte d ≡ true → list_all is_digit_byte (ds ++ d ∷ []) ≡ true
all_last [] d h k = and_from _ _ k refl
all_last (e ∷ ds) d h k = let p = and_parts (is_digit_byte e) _ h in and_from _ _ p.0 (all_last ds d p.1 k)

decimal_numeral : (n : ℕ) → n < 10 ^ 64 → Numeral n (decimal n)
unfolding Numeral
decimal_numeral n h = decimal_by_steps_wide Numeral one_digit more_digits n h
  where
    last : (n : ℕ) → number_after 10 0 ((48 + n) ∷ []) ≡ digit (48 + n)
    last n = omega arith

    some_last : (ds : List ℕ) (d : ℕ) → 1 ≤ length (ds ++ d ∷ [])
    some_last [] d = omega arith
    some_last (e ∷ ds) d = omega arith

    one_digit : (n : ℕ) → n < 10 → Numeral n ((48 + n) ∷ [])
    one_digit n h = let d = digit_of n h in (and_from _ _ d.0 refl, last n ∙ d.1, omega arith)

    more_digits : (n : ℕ) (ds : List ℕ) → 10 ≤ n → Numeral (n / 10) ds → Numeral n (ds ++ ((48 + n % 10) ∷ []))
    more_digits n ds h m =
        let d = digit_of (n % 10) (mod_below n 10 (omega arith)) in
        let last = number_last 0 ds (48 + n % 10) in
        let whole = div-add-mod' n 10 in
        (all_last ds (48 + n % 10) m.0 d.0, last ∙ ap (λ k. k * 10 + digit (48 + n % 10)) m.1 ∙ ap (λ k. n / 10 * 10 + k) d.1 ∙ whole, some_last ds (48 + n % 10))

below_differs : (b k : ℕ) → b < k → (b == k) ≡ false
below_differs b k h = by_test (b == k) refl
  where
    by_test : (t : Bool) → (b == k) ≡ t → t ≡ false
    by_test false e = refl
    by_test true e = let f = eqb-true b k e in absurd (omega (arith, f, h))

-- no `0x` begins
hex_second : (d e : ℕ) (bs : List ℕ) → (e == 120) ≡ false → hex_len (d ∷ e ∷ bs) ≡ 0
hex_second d e bs h = rw h (by_first (d == 48))
  where
    by_first : (t : Bool) → cond (t && false) (prefix_len is_hex_byte bs) 0 ≡ 0
    by_first true = refl
    by_first false = refl

hex_one : (d : ℕ) → hex_len (d ∷ []) ≡ 0
hex_one d = by_first (d == 48)
  where
    by_first : (t : Bool) → cond (t && false) (prefix_len is_hex_byte []) 0 ≡ 0
    by_first true = refl
    by_first false = refl

hex_none : (ds rest : List ℕ) → 1 ≤ length ds → list_all is_digit_byte ds ≡ true → Stops (λ b. b == 120) rest → hex_len (ds ++ rest) ≡ 0
unfolding Stops
hex_none [] rest some h k = absurd (omega (arith, some))
hex_none (d ∷ []) [] some h k = hex_one d
hex_none (d ∷ []) (b ∷ bs) some h k = hex_second d b bs k
hex_none (d ∷ e ∷ es) rest some h k =
    let p = and_parts (is_digit_byte e) _ (and_parts (is_digit_byte d) _ h).1 in
    let small : e ≤ 57 = leb-true e 57 (and_parts (nat_le 48 e) (nat_le e 57) p.0).1 in
    hex_second d e (es ++ rest) (below_differs e 120 (omega (arith, small)))

-- the digits of a number, and what stands behind them
number_piece : (n : ℕ) (rest : List ℕ) → n < 2 ^ 128 → Stops is_digit_byte rest → Stops (λ b. b == 120) rest → front (decimal n ++ rest) ≡ number_by_suffix (Some n) (length (decimal n)) rest
unfolding Numeral
number_piece n rest h k l = by_digits (decimal n) (decimal_numeral n (omega (arith, h)))
  where
    number_at : (ds : List ℕ) → hex_len (ds ++ rest) ≡ 0 → list_all is_digit_byte ds ≡ true → number_after 10 0 ds ≡ n → number (ds ++ rest) ≡ number_by_suffix (Some n) (length ds) rest
    number_at ds none all is =
        ap (λ m. number_of m (ds ++ rest)) none
        ∙ ap (λ m. number_by_suffix (digits_value 10 (take m (ds ++ rest))) m (drop m (ds ++ rest))) (run is_digit_byte ds rest all k)
        ∙ ap (λ l. number_by_suffix (digits_value 10 l) (length ds) (drop (length ds) (ds ++ rest))) (take_front ds rest)
        ∙ ap (λ l. number_by_suffix (digits_value 10 ds) (length ds) l) (drop_front ds rest)
        ∙ ap (λ m. number_by_suffix (wide_number m) (length ds) rest) is
        ∙ ap (λ t. number_by_suffix (cond t (Some n) None) (length ds) rest) (lt-ltb n (2 ^ 128) h)

    by_digits : (ds : List ℕ) → (list_all is_digit_byte ds ≡ true) × (number_after 10 0 ds ≡ n) × (1 ≤ length ds) → front (ds ++ rest) ≡ number_by_suffix (Some n) (length ds) rest
    by_digits [] p = absurd (omega (arith, p.2))
    by_digits (d ∷ ds) p =
        digit_front d (ds ++ rest) (and_parts _ _ p.0).0 ∙ number_at (d ∷ ds) (hex_none (d ∷ ds) rest p.2 p.0 l) p.0 p.1

below_is : (limit n len : ℕ) (k : ℕ → TokenKind) → n < limit → number_front limit k len (Some n) ≡ Taken (k n) len
below_is limit n len k h = ap (λ t. cond t (Taken (k n) len) (Stopped NumberTooLarge)) (lt-ltb n limit h)

not_in_names : (b c : ℕ) → ends b ≡ true → is_name_byte c ≡ true → (b == c) ≡ false
unfolding ends
not_in_names b c h k = by_test (b == c) refl
  where
    by_test : (t : Bool) → (b == c) ≡ t → t ≡ false
    by_test false e = refl
    by_test true e = absurd (false≢true (sym (not_false _ (and_parts _ _ h).0) ∙ ap is_name_byte (eqb-true b c e) ∙ k))

ends_x : (rest : List ℕ) → Ends rest → Stops (λ b. b == 120) rest
unfolding Ends Stops
ends_x [] h = tt
ends_x (b ∷ bs) h = not_in_names b 120 h refl

no_suffix : (n len : ℕ) (rest : List ℕ) → n < 2 ^ 127 → Ends rest → number_by_suffix (Some n) len rest ≡ Taken (kind.Int n) len
unfolding Ends
no_suffix n len [] h k = below_is (2 ^ 127) n len kind.Int h
no_suffix n len (b ∷ bs) h k =
    ap (λ t. cond t (number_front (2 ^ 64) kind.Word (len + 1) (Some n)) (cond (b == 118) (number_front (2 ^ 128) kind.Wide (len + 1) (Some n)) (number_front (2 ^ 127) kind.Int len (Some n)))) (not_in_names b 119 k refl)
    ∙ ap (λ t. cond t (number_front (2 ^ 128) kind.Wide (len + 1) (Some n)) (number_front (2 ^ 127) kind.Int len (Some n))) (not_in_names b 118 k refl)
    ∙ below_is (2 ^ 127) n len kind.Int h

pub int_piece : (n : ℕ) (rest : List ℕ) → n < 2 ^ 127 → Ends rest → front (decimal n ++ rest) ≡ Taken (kind.Int n) (length (decimal n))
int_piece n rest h k = number_piece n rest (omega (arith, h)) (ends_digits rest k) (ends_x rest k) ∙ no_suffix n (length (decimal n)) rest h k

pub word_piece : (n : ℕ) (rest : List ℕ) → n < 2 ^ 64 → front ((decimal n ++ codes "w") ++ rest) ≡ Taken (kind.Word n) (length (decimal n ++ codes "w"))
unfolding Stops
word_piece n rest h =
    ap front (append_assoc (decimal n) (codes "w") rest)
    ∙ number_piece n (119 ∷ rest) (omega (arith, h)) refl refl
    ∙ below_is (2 ^ 64) n (length (decimal n) + 1) kind.Word h
    ∙ ap (Taken (kind.Word n)) (sym (length-append (decimal n) (codes "w")))

pub wide_piece : (n : ℕ) (rest : List ℕ) → n < 2 ^ 128 → front ((decimal n ++ codes "v") ++ rest) ≡ Taken (kind.Wide n) (length (decimal n ++ codes "v"))
unfolding Stops
wide_piece n rest h =
    ap front (append_assoc (decimal n) (codes "v") rest)
    ∙ number_piece n (118 ∷ rest) h refl refl
    ∙ below_is (2 ^ 128) n (length (decimal n) + 1) kind.Wide h
    ∙ ap (Taken (kind.Wide n)) (sym (length-append (decimal n) (codes "v")))

pub decimal_some : (n : ℕ) → n < 2 ^ 128 → 1 ≤ length (decimal n)
unfolding Numeral
decimal_some n h = (decimal_numeral n (omega (arith, h))).2
