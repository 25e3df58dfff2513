-- What stands at the front has at least one byte, and no more than there are.
use Rattle.std.proofs.Common.{◌≡◌, ℕ, zero, suc, ◌+◌, ◌-◌, ◌≤◌, ◌<◌, Bool, true, false, ◌&&◌, ◌==◌, nat_lt, List, [], ◌∷◌, length, take, drop, Option, Some, None, refl, sym, ap, subst, arith, option_map, length-drop, length-take, cond, codes, get_or}
use Rattle.std.specs.List.{find, prefix_len, AllByRecursion}
use Rattle.std.proofs.lemmas.List.Sums.{prefix_len-le-length}
use Rattle.std.proofs.lemmas.Slice.Eq.{bytes_eq-Decides}
use Rattle.std.proofs.lemmas.Option.{same_Some}
use Rattle.x64_syntax.specs.Words.{is_name_byte, is_digit_byte}
use Rattle.vale_syntax.specs.declared.token.TokenKind.{TokenKind}
use Rattle.vale_syntax.specs.declared.token.Front.{Front}
use Rattle.vale_syntax.specs.declared.mark.Mark.{Mark}
use Rattle.vale_syntax.proofs.Marks.{some}
use Rattle.vale_syntax.specs.Tokens.{begins, is_blank, is_in_line, close_len, comment, is_stamp_byte, stamp_len, name_front, front_of_name, is_hex_byte, digits_value, number_front, number_by_suffix, hex_len, number_of, number, marks, mark_front, other_front, front}
use Rattle.vale_lexer.specs.inner.Lexes.{Fits}

-- what begins a text isn't longer
pub begins_short : (literal bytes : List ℕ) → begins literal bytes ≡ true → length literal ≤ length bytes
begins_short literal bytes h =
    let same = ap length ((bytes_eq-Decides (take (length literal) bytes) literal).0 h) in
    let taken = length-take (length literal) bytes in
    omega (arith, same, taken)

-- each way of a choice fits
choice_fits : (t : Bool) (total : ℕ) (f g : Front) → (t ≡ true → Fits total f) → (t ≡ false → Fits total g) → Fits total (cond t f g)
choice_fits true total f g h k = h refl
choice_fits false total f g h k = k refl

pub close_short : (bytes : List ℕ) (n : ℕ) → close_len bytes ≡ Some n → n ≤ length bytes
unfolding close_len
close_short [] n h = absurd cc
close_short (b ∷ bs) n h = by_test (begins (codes "*/") (b ∷ bs)) refl h (λ m e. close_short bs m e)
  where
    one_more : (o : Option ℕ) → option_map (λ k. k + 1) o ≡ Some n → ((m : ℕ) → o ≡ Some m → m ≤ length bs) → n ≤ suc (length bs)
    one_more None e f = absurd cc
    one_more (Some m) e f = let short = f m refl in let same : m + 1 ≡ n = same_Some _ _ e in omega (arith, short, same)

    by_test : (t : Bool) → begins (codes "*/") (b ∷ bs) ≡ t → cond t (Some 2) (option_map (λ k. k + 1) (close_len bs)) ≡ Some n → ((m : ℕ) → close_len bs ≡ Some m → m ≤ length bs) → n ≤ suc (length bs)
    by_test true e f g = let long = begins_short (codes "*/") (b ∷ bs) e in let same : 2 ≡ n = same_Some _ _ f in omega (arith, long, same)
    by_test false e f g = one_more (close_len bs) f g

below_fits : (limit : ℕ) (k : ℕ → TokenKind) (len total : ℕ) (n : Option ℕ) → 1 ≤ len → len ≤ total → Fits total (number_front limit k len n)
below_fits limit k len total None low high = tt
below_fits limit k len total (Some n) low high = choice_fits (nat_lt n limit) total _ _ (λ e. (low, high)) (λ e. tt)

suffixed_fits : (n : Option ℕ) (len total : ℕ) (rest : List ℕ) → 1 ≤ len → len + length rest ≤ total → Fits total (number_by_suffix n len rest)
suffixed_fits n len total [] low high = below_fits _ _ len total n low (omega arith)
suffixed_fits n len total (b ∷ bs) low high =
    choice_fits (b == 119) total _ _ (λ e. below_fits _ _ (len + 1) total n (omega arith) (omega arith))
    (λ e. choice_fits (b == 118) total _ _ (λ e. below_fits _ _ (len + 1) total n (omega arith) (omega arith)) (λ e. below_fits _ _ len total n low (omega arith)))

name_fits : (n m total : ℕ) → 1 ≤ n → n + m ≤ total → Fits total (name_front n m)
name_fits n zero total low high = (low, omega arith)
name_fits n (suc m) total low high = (omega arith, high)

stamp_short : (bytes : List ℕ) → stamp_len bytes ≤ length bytes
stamp_short [] = omega arith
stamp_short (b ∷ bs) = by_test ((b == 46) && nat_lt 0 (prefix_len is_stamp_byte bs)) (prefix_len-le-length is_stamp_byte bs)
  where
    by_test : (t : Bool) → prefix_len is_stamp_byte bs ≤ length bs → cond t (prefix_len is_stamp_byte bs + 1) 0 ≤ suc (length bs)
    by_test true h = omega arith
    by_test false h = omega arith

-- a first byte of the class counts
run_some : (p : ℕ → Bool) (b : ℕ) (bs : List ℕ) → p b ≡ true → 1 ≤ prefix_len p (b ∷ bs)
run_some p b bs h = by_test (p b) h
  where
    by_test : (t : Bool) → t ≡ true → 1 ≤ cond t (1 + prefix_len p bs) 0
    by_test true e = omega arith
    by_test false e = absurd cc

named_fits : (b : ℕ) (bs : List ℕ) → is_name_byte b ≡ true → Fits (length (b ∷ bs)) (front_of_name (b ∷ bs))
named_fits b bs h =
    let n = prefix_len is_name_byte (b ∷ bs) in
    let some = run_some is_name_byte b bs h in
    let short = prefix_len-le-length is_name_byte (b ∷ bs) in
    let stamp = stamp_short (drop n (b ∷ bs)) in
    let left = length-drop n (b ∷ bs) in
    name_fits n (stamp_len (drop n (b ∷ bs))) (length (b ∷ bs)) some (omega (arith, short, stamp, left))

-- the digits behind `0x` and the two bytes before them are there
hex_short : (bytes : List ℕ) (m : ℕ) → hex_len bytes ≡ suc m → suc m + 2 ≤ length bytes
hex_short bytes m h = by_test (begins (codes "0x") bytes) refl h (prefix_len-le-length is_hex_byte (drop 2 bytes)) (length-drop 2 bytes)
  where
    by_test : (t : Bool) → begins (codes "0x") bytes ≡ t → cond t (prefix_len is_hex_byte (drop 2 bytes)) 0 ≡ suc m → prefix_len is_hex_byte (drop 2 bytes) ≤ length (drop 2 bytes) → length (drop 2 bytes) ≡ length bytes - 2 → suc m + 2 ≤ length bytes
    by_test true e f g k = let long = begins_short (codes "0x") bytes e in omega (arith, f, g, k, long)
    by_test false e f g k = absurd cc

number_fits : (b : ℕ) (bs : List ℕ) → is_digit_byte b ≡ true → Fits (length (b ∷ bs)) (number (b ∷ bs))
number_fits b bs h = by_len (hex_len (b ∷ bs)) refl
  where
    by_len : (n : ℕ) → hex_len (b ∷ bs) ≡ n → Fits (length (b ∷ bs)) (number_of n (b ∷ bs))
    by_len zero e =
        let n = prefix_len is_digit_byte (b ∷ bs) in
        let some = run_some is_digit_byte b bs h in
        let short = prefix_len-le-length is_digit_byte (b ∷ bs) in
        let left = length-drop n (b ∷ bs) in
        suffixed_fits (digits_value 10 (take n (b ∷ bs))) n (length (b ∷ bs)) (drop n (b ∷ bs)) some (omega (arith, short, left))
    by_len (suc m) e =
        let short = hex_short (b ∷ bs) m e in
        let left = length-drop 2 (b ∷ bs) in
        let rest = length-drop (suc m) (drop 2 (b ∷ bs)) in
        suffixed_fits (digits_value 16 (take (suc m) (drop 2 (b ∷ bs)))) (suc m + 2) (length (b ∷ bs)) (drop (suc m) (drop 2 (b ∷ bs))) (omega arith) (omega (arith, short, left, rest))

found_begins : (bytes : List ℕ) (ms : List (List ℕ × Mark)) (m : List ℕ × Mark) → find (λ m. begins m.0 bytes) ms ≡ Some m → begins m.0 bytes ≡ true
found_begins bytes [] m h = absurd cc
found_begins bytes (k ∷ ms) m h = by_test (begins k.0 bytes) refl h (found_begins bytes ms m)
  where
    by_test : (t : Bool) → begins k.0 bytes ≡ t → cond t (Some k) (find (λ m. begins m.0 bytes) ms) ≡ Some m → (find (λ m. begins m.0 bytes) ms ≡ Some m → begins m.0 bytes ≡ true) → begins m.0 bytes ≡ true
    by_test true e f g = subst (λ x. begins x.0 bytes ≡ true) (same_Some k m f) e
    by_test false e f g = g f

found_some : (bytes : List ℕ) (ms : List (List ℕ × Mark)) (m : List ℕ × Mark) → AllByRecursion (λ k. 1 ≤ length k.0) ms → find (λ m. begins m.0 bytes) ms ≡ Some m → 1 ≤ length m.0
found_some bytes [] m all h = absurd cc
found_some bytes (k ∷ ms) m all h = by_test (begins k.0 bytes) h (found_some bytes ms m all.1)
  where
    by_test : (t : Bool) → cond t (Some k) (find (λ m. begins m.0 bytes) ms) ≡ Some m → (find (λ m. begins m.0 bytes) ms ≡ Some m → 1 ≤ length m.0) → 1 ≤ length m.0
    by_test true f g = subst (λ x. 1 ≤ length x.0) (same_Some k m f) all.0
    by_test false f g = g f

-- the mark that is found begins the text, and isn't empty
mark_fits : (bytes : List ℕ) (ms : List (List ℕ × Mark)) → ((m : List ℕ × Mark) → find (λ m. begins m.0 bytes) ms ≡ Some m → 1 ≤ length m.0) → Fits (length bytes) (mark_front (find (λ m. begins m.0 bytes) ms))
mark_fits bytes ms some = by_found (find (λ m. begins m.0 bytes) ms) refl
  where
    by_found : (o : Option (List ℕ × Mark)) → find (λ m. begins m.0 bytes) ms ≡ o → Fits (length bytes) (mark_front o)
    by_found None e = tt
    by_found (Some m) e = (some m e, begins_short m.0 bytes (found_begins bytes ms m e))

comment_fits : (bytes : List ℕ) → 2 ≤ length bytes → Fits (length bytes) (comment (close_len (drop 2 bytes)))
comment_fits bytes long = by_close (close_len (drop 2 bytes)) refl
  where
    by_close : (o : Option ℕ) → close_len (drop 2 bytes) ≡ o → Fits (length bytes) (comment o)
    by_close None e = tt
    by_close (Some n) e =
        let short = close_short (drop 2 bytes) n e in
        let left = length-drop 2 bytes in
        (omega arith, omega (arith, short, left))

marks_some : (bytes : List ℕ) (m : List ℕ × Mark) → find (λ m. begins m.0 bytes) marks ≡ Some m → 1 ≤ length m.0
marks_some bytes m h = found_some bytes marks m some h

-- a line's end isn't the slash that begins a comment
line_some : (b : ℕ) (bs : List ℕ) → begins (codes "//") (b ∷ bs) ≡ true → 1 ≤ prefix_len is_in_line (b ∷ bs)
line_some b bs h =
    let same = (bytes_eq-Decides (take 2 (b ∷ bs)) (codes "//")).0 h in
    let first : b ≡ 47 = ap (λ (l : List ℕ). get_or l 0 0) same in
    run_some is_in_line b bs (subst (λ x. is_in_line x ≡ true) (sym first) refl)

other_fits : (b : ℕ) (bs : List ℕ) → Fits (length (b ∷ bs)) (other_front (b ∷ bs))
other_fits b bs =
    choice_fits (begins (codes "//") (b ∷ bs)) (length (b ∷ bs)) _ _
    (λ e. (line_some b bs e, prefix_len-le-length is_in_line (b ∷ bs)))
    (λ e. choice_fits (begins (codes "/*") (b ∷ bs)) (length (b ∷ bs)) _ _
    (λ f. comment_fits (b ∷ bs) (begins_short (codes "/*") (b ∷ bs) f))
    (λ f. mark_fits (b ∷ bs) marks (marks_some (b ∷ bs))))

pub front_fits : (bytes : List ℕ) → 0 < length bytes → Fits (length bytes) (front bytes)
front_fits [] h = tt
front_fits (b ∷ bs) h =
    choice_fits (is_blank b) (length (b ∷ bs)) _ _ (λ e. (omega arith, omega arith))
    (λ e. choice_fits (is_digit_byte b) (length (b ∷ bs)) _ _ (λ f. number_fits b bs f)
    (λ f. choice_fits (is_name_byte b) (length (b ∷ bs)) _ _ (λ k. named_fits b bs k) (λ k. other_fits b bs)))
