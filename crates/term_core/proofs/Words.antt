-- Names and numbers as words, and what a word says.
use Rattle.std.proofs.Common.{◌≡◌, ℕ, suc, ◌+◌, ◌-◌, ◌*◌, ◌/◌, ◌%◌, ◌^◌, ◌<◌, ◌≤◌, pos, negsuc, Bool, true, false, cond, ◌&&◌, ◌||◌, List, [], ◌∷◌, ◌++◌, length, take, drop, refl, sym, ◌∙◌, ap, arith, decimal}
use Rattle.std.specs.Prelude.{◌==◌, nat_le, codes, is_none}
use Rattle.std.specs.List.{list_all, prefix_len}
use Rattle.std.specs.Str.{bytes_eq}
use Rattle.std.proofs.Math.Seq.{take-append_seam, drop-append_seam}
use Rattle.std.proofs.lemmas.List.{take-append-drop}
use Rattle.std.proofs.lemmas.List.Folds.{list_all-append}
use Rattle.std.proofs.lemmas.Bool.{and_parts, and_from, eqb-true, leb-true, le-leb, lt-leb, false≢true}
use Rattle.std.proofs.lemmas.Fmt.{decimal_by_steps_wide}
use Rattle.std.proofs.lemmas.Nat.{div-add-mod', mod_below}
use Rattle.std.proofs.lemmas.Slice.Eq.{bytes_eq-Decides}
use Rattle.x64_syntax.specs.declared.type_words.Sort.{Sort}
use Rattle.x64_syntax.specs.Tables.{keywords}
use Rattle.x64_syntax.specs.Words.{is_digit_byte, is_letter_byte, is_name_byte, is_name_text, keyword_of}
use Rattle.term_core.specs.Legible.{is_stamp_byte, is_stamp, is_stamped_text, is_term_name}
use Rattle.term_core.specs.Terms.{Tm, Name, Int, W64, W128, TruthTerm}
use Rattle.term_core.proofs.Forms.{is_word_byte, IsWord, Stops}

-- the number that digits write behind one that was read
abbrev pub value_after : ℕ → List ℕ → ℕ
value_after n [] = n
value_after n (d ∷ ds) = value_after (n * 10 + (d - 48)) ds

-- a number by its suffix
abbrev pub number_term : ℕ → List ℕ → Tm
number_term n [] = Int (pos n)
number_term n (b ∷ bs) = cond (b == 119) (W64 n) (W128 n)

abbrev pub digits_term : List ℕ → Tm
digits_term w = let k = prefix_len is_digit_byte w in number_term (value_after 0 (take k w)) (drop k w)

-- the term that a word is by itself
abbrev pub word_term : (List ℕ → Sort) → List ℕ → Tm
word_term sorts [] = Int (pos 0)
word_term sorts (b ∷ bs) =
    cond (is_digit_byte b) (digits_term (b ∷ bs))
    (cond (b == 45) (Int (negsuc (value_after 0 bs - 1)))
    (cond (bytes_eq (b ∷ bs) (codes "true")) (TruthTerm true)
    (cond (bytes_eq (b ∷ bs) (codes "false")) (TruthTerm false) (Name (b ∷ bs) (sorts (b ∷ bs))))))

or_left : (a b : Bool) → a ≡ true → (a || b) ≡ true
or_left true b h = refl
or_left false b h = absurd (false≢true h)

or_right : (a b : Bool) → b ≡ true → (a || b) ≡ true
or_right true b h = refl
or_right false b h = h

or_elim : (P : Type 0) (a b : Bool) → (a || b) ≡ true → (a ≡ true → P) → (b ≡ true → P) → P
or_elim P true b h f g = f refl
or_elim P false b h f g = g h

all_more : (p q : ℕ → Bool) → ((b : ℕ) → p b ≡ true → q b ≡ true) → (xs : List ℕ) → list_all p xs ≡ true → list_all q xs ≡ true
all_more p q more [] h = refl
all_more p q more (x ∷ xs) h = let parts = and_parts (p x) _ h in and_from _ _ (more x parts.0) (all_more p q more xs parts.1)

name_byte : (b : ℕ) → is_name_byte b ≡ true → is_word_byte b ≡ true
name_byte b h = or_left (is_name_byte b) _ h

digit_byte : (b : ℕ) → is_digit_byte b ≡ true → is_word_byte b ≡ true
digit_byte b h = name_byte b (or_right (is_letter_byte b) (is_digit_byte b) h)

stamp_byte : (b : ℕ) → is_stamp_byte b ≡ true → is_word_byte b ≡ true
stamp_byte b h = or_elim (is_word_byte b ≡ true) (is_digit_byte b) _ h (digit_byte b) (λ l. name_byte b (or_left (is_letter_byte b) _ (or_left (nat_le 97 b && nat_le b 122 || nat_le 65 b && nat_le b 90) _ (or_left (nat_le 97 b && nat_le b 122) _ l))))

-- the name in front of a stamp begins with a letter
front_letter : (xs ys : List ℕ) (b : ℕ) (bs : List ℕ) → is_name_text xs ≡ true → xs ++ ys ≡ b ∷ bs → is_letter_byte b ≡ true
front_letter [] ys b bs h e = absurd (false≢true h)
front_letter (x ∷ xs) ys b bs h e =
    let same : x ≡ b = cc in
    ap is_letter_byte (sym same) ∙ (and_parts _ (is_letter_byte x) (and_parts _ (list_all is_name_byte (x ∷ xs)) h).0).1

stamp_word : (xs : List ℕ) → is_stamp xs ≡ true → list_all is_word_byte xs ≡ true
stamp_word [] h = absurd (false≢true h)
stamp_word (b ∷ bs) h =
    let parts = and_parts (b == 46) _ h in
    and_from _ _ (ap is_word_byte (eqb-true b 46 parts.0)) (all_more is_stamp_byte is_word_byte stamp_byte bs (and_parts _ _ parts.1).1)

name_all : (xs : List ℕ) → is_name_text xs ≡ true → list_all is_word_byte xs ≡ true
name_all xs h = all_more is_name_byte is_word_byte name_byte xs (and_parts _ (list_all is_name_byte xs) h).1

stamped_all : (xs : List ℕ) → is_stamped_text xs ≡ true → list_all is_word_byte xs ≡ true
stamped_all xs h =
    let n = prefix_len is_name_byte xs in
    let parts = and_parts (is_name_text (take n xs)) (is_stamp (drop n xs)) h in
    ap (list_all is_word_byte) (sym (take-append-drop n xs)) ∙ list_all-append is_word_byte (take n xs) (drop n xs)
    ∙ and_from _ _ (name_all (take n xs) parts.0) (stamp_word (drop n xs) parts.1)

pub name_letter : (b : ℕ) (bs : List ℕ) → is_term_name (b ∷ bs) ≡ true → is_letter_byte b ≡ true
unfolding is_term_name
name_letter b bs h = or_elim (is_letter_byte b ≡ true) _ (is_stamped_text (b ∷ bs)) h by_name by_stamp
  where
    by_name : (is_name_text (b ∷ bs) && is_none (keyword_of (b ∷ bs))) ≡ true → is_letter_byte b ≡ true
    by_name n = front_letter (b ∷ bs) [] b bs (and_parts (is_name_text (b ∷ bs)) _ n).0 (ap (λ l. b ∷ l) (nothing bs))
      where
        nothing : (l : List ℕ) → l ++ [] ≡ l
        nothing [] = refl
        nothing (x ∷ l) = ap (λ m. x ∷ m) (nothing l)

    by_stamp : is_stamped_text (b ∷ bs) ≡ true → is_letter_byte b ≡ true
    by_stamp s =
        let n = prefix_len is_name_byte (b ∷ bs) in
        front_letter (take n (b ∷ bs)) (drop n (b ∷ bs)) b bs (and_parts (is_name_text (take n (b ∷ bs))) _ s).0 (take-append-drop n (b ∷ bs))

pub name_word : (text : List ℕ) → is_term_name text ≡ true → IsWord text
unfolding is_term_name
name_word [] h = absurd (false≢true h)
name_word (b ∷ bs) h = record {
  some = omega arith;
  all = or_elim (list_all is_word_byte (b ∷ bs) ≡ true) _ (is_stamped_text (b ∷ bs)) h (λ n. name_all (b ∷ bs) (and_parts (is_name_text (b ∷ bs)) _ n).0) (stamped_all (b ∷ bs));
}

letter_big : (b : ℕ) → is_letter_byte b ≡ true → 65 ≤ b
letter_big b h = or_elim (65 ≤ b) _ (b == 95) h by_letter (λ e. let f = eqb-true b 95 e in omega (arith, f))
  where
    by_letter : (nat_le 97 b && nat_le b 122 || nat_le 65 b && nat_le b 90) ≡ true → 65 ≤ b
    by_letter l = or_elim (65 ≤ b) (nat_le 97 b && nat_le b 122) _ l (λ s. let f = leb-true 97 b (and_parts _ _ s).0 in omega (arith, f)) (λ s. leb-true 65 b (and_parts _ _ s).0)

and_false : (a b : Bool) → b ≡ false → (a && b) ≡ false
and_false true b h = h
and_false false b h = refl

letter_no_digit : (b : ℕ) → is_letter_byte b ≡ true → is_digit_byte b ≡ false
letter_no_digit b h = let big = letter_big b h in and_false (nat_le 48 b) _ (lt-leb b 57 (omega (arith, big)))

letter_no_sign : (b : ℕ) → is_letter_byte b ≡ true → (b == 45) ≡ false
letter_no_sign b h = by_test (b == 45) refl
  where
    by_test : (t : Bool) → (b == 45) ≡ t → t ≡ false
    by_test false e = refl
    by_test true e = let big = letter_big b h in let f = eqb-true b 45 e in absurd (omega (arith, big, f))

-- a name is no word that is none
pub name_differs : (text w : List ℕ) → is_term_name text ≡ true → is_term_name w ≡ false → bytes_eq text w ≡ false
name_differs text w h none = by_test (bytes_eq text w) refl
  where
    by_test : (t : Bool) → bytes_eq text w ≡ t → t ≡ false
    by_test false e = refl
    by_test true e = absurd (false≢true (sym none ∙ ap is_term_name (sym ((bytes_eq-Decides text w).0 e)) ∙ h))

no_true : is_term_name (codes "true") ≡ false
unfolding is_term_name keywords
no_true = refl

no_false : is_term_name (codes "false") ≡ false
unfolding is_term_name keywords
no_false = refl

pub no_minus : is_term_name (codes "-") ≡ false
unfolding is_term_name keywords
no_minus = refl

none_empty : is_term_name [] ≡ false
unfolding is_term_name keywords
none_empty = refl

pub name_said : (sorts : List ℕ → Sort) (text : List ℕ) → is_term_name text ≡ true → word_term sorts text ≡ Name text (sorts text)
name_said sorts [] h = absurd (false≢true (sym none_empty ∙ h))
name_said sorts (b ∷ bs) h =
    let letter = name_letter b bs h in
    let text = b ∷ bs in
    let name = Name text (sorts text) in
    let falsehood = cond (bytes_eq text (codes "false")) (TruthTerm false) name in
    let truth = cond (bytes_eq text (codes "true")) (TruthTerm true) falsehood in
    let negative = Int (negsuc (value_after 0 bs - 1)) in
    ap (λ t. cond t (digits_term text) (cond (b == 45) negative truth)) (letter_no_digit b letter)
    ∙ ap (λ t. cond t negative truth) (letter_no_sign b letter)
    ∙ ap (λ t. cond t (TruthTerm true) falsehood) (name_differs text (codes "true") h no_true)
    ∙ ap (λ t. cond t (TruthTerm false) name) (name_differs text (codes "false") h no_false)

-- numbers
pub record Numeral (n : ℕ) (ds : List ℕ) : Type 0 where
  pub digits : list_all is_digit_byte ds ≡ true
  pub value : value_after 0 ds ≡ n
  pub some : 1 ≤ length ds

digit_of : (k : ℕ) → k < 10 → is_digit_byte (48 + k) ≡ true
digit_of k h = and_from _ _ (le-leb 48 (48 + k) (omega arith)) (le-leb (48 + k) 57 (omega (arith, h)))

value_last : (n : ℕ) (ds : List ℕ) (d : ℕ) → value_after n (ds ++ d ∷ []) ≡ value_after n ds * 10 + (d - 48)
value_last n [] d = refl
value_last n (e ∷ ds) d = value_last (n * 10 + (e - 48)) ds d

all_last : (ds : List ℕ) (d : ℕ) → list_all is_digit_byte ds ≡ true → is_digit_byte d ≡ true → list_all is_digit_byte (ds ++ d ∷ []) ≡ true
all_last [] d h k = and_from _ _ k refl
all_last (e ∷ ds) d h k = let p = and_parts (is_digit_byte e) _ h in and_from _ _ p.0 (all_last ds d p.1 k)

some_last : (ds : List ℕ) (d : ℕ) → 1 ≤ length (ds ++ d ∷ [])
some_last [] d = omega arith
some_last (e ∷ ds) d = omega arith

back_to : (m : ℕ) → 48 + m - 48 ≡ m
back_to m = omega arith

pub decimal_numeral : (n : ℕ) → n < 10 ^ 64 → Numeral n (decimal n)
decimal_numeral n h = decimal_by_steps_wide Numeral one_digit more_digits n h
  where
    alone : (n : ℕ) → 0 * 10 + (48 + n - 48) ≡ n
    alone n = omega arith

    one_digit : (n : ℕ) → n < 10 → Numeral n ((48 + n) ∷ [])
    one_digit n h = record { digits = and_from _ _ (digit_of n h) refl; value = alone n; some = omega arith }

    more_digits : (n : ℕ) (ds : List ℕ) → 10 ≤ n → Numeral (n / 10) ds → Numeral n (ds ++ ((48 + n % 10) ∷ []))
    more_digits n ds h m = record {
      digits = all_last ds (48 + n % 10) m.digits (digit_of (n % 10) (mod_below n 10 (omega arith)));
      value = value_last 0 ds (48 + n % 10) ∙ ap (λ k. k * 10 + (48 + n % 10 - 48)) m.value ∙ ap (λ k. n / 10 * 10 + k) (back_to (n % 10)) ∙ div-add-mod' n 10;
      some = some_last ds (48 + n % 10);
    }

one_more : (n : ℕ) → 1 + n ≡ suc n
one_more n = omega arith

-- the digits at the front are as many as there are
run : (xs rest : List ℕ) → list_all is_digit_byte xs ≡ true → Stops is_digit_byte rest → prefix_len is_digit_byte (xs ++ rest) ≡ length xs
run [] [] h k = refl
run [] (b ∷ bs) h k = ap (λ t. cond t (1 + prefix_len is_digit_byte bs) 0) k
run (x ∷ xs) rest h k =
    let q = and_parts (is_digit_byte x) (list_all is_digit_byte xs) h in
    ap (λ t. cond t (1 + prefix_len is_digit_byte (xs ++ rest)) 0) q.0 ∙ ap (λ n. 1 + n) (run xs rest q.1 k) ∙ one_more (length xs)

digits_said : (n : ℕ) (ds rest : List ℕ) → Numeral n ds → Stops is_digit_byte rest → digits_term (ds ++ rest) ≡ number_term n rest
digits_said n ds rest m k =
    ap (λ k. number_term (value_after 0 (take k (ds ++ rest))) (drop k (ds ++ rest))) (run ds rest m.digits k)
    ∙ ap (λ l. number_term (value_after 0 l) (drop (length ds) (ds ++ rest))) (take-append_seam ds rest)
    ∙ ap (λ l. number_term (value_after 0 ds) l) (drop-append_seam ds rest)
    ∙ ap (λ v. number_term v rest) m.value

number_said : (sorts : List ℕ → Sort) (n : ℕ) (ds rest : List ℕ) → Numeral n ds → Stops is_digit_byte rest → word_term sorts (ds ++ rest) ≡ number_term n rest
number_said sorts n [] rest m k = let some = m.some in absurd (omega (arith, some))
number_said sorts n (d ∷ ds) rest m k =
    let text = d ∷ (ds ++ rest) in
    ap (λ t. cond t (digits_term text)
    (cond (d == 45) (Int (negsuc (value_after 0 (ds ++ rest) - 1)))
    (cond (bytes_eq text (codes "true")) (TruthTerm true)
    (cond (bytes_eq text (codes "false")) (TruthTerm false) (Name text (sorts text)))))) (and_parts (is_digit_byte d) _ m.digits).0
    ∙ digits_said n (d ∷ ds) rest m k

nothing_more : (l : List ℕ) → l ++ [] ≡ l
nothing_more [] = refl
nothing_more (x ∷ l) = ap (λ m. x ∷ m) (nothing_more l)

pub whole_said : (sorts : List ℕ → Sort) (n : ℕ) → n < 10 ^ 64 → word_term sorts (decimal n) ≡ Int (pos n)
whole_said sorts n h = ap (word_term sorts) (sym (nothing_more (decimal n))) ∙ number_said sorts n (decimal n) [] (decimal_numeral n h) tt

pub word_said : (sorts : List ℕ → Sort) (n : ℕ) → n < 10 ^ 64 → word_term sorts (decimal n ++ codes "w") ≡ W64 n
word_said sorts n h = number_said sorts n (decimal n) (codes "w") (decimal_numeral n h) refl

pub wide_said : (sorts : List ℕ → Sort) (n : ℕ) → n < 10 ^ 64 → word_term sorts (decimal n ++ codes "v") ≡ W128 n
wide_said sorts n h = number_said sorts n (decimal n) (codes "v") (decimal_numeral n h) refl

pub negative_said : (sorts : List ℕ → Sort) (n : ℕ) → suc n < 10 ^ 64 → word_term sorts (45 ∷ decimal (suc n)) ≡ Int (negsuc n)
negative_said sorts n h =
    let m = decimal_numeral (suc n) h in
    ap (λ k. Int (negsuc (k - 1))) m.value ∙ ap (λ k. Int (negsuc k)) (less n)
  where
    less : (n : ℕ) → suc n - 1 ≡ n
    less n = omega arith

digits_all : (n : ℕ) → n < 10 ^ 64 → list_all is_word_byte (decimal n) ≡ true
digits_all n h = let m = decimal_numeral n h in all_more is_digit_byte is_word_byte digit_byte (decimal n) m.digits

pub decimal_word : (n : ℕ) → n < 10 ^ 64 → IsWord (decimal n)
decimal_word n h = let m = decimal_numeral n h in let some = m.some in record { some = omega (arith, some); all = digits_all n h }

pub suffix_word : (n : ℕ) (suffix : List ℕ) → n < 10 ^ 64 → list_all is_word_byte suffix ≡ true → IsWord (decimal n ++ suffix)
suffix_word n suffix h all = record { some = more (decimal n) (decimal_numeral n h).some; all = list_all-append is_word_byte (decimal n) suffix ∙ and_from _ _ (digits_all n h) all }
  where
    more : (ds : List ℕ) → 1 ≤ length ds → 0 < length (ds ++ suffix)
    more [] some = absurd (omega (arith, some))
    more (d ∷ ds) some = omega arith

pub negative_word : (n : ℕ) → n < 10 ^ 64 → IsWord (45 ∷ decimal n)
negative_word n h = record { some = omega arith; all = digits_all n h }
