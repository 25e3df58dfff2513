-- The tokens of a text are such as their kinds say, and so what they spell is writable.
use Rattle.std.proofs.Common.{◌≡◌, ℕ, zero, suc, ◌+◌, ◌-◌, ◌^◌, ◌<◌, Bool, true, false, cond, ◌&&◌, ◌||◌, List, [], ◌∷◌, ◌++◌, length, take, drop, Option, Some, None, refl, sym, ◌∙◌, ap, subst, arith}
use Rattle.std.specs.Prelude.{nat_lt, ◌==◌, codes}
use Rattle.std.specs.List.{list_all, prefix_len, AllByRecursion}
use Rattle.std.proofs.lemmas.Bool.{and_parts, and_from, eqb-true, ltb-true, lt-ltb, false≢true}
use Rattle.std.proofs.lemmas.List.Folds.{length-prefix_len}
use Rattle.std.proofs.Math.Seq.{take-add}
use Rattle.x64_syntax.specs.Words.{is_digit_byte, is_letter_byte, is_name_byte, is_name_text}
use Rattle.vale_syntax.specs.declared.token.Token.{Token}
use Rattle.vale_syntax.specs.declared.token.TokenKind.{TokenKind}
use Rattle.vale_syntax.specs.declared.token.TokenKind.TheVariants as kind
use Rattle.vale_syntax.specs.declared.token.Front.{Front}
use Rattle.vale_syntax.specs.declared.token.Front.TheVariants.{Skipped, Taken, Stopped}
use Rattle.vale_syntax.specs.declared.token.NotAToken.TheVariants.{NumberTooLarge}
use Rattle.vale_syntax.specs.declared.mark.Mark.{Mark}
use Rattle.vale_syntax.specs.Tokens.{begins, is_blank, comment, close_len, is_stamp_byte, stamp_len, name_front, front_of_name, digits_value, number_front, number_by_suffix, hex_len, number_of, marks, mark_at, mark_front, other_front, front, LexResult, All, Nothing, with_token, token_at, on_front, tokens_from}
use Rattle.vale_syntax.specs.inner.Print.{IsStamped}

-- a token's text and value are such as its kind says
unfoldable pub IsProper : TokenKind → List ℕ → Type 0
IsProper kind.Name text = is_name_text text ≡ true
IsProper kind.Stamped text = IsStamped text
IsProper (kind.Int n) text = n < 2 ^ 127
IsProper (kind.Word n) text = n < 2 ^ 64
IsProper (kind.Wide n) text = n < 2 ^ 128
IsProper (kind.Mark m) text = Unit {0}

unfoldable pub AreProper : List Token → Type 0
AreProper ts = AllByRecursion (λ (t : Token). IsProper t.kind t.text) ts

-- what stands at the front is proper
FrontProper : List ℕ → Front → Type 0
FrontProper bytes (Skipped n) = Unit {0}
FrontProper bytes (Taken k n) = IsProper k (take n bytes)
FrontProper bytes (Stopped why) = Unit {0}

either : (bytes : List ℕ) (t : Bool) (f g : Front) → (t ≡ true → FrontProper bytes f) → (t ≡ false → FrontProper bytes g) → FrontProper bytes (cond t f g)
either bytes true f g h k = h refl
either bytes false f g h k = k refl

below_proper : (bytes : List ℕ) (limit len : ℕ) (k : ℕ → TokenKind) (n : Option ℕ) → ((m : ℕ) (text : List ℕ) → m < limit → IsProper (k m) text) → FrontProper bytes (number_front limit k len n)
unfolding FrontProper
below_proper bytes limit len k None h = tt
below_proper bytes limit len k (Some n) h = either bytes (nat_lt n limit) (Taken (k n) len) (Stopped NumberTooLarge) (λ e. h n _ (ltb-true n limit e)) (λ e. tt)

suffixed_proper : (bytes : List ℕ) (n : Option ℕ) (len : ℕ) (rest : List ℕ) → FrontProper bytes (number_by_suffix n len rest)
unfolding IsProper
suffixed_proper bytes n len [] = below_proper bytes (2 ^ 127) len kind.Int n (λ m t h. h)
suffixed_proper bytes n len (b ∷ bs) =
    either bytes (b == 119) _ _ (λ e. below_proper bytes (2 ^ 64) (len + 1) kind.Word n (λ m t h. h))
    (λ e. either bytes (b == 118) _ _ (λ e. below_proper bytes (2 ^ 128) (len + 1) kind.Wide n (λ m t h. h)) (λ e. below_proper bytes (2 ^ 127) len kind.Int n (λ m t h. h)))

number_proper : (bytes whole : List ℕ) (m : ℕ) → FrontProper whole (number_of m bytes)
number_proper bytes whole zero = suffixed_proper whole (digits_value 10 (take (prefix_len is_digit_byte bytes) bytes)) (prefix_len is_digit_byte bytes) (drop (prefix_len is_digit_byte bytes) bytes)
number_proper bytes whole (suc m) = suffixed_proper whole (digits_value 16 (take (suc m) (drop 2 bytes))) (suc m + 2) (drop (suc m) (drop 2 bytes))

-- the bytes that pass, from the front on, pass
take_one : (n x : ℕ) (xs : List ℕ) → take (1 + n) (x ∷ xs) ≡ x ∷ take n xs
take_one n x xs = ap (λ k. take k (x ∷ xs)) (one n)
  where
    one : (n : ℕ) → 1 + n ≡ suc n
    one n = omega arith

take_passes : (p : ℕ → Bool) (xs : List ℕ) → list_all p (take (prefix_len p xs) xs) ≡ true
take_passes p [] = refl
take_passes p (x ∷ xs) = by_test (p x) refl (take_passes p xs)
  where
    by_test : (t : Bool) → p x ≡ t → list_all p (take (prefix_len p xs) xs) ≡ true → list_all p (take (cond t (1 + prefix_len p xs) 0) (x ∷ xs)) ≡ true
    by_test true e h = ap (list_all p) (take_one (prefix_len p xs) x xs) ∙ and_from (p x) _ e h
    by_test false e h = refl

mark_proper : (bytes : List ℕ) (m : Option (List ℕ × Mark)) → FrontProper bytes (mark_front m)
unfolding FrontProper IsProper
mark_proper bytes None = tt
mark_proper bytes (Some m) = tt

comment_proper : (bytes : List ℕ) (n : Option ℕ) → FrontProper bytes (comment n)
unfolding FrontProper
comment_proper bytes None = tt
comment_proper bytes (Some n) = tt

other_proper : (bytes : List ℕ) → FrontProper bytes (other_front bytes)
unfolding FrontProper
other_proper bytes =
    either bytes (begins (codes "//") bytes) _ _ (λ e. tt)
    (λ e. either bytes (begins (codes "/*") bytes) _ _ (λ f. comment_proper bytes (close_len (drop 2 bytes))) (λ f. mark_proper bytes (mark_at marks bytes)))

-- a name of n bytes, and what follows it
stamp_proper : (bytes name : List ℕ) (n : ℕ) (rest : List ℕ) → is_name_text name ≡ true → take n bytes ≡ name → drop n bytes ≡ rest → FrontProper bytes (name_front n (stamp_len rest))
unfolding FrontProper IsProper
stamp_proper bytes name n [] h t d = subst (λ l. is_name_text l ≡ true) (sym t) h
stamp_proper bytes name n (c ∷ cs) h t d = by_test ((c == 46) && nat_lt 0 (prefix_len is_stamp_byte cs)) refl
  where
    suc_of : (p : ℕ) → p + 1 ≡ suc p
    suc_of p = omega arith

    parts : (p : ℕ) → c ≡ 46 → take (n + suc p) bytes ≡ name ++ 46 ∷ take p cs
    parts p e = take-add n (suc p) bytes ∙ ap (λ l. l ++ take (suc p) (drop n bytes)) t ∙ ap (λ l. name ++ take (suc p) l) d ∙ ap (λ x. name ++ x ∷ take p cs) e

    stamped : (p : ℕ) → p ≡ prefix_len is_stamp_byte cs → c ≡ 46 → 0 < p → IsStamped (take (n + suc p) bytes)
    stamped p e f some = record {
      name = name;
      stamp = take p cs;
      whole = parts p f;
      is_name = h;
      some = let size : length (take p cs) ≡ p = ap (λ k. length (take k cs)) e ∙ length-prefix_len is_stamp_byte cs ∙ sym e in omega (arith, size, some);
      stamped = ap (λ k. list_all is_stamp_byte (take k cs)) e ∙ take_passes is_stamp_byte cs;
    }

    by_test : (b : Bool) → ((c == 46) && nat_lt 0 (prefix_len is_stamp_byte cs)) ≡ b → FrontProper bytes (name_front n (cond b (prefix_len is_stamp_byte cs + 1) 0))
    by_test false e = subst (λ l. is_name_text l ≡ true) (sym t) h
    by_test true e =
        let p = and_parts _ _ e in
        subst (λ k. FrontProper bytes (name_front n k)) (sym (suc_of (prefix_len is_stamp_byte cs))) (stamped (prefix_len is_stamp_byte cs) refl (eqb-true c 46 p.0) (ltb-true 0 _ p.1))

named_proper : (b : ℕ) (bs : List ℕ) → is_digit_byte b ≡ false → is_name_byte b ≡ true → FrontProper (b ∷ bs) (front_of_name (b ∷ bs))
named_proper b bs h k = ap_length (ap (λ t. cond t (1 + prefix_len is_name_byte bs) 0) k) (by_stamp (drop (1 + prefix_len is_name_byte bs) (b ∷ bs)) refl)
  where
    or_first : (a c : Bool) → c ≡ false → (a || c) ≡ true → a ≡ true
    or_first true c e f = refl
    or_first false c e f = absurd (false≢true (sym e ∙ f))

    name : List ℕ
    name = b ∷ take (prefix_len is_name_byte bs) bs

    is_name : is_name_text name ≡ true
    is_name = and_from _ _ (and_from (nat_lt 0 (suc (length (take (prefix_len is_name_byte bs) bs)))) _ (lt-ltb 0 _ (omega arith)) (or_first (is_letter_byte b) (is_digit_byte b) h k)) (and_from (is_name_byte b) _ k (take_passes is_name_byte bs))

    ap_length : {n m : ℕ} → n ≡ m → FrontProper (b ∷ bs) (name_front m (stamp_len (drop m (b ∷ bs)))) → FrontProper (b ∷ bs) (name_front n (stamp_len (drop n (b ∷ bs))))
    ap_length e f = subst (λ n. FrontProper (b ∷ bs) (name_front n (stamp_len (drop n (b ∷ bs))))) (sym e) f

    by_stamp : (rest : List ℕ) → drop (1 + prefix_len is_name_byte bs) (b ∷ bs) ≡ rest → FrontProper (b ∷ bs) (name_front (1 + prefix_len is_name_byte bs) (stamp_len (drop (1 + prefix_len is_name_byte bs) (b ∷ bs))))
    by_stamp rest e = subst (λ l. FrontProper (b ∷ bs) (name_front (1 + prefix_len is_name_byte bs) (stamp_len l))) (sym e)
        (stamp_proper (b ∷ bs) name (1 + prefix_len is_name_byte bs) rest is_name (take_one (prefix_len is_name_byte bs) b bs) e)

front_proper : (bytes : List ℕ) → FrontProper bytes (front bytes)
unfolding FrontProper
front_proper [] = tt
front_proper (b ∷ bs) =
    either (b ∷ bs) (is_blank b) _ _ (λ e. tt)
    (λ e. either (b ∷ bs) (is_digit_byte b) _ _ (λ f. number_proper (b ∷ bs) (b ∷ bs) (hex_len (b ∷ bs)))
    (λ f. either (b ∷ bs) (is_name_byte b) _ _ (λ g. named_proper b bs f g) (λ g. other_proper (b ∷ bs))))

-- all tokens of a text are
lexed_proper : (file covered at : ℕ) (bytes : List ℕ) (ts : List Token) → tokens_from file covered at bytes ≡ All ts → AreProper ts
unfolding tokens_from AreProper FrontProper
lexed_proper file covered at [] ts h = subst (λ us. AllByRecursion (λ (t : Token). IsProper t.kind t.text) us) (same_all [] ts h) tt
  where
    same_all : (us ts : List Token) → All us ≡ All ts → us ≡ ts
    same_all us ts h = cc
lexed_proper file (suc n) at (b ∷ bs) ts h = lexed_proper file n (at + 1) bs ts h
lexed_proper file zero at (b ∷ bs) ts h = by_front (front (b ∷ bs)) (front_proper (b ∷ bs)) (λ n us e. lexed_proper file n (at + 1) bs us e) h
  where
    taken_parts : (t : Token) (l : LexResult) → with_token t l ≡ All ts → (us : List Token) × (l ≡ All us) × (t ∷ us ≡ ts)
    taken_parts t (All us) h = (us, refl, cc)
    taken_parts t (Nothing why at) h = absurd cc

    by_front : (f : Front) → FrontProper (b ∷ bs) f → ((n : ℕ) (us : List Token) → tokens_from file n (at + 1) bs ≡ All us → AllByRecursion (λ (t : Token). IsProper t.kind t.text) us)
        → on_front file at (b ∷ bs) f (λ n. tokens_from file n (at + 1) bs) ≡ All ts → AllByRecursion (λ (t : Token). IsProper t.kind t.text) ts
    by_front (Skipped n) p go h = go (n - 1) ts h
    by_front (Taken k n) p go h =
        let (us, e, f) = taken_parts (token_at file at k (take n (b ∷ bs))) (tokens_from file (n - 1) (at + 1) bs) h in
        subst (λ us. AllByRecursion (λ (t : Token). IsProper t.kind t.text) us) f (p, go (n - 1) us e)
    by_front (Stopped why) p go h = absurd cc

pub text_proper : (file : ℕ) (bytes : List ℕ) (ts : List Token) → tokens_from file 0 0 bytes ≡ All ts → AreProper ts
text_proper file bytes ts h = lexed_proper file 0 0 bytes ts h
