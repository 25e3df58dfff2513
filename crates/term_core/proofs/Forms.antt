-- How texts of terms are put together from words, brackets and marks, and that this is told by the text.
use Rattle.std.proofs.Common.{◌≡◌, ℕ, ◌<◌, Bool, true, false, not, ◌||◌, List, [], ◌∷◌, ◌++◌, length, refl, sym, ◌∙◌, ap, subst, arith}
use Rattle.std.specs.Prelude.{◌==◌}
use Rattle.std.specs.List.{list_all}
use Rattle.std.proofs.lemmas.Bool.{and_parts, eqb-true, false≢true}
use Rattle.x64_syntax.specs.Words.{is_name_byte}

-- A word stands before brackets, one pair behind the other; the parts of round brackets stand between commas.
mutual
  pub data Form : Type 0 where
    atom : List ℕ → Posts → Form
    between : List ℕ → Form → Form → Form
    bang : Form → Form

  pub data Posts : Type 0 where
    done : Posts
    round : Forms → Posts → Posts
    square : Form → Posts → Posts

  pub data Forms : Type 0 where
    no_forms : Forms
    more_forms : Form → Forms → Forms

-- the text of a form before another text
abbrev mutual
  pub text_on : Form → List ℕ → List ℕ
  text_on (atom w p) r = w ++ posts_on p r
  text_on (between o a b) r = 40 ∷ text_on a (32 ∷ (o ++ (32 ∷ text_on b (41 ∷ r))))
  text_on (bang a) r = 33 ∷ text_on a r

  pub posts_on : Posts → List ℕ → List ℕ
  posts_on done r = r
  posts_on (round xs p) r = 40 ∷ list_on xs (41 ∷ posts_on p r)
  posts_on (square i p) r = 91 ∷ text_on i (93 ∷ posts_on p r)

  pub list_on : Forms → List ℕ → List ℕ
  list_on no_forms r = r
  list_on (more_forms x xs) r = text_on x (others_on xs r)

  pub others_on : Forms → List ℕ → List ℕ
  others_on no_forms r = r
  others_on (more_forms x xs) r = 44 ∷ (32 ∷ text_on x (others_on xs r))

-- the bytes of names, stamps, numbers and the sign before one
abbrev pub is_word_byte : ℕ → Bool
is_word_byte b = is_name_byte b || ((b == 46) || (b == 45))

abbrev pub is_mark_byte : ℕ → Bool
is_mark_byte b = not (b == 32)

pub record IsWord (w : List ℕ) : Type 0 where
  pub some : 0 < length w
  pub all : list_all is_word_byte w ≡ true

abbrev mutual
  -- words are words and marks have no blank
  pub Good : Form → Type 0
  Good (atom w p) = IsWord w × GoodPosts p
  Good (between o a b) = (list_all is_mark_byte o ≡ true) × (Good a × Good b)
  Good (bang a) = Good a

  pub GoodPosts : Posts → Type 0
  GoodPosts done = Unit {0}
  GoodPosts (round xs p) = GoodForms xs × GoodPosts p
  GoodPosts (square i p) = Good i × GoodPosts p

  pub GoodForms : Forms → Type 0
  GoodForms no_forms = Unit {0}
  GoodForms (more_forms x xs) = Good x × GoodForms xs

-- what may stand behind a form: the end, a blank, a comma or a closing bracket
pub is_end : ℕ → Bool
is_end b = (b == 32) || ((b == 41) || ((b == 44) || (b == 93)))

pub Ends : List ℕ → Type 0
Ends [] = Unit {0}
Ends (b ∷ bs) = is_end b ≡ true

-- no byte that passes stands at the front
abbrev pub Stops : (ℕ → Bool) → List ℕ → Type 0
Stops p [] = Unit {0}
Stops p (b ∷ bs) = p b ≡ false

head_is : (a b : ℕ) (x y : List ℕ) → a ∷ x ≡ b ∷ y → a ≡ b
head_is a b x y e = cc

tail_is : (a b : ℕ) (x y : List ℕ) → a ∷ x ≡ b ∷ y → x ≡ y
tail_is a b x y e = cc

-- the bytes at the front that pass, and the others
split : (p : ℕ → Bool) (xs ys r s : List ℕ) → list_all p xs ≡ true → list_all p ys ≡ true → Stops p r → Stops p s → xs ++ r ≡ ys ++ s → (xs ≡ ys) × (r ≡ s)
split p [] [] r s f g k l e = (refl, e)
split p [] (y ∷ ys) r s f g k l e =
    let stops : p y ≡ false = subst (Stops p) e k in
    absurd (false≢true (sym stops ∙ (and_parts (p y) _ g).0))
split p (x ∷ xs) [] r s f g k l e =
    let stops : p x ≡ false = subst (Stops p) (sym e) l in
    absurd (false≢true (sym stops ∙ (and_parts (p x) _ f).0))
split p (x ∷ xs) (y ∷ ys) r s f g k l e =
    let same = head_is x y (xs ++ r) (ys ++ s) e in
    let rest = split p xs ys r s (and_parts (p x) _ f).1 (and_parts (p y) _ g).1 k l (tail_is x y (xs ++ r) (ys ++ s) e) in
    (ap (λ b. b ∷ xs) same ∙ ap (λ l. y ∷ l) rest.0, rest.1)

or_cases : (P : Type 0) (a b : Bool) → (a || b) ≡ true → (a ≡ true → P) → (b ≡ true → P) → P
or_cases P true b h f g = f refl
or_cases P false b h f g = g h

end_is_no_word : (b : ℕ) → is_end b ≡ true → is_word_byte b ≡ false
unfolding is_end
end_is_no_word b h =
    or_cases (is_word_byte b ≡ false) (b == 32) _ h (by_byte 32 refl)
    (λ h. or_cases (is_word_byte b ≡ false) (b == 41) _ h (by_byte 41 refl)
    (λ h. or_cases (is_word_byte b ≡ false) (b == 44) _ h (by_byte 44 refl) (by_byte 93 refl)))
  where
    by_byte : (k : ℕ) → is_word_byte k ≡ false → (b == k) ≡ true → is_word_byte b ≡ false
    by_byte k none e = ap is_word_byte (eqb-true b k e) ∙ none

ends_word : (r : List ℕ) → Ends r → Stops is_word_byte r
unfolding Ends
ends_word [] h = tt
ends_word (b ∷ bs) h = end_is_no_word b h

posts_word : (p : Posts) (r : List ℕ) → Ends r → Stops is_word_byte (posts_on p r)
posts_word done r h = ends_word r h
posts_word (round xs p) r h = refl
posts_word (square i p) r h = refl

-- a word's first byte
word_first : (w t : List ℕ) (b : ℕ) (u : List ℕ) → IsWord w → w ++ t ≡ b ∷ u → is_word_byte b ≡ true
word_first [] t b u g e = let some = g.some in absurd (omega (arith, some))
word_first (c ∷ cs) t b u g e = ap is_word_byte (sym (head_is c b (cs ++ t) u e)) ∙ (and_parts (is_word_byte c) _ g.all).0

ends_no : (r t : List ℕ) (b : ℕ) → Ends r → is_end b ≡ false → r ≡ b ∷ t → ⊥
unfolding Ends
ends_no r t b k none e = let ends : is_end b ≡ true = subst Ends e k in false≢true (sym none ∙ ends)

no_close : (x : Form) (r t : List ℕ) → Good x → text_on x r ≡ 41 ∷ t → ⊥
no_close (atom w p) r t g e = false≢true (word_first w (posts_on p r) 41 t g.0 e)
no_close (between o a b) r t g e = let h : 40 ≡ 41 = head_is 40 41 _ _ e in absurd (omega (arith, h))
no_close (bang a) r t g e = let h : 33 ≡ 41 = head_is 33 41 _ _ e in absurd (omega (arith, h))

others_end : (xs : Forms) (r : List ℕ) → Ends (others_on xs (41 ∷ r))
unfolding Ends is_end
others_end no_forms r = refl
others_end (more_forms x xs) r = refl

close_end : (r : List ℕ) → Ends (41 ∷ r)
unfolding Ends is_end
close_end r = refl

square_end : (r : List ℕ) → Ends (93 ∷ r)
unfolding Ends is_end
square_end r = refl

blank_end : (r : List ℕ) → Ends (32 ∷ r)
unfolding Ends is_end
blank_end r = refl

no_round : (r t : List ℕ) → Ends r → r ≡ 40 ∷ t → ⊥
unfolding is_end
no_round r t k e = ends_no r t 40 k refl e

no_square : (r t : List ℕ) → Ends r → r ≡ 91 ∷ t → ⊥
unfolding is_end
no_square r t k e = ends_no r t 91 k refl e

mutual
  -- a text is that of one form, and then of what stands behind it
  pub one_form : (x y : Form) (r s : List ℕ) → Good x → Good y → Ends r → Ends s → text_on x r ≡ text_on y s → (x ≡ y) × (r ≡ s)
  one_form (atom w p) (atom v q) r s g h k l e =
      let word = split is_word_byte w v (posts_on p r) (posts_on q s) g.0.all h.0.all (posts_word p r k) (posts_word q s l) e in
      let posts = one_posts p q r s g.1 h.1 k l word.1 in
      (ap (λ w. atom w p) word.0 ∙ ap (atom v) posts.0, posts.1)
  one_form (atom w p) (between o a b) r s g h k l e = absurd (false≢true (word_first w (posts_on p r) 40 _ g.0 e))
  one_form (atom w p) (bang a) r s g h k l e = absurd (false≢true (word_first w (posts_on p r) 33 _ g.0 e))
  one_form (between o a b) (atom v q) r s g h k l e = absurd (false≢true (word_first v (posts_on q s) 40 _ h.0 (sym e)))
  one_form (between o a b) (between m c d) r s g h k l e =
      let left = one_form a c (32 ∷ (o ++ (32 ∷ text_on b (41 ∷ r)))) (32 ∷ (m ++ (32 ∷ text_on d (41 ∷ s)))) g.1.0 h.1.0 (blank_end _) (blank_end _) (tail_is 40 40 _ _ e) in
      let mark = split is_mark_byte o m (32 ∷ text_on b (41 ∷ r)) (32 ∷ text_on d (41 ∷ s)) g.0 h.0 refl refl (tail_is 32 32 _ _ left.1) in
      let right = one_form b d (41 ∷ r) (41 ∷ s) g.1.1 h.1.1 (close_end r) (close_end s) (tail_is 32 32 _ _ mark.1) in
      (ap (λ o. between o a b) mark.0 ∙ ap (λ a. between m a b) left.0 ∙ ap (between m c) right.0, tail_is 41 41 r s right.1)
  one_form (between o a b) (bang c) r s g h k l e = let f : 40 ≡ 33 = head_is 40 33 _ _ e in absurd (omega (arith, f))
  one_form (bang a) (atom v q) r s g h k l e = absurd (false≢true (word_first v (posts_on q s) 33 _ h.0 (sym e)))
  one_form (bang a) (between m c d) r s g h k l e = let f : 33 ≡ 40 = head_is 33 40 _ _ e in absurd (omega (arith, f))
  one_form (bang a) (bang c) r s g h k l e =
      let part = one_form a c r s g h k l (tail_is 33 33 _ _ e) in
      (ap bang part.0, part.1)

  one_posts : (p q : Posts) (r s : List ℕ) → GoodPosts p → GoodPosts q → Ends r → Ends s → posts_on p r ≡ posts_on q s → (p ≡ q) × (r ≡ s)
  one_posts done done r s g h k l e = (refl, e)
  one_posts done (round ys q) r s g h k l e = absurd (no_round r _ k e)
  one_posts done (square j q) r s g h k l e = absurd (no_square r _ k e)
  one_posts (round xs p) done r s g h k l e = absurd (no_round s _ l (sym e))
  one_posts (round xs p) (round ys q) r s g h k l e =
      let list = one_list xs ys (posts_on p r) (posts_on q s) g.0 h.0 (tail_is 40 40 _ _ e) in
      let posts = one_posts p q r s g.1 h.1 k l list.1 in
      (ap (λ xs. round xs p) list.0 ∙ ap (round ys) posts.0, posts.1)
  one_posts (round xs p) (square j q) r s g h k l e = let f : 40 ≡ 91 = head_is 40 91 _ _ e in absurd (omega (arith, f))
  one_posts (square i p) done r s g h k l e = absurd (no_square s _ l (sym e))
  one_posts (square i p) (round ys q) r s g h k l e = let f : 91 ≡ 40 = head_is 91 40 _ _ e in absurd (omega (arith, f))
  one_posts (square i p) (square j q) r s g h k l e =
      let at = one_form i j (93 ∷ posts_on p r) (93 ∷ posts_on q s) g.0 h.0 (square_end _) (square_end _) (tail_is 91 91 _ _ e) in
      let posts = one_posts p q r s g.1 h.1 k l (tail_is 93 93 _ _ at.1) in
      (ap (λ i. square i p) at.0 ∙ ap (square j) posts.0, posts.1)

  one_list : (xs ys : Forms) (r s : List ℕ) → GoodForms xs → GoodForms ys → list_on xs (41 ∷ r) ≡ list_on ys (41 ∷ s) → (xs ≡ ys) × (r ≡ s)
  one_list no_forms no_forms r s g h e = (refl, tail_is 41 41 r s e)
  one_list no_forms (more_forms y ys) r s g h e = absurd (no_close y _ r h.0 (sym e))
  one_list (more_forms x xs) no_forms r s g h e = absurd (no_close x _ s g.0 e)
  one_list (more_forms x xs) (more_forms y ys) r s g h e =
      let first = one_form x y (others_on xs (41 ∷ r)) (others_on ys (41 ∷ s)) g.0 h.0 (others_end xs r) (others_end ys s) e in
      let others = one_others xs ys r s g.1 h.1 first.1 in
      (ap (λ x. more_forms x xs) first.0 ∙ ap (more_forms y) others.0, others.1)

  one_others : (xs ys : Forms) (r s : List ℕ) → GoodForms xs → GoodForms ys → others_on xs (41 ∷ r) ≡ others_on ys (41 ∷ s) → (xs ≡ ys) × (r ≡ s)
  one_others no_forms no_forms r s g h e = (refl, tail_is 41 41 r s e)
  one_others no_forms (more_forms y ys) r s g h e = let f : 41 ≡ 44 = head_is 41 44 _ _ e in absurd (omega (arith, f))
  one_others (more_forms x xs) no_forms r s g h e = let f : 44 ≡ 41 = head_is 44 41 _ _ e in absurd (omega (arith, f))
  one_others (more_forms x xs) (more_forms y ys) r s g h e =
      let first = one_form x y (others_on xs (41 ∷ r)) (others_on ys (41 ∷ s)) g.0 h.0 (others_end xs r) (others_end ys s) (tail_is 32 32 _ _ (tail_is 44 44 _ _ e)) in
      let others = one_others xs ys r s g.1 h.1 first.1 in
      (ap (λ x. more_forms x xs) first.0 ∙ ap (more_forms y) others.0, others.1)

-- a whole text is that of one form
pub told_by_text : (x y : Form) → Good x → Good y → text_on x [] ≡ text_on y [] → x ≡ y
unfolding Ends
told_by_text x y g h e = (one_form x y [] [] g h tt tt e).0
