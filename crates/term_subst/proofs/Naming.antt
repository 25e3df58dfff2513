-- Names that are gathered one after the other are the first ones.
use Rattle.std.proofs.Common.{◌≡◌, ℕ, Bool, true, false, List, [], ◌∷◌, ◌++◌, map, cond, refl, sym, ap, ◌∙◌, append_assoc}
use Rattle.std.specs.Prelude.{not, ◌||◌, ◌&&◌}
use Rattle.std.specs.List.{filter, list_any}
use Rattle.std.specs.Str.{bytes_eq}
use Rattle.std.specs.Borrow.{Bor}
use Rattle.std.proofs.lemmas.Slice.Eq.{bytes_eq-Decides}
use Rattle.indexmap.specs.IndexSet.{insert_key, insert_all}
use Rattle.term_subst.specs.Free.{first_ones}

any_name : (name : List ℕ) (keys : List (Bor (List ℕ))) → list_any (λ key. bytes_eq name key.now) keys ≡ list_any (bytes_eq name) (map (λ key. key.now) keys)
any_name name [] = refl
any_name name (key ∷ keys) = ap (λ b. bytes_eq name key.now || b) (any_name name keys)

map_snoc : (keys : List (Bor (List ℕ))) (k : Bor (List ℕ)) → map (λ key. key.now) (keys ++ k ∷ []) ≡ map (λ key. key.now) keys ++ k.now ∷ []
map_snoc [] k = refl
map_snoc (key ∷ keys) k = ap (λ ns. key.now ∷ ns) (map_snoc keys k)

-- a reference is put behind references as its text is behind their texts
pub inserted : (keys : List (Bor (List ℕ))) (k : Bor (List ℕ)) → map (λ key. key.now) (insert_key (λ a b. bytes_eq a.now b.now) keys k) ≡ insert_key bytes_eq (map (λ key. key.now) keys) k.now
inserted keys k = ap (λ b. map (λ key. key.now) (cond b keys (keys ++ k ∷ []))) (any_name k.now keys) ∙ either (list_any (bytes_eq k.now) (map (λ key. key.now) keys))
  where
    either : (b : Bool) → map (λ key. key.now) (cond b keys (keys ++ k ∷ [])) ≡ cond b (map (λ key. key.now) keys) (map (λ key. key.now) keys ++ k.now ∷ [])
    either true = refl
    either false = map_snoc keys k

-- none of the names
abbrev other_than : List (List ℕ) → List ℕ → Bool
other_than names other = not (list_any (bytes_eq other) names)

filters : (p q r : List ℕ → Bool) → ((y : List ℕ) → (q y && p y) ≡ r y) → (ys : List (List ℕ)) → filter p (filter q ys) ≡ filter r ys
filters p q r h [] = refl
filters p q r h (y ∷ ys) = by_test (filters p q r h ys) (q y) refl
  where
    by_test : filter p (filter q ys) ≡ filter r ys → (b : Bool) → q y ≡ b → filter p (cond (q y) (y ∷ filter q ys) (filter q ys)) ≡ cond (r y) (y ∷ filter r ys) (filter r ys)
    by_test more true e =
        ap (λ c. filter p (cond c (y ∷ filter q ys) (filter q ys))) e
        ∙ ap (λ l. cond (p y) (y ∷ l) l) more
        ∙ ap (λ c. cond c (y ∷ filter r ys) (filter r ys)) (sym (ap (λ c. c && p y) e) ∙ h y)
    by_test more false e =
        ap (λ c. filter p (cond c (y ∷ filter q ys) (filter q ys))) e
        ∙ more
        ∙ ap (λ c. cond c (y ∷ filter r ys) (filter r ys)) (sym (ap (λ c. c && p y) e) ∙ h y)

any_snoc : (y x : List ℕ) (ks : List (List ℕ)) → (not (bytes_eq y x) && other_than ks y) ≡ other_than (ks ++ x ∷ []) y
any_snoc y x ks = both (bytes_eq y x) (list_any (bytes_eq y) ks) ∙ ap (λ b. not b) (sym (any_last ks))
  where
    any_last : (ks : List (List ℕ)) → list_any (bytes_eq y) (ks ++ x ∷ []) ≡ (list_any (bytes_eq y) ks || bytes_eq y x)
    any_last [] = or_false (bytes_eq y x)
      where
        or_false : (b : Bool) → (b || false) ≡ b
        or_false true = refl
        or_false false = refl
    any_last (k ∷ ks) = ap (λ b. bytes_eq y k || b) (any_last ks) ∙ or_again (bytes_eq y k) (list_any (bytes_eq y) ks) (bytes_eq y x)
      where
        or_again : (a b c : Bool) → (a || (b || c)) ≡ ((a || b) || c)
        or_again true b c = refl
        or_again false b c = refl

    both : (a b : Bool) → (not a && not b) ≡ not (b || a)
    both true true = refl
    both true false = refl
    both false true = refl
    both false false = refl

-- a name that is one of those is told apart from others already
told_apart : (y x : List ℕ) (ks : List (List ℕ)) → list_any (bytes_eq x) ks ≡ true → (not (bytes_eq y x) && other_than ks y) ≡ other_than ks y
told_apart y x ks there = by_test (bytes_eq y x) refl
  where
    by_test : (b : Bool) → bytes_eq y x ≡ b → (not (bytes_eq y x) && other_than ks y) ≡ other_than ks y
    by_test false e = ap (λ b. not b && other_than ks y) e
    by_test true e =
        ap (λ b. not b && other_than ks y) e
        ∙ sym (ap (λ z. other_than ks z) ((bytes_eq-Decides y x).0 e) ∙ ap (λ b. not b) there)

-- names put in one after the other
pub gathered : (ks names : List (List ℕ)) → insert_all bytes_eq ks names ≡ ks ++ filter (other_than ks) (first_ones names)
gathered ks [] = sym (nothing_more ks)
  where
    nothing_more : (xs : List (List ℕ)) → xs ++ [] ≡ xs
    nothing_more [] = refl
    nothing_more (x ∷ xs) = ap (λ l. x ∷ l) (nothing_more xs)
gathered ks (x ∷ xs) = by_test (gathered ks xs) (gathered (ks ++ x ∷ []) xs) (list_any (bytes_eq x) ks) refl
  where
    by_test :
        insert_all bytes_eq ks xs ≡ ks ++ filter (other_than ks) (first_ones xs) →
        insert_all bytes_eq (ks ++ x ∷ []) xs ≡ (ks ++ x ∷ []) ++ filter (other_than (ks ++ x ∷ [])) (first_ones xs) →
        (b : Bool) → list_any (bytes_eq x) ks ≡ b → insert_all bytes_eq (insert_key bytes_eq ks x) xs ≡ ks ++ filter (other_than ks) (x ∷ filter (λ other. not (bytes_eq other x)) (first_ones xs))
    by_test old new true e =
        ap (λ b. insert_all bytes_eq (cond b ks (ks ++ x ∷ [])) xs) e
        ∙ old
        ∙ ap (λ l. ks ++ l) (sym (filters (other_than ks) (λ other. not (bytes_eq other x)) (other_than ks) (λ y. told_apart y x ks e) (first_ones xs)))
        ∙ ap (λ b. ks ++ cond (not b) (x ∷ filter (other_than ks) (filter (λ other. not (bytes_eq other x)) (first_ones xs))) (filter (other_than ks) (filter (λ other. not (bytes_eq other x)) (first_ones xs)))) (sym e)
    by_test old new false e =
        ap (λ b. insert_all bytes_eq (cond b ks (ks ++ x ∷ [])) xs) e
        ∙ new
        ∙ append_assoc ks (x ∷ []) (filter (other_than (ks ++ x ∷ [])) (first_ones xs))
        ∙ ap (λ l. ks ++ x ∷ l) (sym (filters (other_than ks) (λ other. not (bytes_eq other x)) (other_than (ks ++ x ∷ [])) (λ y. any_snoc y x ks) (first_ones xs)))
        ∙ ap (λ b. ks ++ cond (not b) (x ∷ filter (other_than ks) (filter (λ other. not (bytes_eq other x)) (first_ones xs))) (filter (other_than ks) (filter (λ other. not (bytes_eq other x)) (first_ones xs)))) (sym e)

keeps_all : (names : List (List ℕ)) → filter (other_than []) names ≡ names
keeps_all [] = refl
keeps_all (x ∷ xs) = ap (λ l. x ∷ l) (keeps_all xs)

pub gathered_first : (names : List (List ℕ)) → insert_all bytes_eq [] names ≡ first_ones names
gathered_first names = gathered [] names ∙ keeps_all (first_ones names)
