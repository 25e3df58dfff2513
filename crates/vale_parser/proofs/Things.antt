-- Lists of things of one kind are lists of that kind.
use Rattle.std.proofs.Common.{◌≡◌, ℕ, zero, suc, Bool, true, false, cond, List, [], ◌∷◌, ◌++◌, map, length, drop, Option, Some, None, refl, sym, ◌∙◌, ap}
use Rattle.std.specs.Prelude.{Result, Ok, Err}
use Rattle.std.proofs.lemmas.List.{map-append, map-id}
use Rattle.std.proofs.lemmas.Option.{same_Some}
use Rattle.x64_syntax.proofs.Lists.{same_head, same_tail}
use Rattle.vale_syntax.specs.declared.token.Token.{Token}
use Rattle.vale_syntax.specs.declared.mark.Mark.TheVariants as mark
use Rattle.vale_syntax.specs.declared.lookahead.Lookahead.{Lookahead}
use Rattle.vale_syntax.specs.Peek.{peek}
use Rattle.vale_syntax.specs.declared.fault.MatchFault.{MatchFault}
use Rattle.vale_syntax.specs.declared.fault.MatchFault.TheVariants.{NoMatch, NoMemory}
use Rattle.vale_syntax.specs.inner.Marks.{is_mark}
use Rattle.vale_parser.specs.inner.Parts.{bind, Parser, before, commas, comma_list, closed_list, many}
use Rattle.vale_syntax.specs.inner.Matches.{Gives}
use Rattle.vale_parser.specs.inner.Things.{Thing, thing_parser}

-- a list that was found, as things
unfoldable pub as_things : {A : Type 0} → (A → Thing) → Option (List A × List Token) → Option (List Thing × List Token)
as_things f o = bind o (λ q. Some (map f q.0, q.1))

-- a step commutes
step : {A : Type 0} (f : A → Thing) (o : Option (A × List Token)) (go : A × List Token → Option (List A × List Token)) (went : Thing × List Token → Option (List Thing × List Token))
    → ((p : A × List Token) → went (f p.0, p.1) ≡ as_things f (go p)) → bind (bind o (λ p. Some (f p.0, p.1))) went ≡ as_things f (bind o go)
unfolding as_things
step f None go went h = refl
step f (Some p) go went h = h p

choice : {A : Type 0} (f : A → Thing) (b : Bool) (x y : Option (List Thing × List Token)) (u v : Option (List A × List Token)) → x ≡ as_things f u → y ≡ as_things f v → cond b x y ≡ as_things f (cond b u v)
choice f true x y u v h k = h
choice f false x y u v h k = k

commas_tagged : {A : Type 0} (f : A → Thing) (item : Parser A) (n : ℕ) (xs : List A) (ts : List Token) → commas (thing_parser f item) n (map f xs) ts ≡ as_things f (commas item n xs ts)
unfolding commas as_things
commas_tagged f item zero xs ts = refl
commas_tagged f item (suc n) xs ts =
    choice f (is_mark mark.Comma (peek ts)) _ (Some (map f xs, ts)) _ (Some (xs, ts))
    (step f (item (drop 1 ts)) (λ p. commas item n (xs ++ p.0 ∷ []) p.1) (λ p. commas (thing_parser f item) n (map f xs ++ p.0 ∷ []) p.1)
    (λ p. ap (λ l. commas (thing_parser f item) n l p.1) (sym (map-append f xs (p.0 ∷ []))) ∙ commas_tagged f item n (xs ++ p.0 ∷ []) p.1))
    refl

pub separated_tagged : {A : Type 0} (f : A → Thing) (item : Parser A) (ts : List Token) → comma_list (thing_parser f item) ts ≡ as_things f (comma_list item ts)
separated_tagged f item ts = step f (item ts) (λ p. commas item (length ts) (p.0 ∷ []) p.1) (λ p. commas (thing_parser f item) (length ts) (p.0 ∷ []) p.1) (λ p. commas_tagged f item (length ts) (p.0 ∷ []) p.1)

before_tagged : {A : Type 0} (f : A → Thing) (o : Option (List A × List Token)) → before mark.RoundClose (as_things f o) ≡ as_things f (before mark.RoundClose o)
unfolding as_things
before_tagged f None = refl
before_tagged f (Some q) = by_test (is_mark mark.RoundClose (peek q.1))
  where
    by_test : (b : Bool) → bind {B = List Thing × List Token} (cond b (Some (drop 1 q.1)) None) (λ rest. Some (map f q.0, rest)) ≡ as_things f (bind {B = List _ × List Token} (cond b (Some (drop 1 q.1)) None) (λ rest. Some (q.0, rest)))
    by_test true = refl
    by_test false = refl

pub closed_tagged : {A : Type 0} (f : A → Thing) (item : Parser A) (ts : List Token) → closed_list (thing_parser f item) ts ≡ as_things f (closed_list item ts)
unfolding as_things
closed_tagged f item ts =
    choice f (is_mark mark.RoundClose (peek ts)) (Some ([], drop 1 ts)) _ (Some ([], drop 1 ts)) _ refl (ap (before mark.RoundClose) (separated_tagged f item ts) ∙ before_tagged f (comma_list item ts))

many_from : {A : Type 0} (f : A → Thing) (begins : Lookahead → Bool) (item : Parser A) (n : ℕ) (xs : List A) (ts : List Token) → many begins (thing_parser f item) n (map f xs) ts ≡ as_things f (many begins item n xs ts)
unfolding many as_things
many_from f begins item zero xs ts = refl
many_from f begins item (suc n) xs ts =
    choice f (begins (peek ts)) _ (Some (map f xs, ts)) _ (Some (xs, ts))
    (step f (item ts) (λ p. many begins item n (xs ++ p.0 ∷ []) p.1) (λ p. many begins (thing_parser f item) n (map f xs ++ p.0 ∷ []) p.1)
    (λ p. ap (λ l. many begins (thing_parser f item) n l p.1) (sym (map-append f xs (p.0 ∷ []))) ∙ many_from f begins item n (xs ++ p.0 ∷ []) p.1))
    refl

pub many_tagged : {A : Type 0} (f : A → Thing) (begins : Lookahead → Bool) (item : Parser A) (n : ℕ) (ts : List Token) → many begins (thing_parser f item) n [] ts ≡ as_things f (many begins item n [] ts)
many_tagged f begins item n ts = many_from f begins item n [] ts

-- things of one kind, back as that kind
back : {A C : Type 0} (f : A → Thing) (h : C → A) → ((a b : A) → f a ≡ f b → a ≡ b) → (xs : List A) (cs : List C) → map f xs ≡ map (λ c. f (h c)) cs → xs ≡ map h cs
back f h inj [] [] e = refl
back f h inj [] (c ∷ cs) e = absurd cc
back f h inj (x ∷ xs) [] e = absurd cc
back f h inj (x ∷ xs) (c ∷ cs) e = ap (λ y. y ∷ xs) (inj x (h c) (same_head e)) ∙ ap (λ l. h c ∷ l) (back f h inj xs cs (same_tail e))

-- what gives the things gives what they are
pub untagged : {X A C : Type 0} (f : A → Thing) (h : C → A) (r : Result X MatchFault) (parts : X → List C) (rest : X → List Token) (o : Option (List A × List Token)) (t : Option (List Thing × List Token))
    → ((a b : A) → f a ≡ f b → a ≡ b) → t ≡ as_things f o → Gives (λ x. (map (λ c. f (h c)) (parts x), rest x)) r t → Gives (λ x. (map h (parts x), rest x)) r o
unfolding as_things
untagged f h (Ok x) parts rest None t inj e k = absurd cc
untagged f h (Ok x) parts rest (Some q) t inj e k =
    let pair = same_Some (map f q.0, q.1) (map (λ c. f (h c)) (parts x), rest x) (sym e ∙ k) in
    ap (λ l. Some (l, q.1)) (back f h inj q.0 (parts x) (ap (λ (p : List Thing × List Token). p.0) pair)) ∙ ap (λ l. Some (map h (parts x), l)) (ap (λ (p : List Thing × List Token). p.1) pair)
untagged f h (Err NoMatch) parts rest None t inj e k = refl
untagged f h (Err NoMatch) parts rest (Some q) t inj e k = absurd cc
untagged f h (Err NoMemory) parts rest o t inj e k = tt

pub untagged_same : {X A : Type 0} (f : A → Thing) (r : Result X MatchFault) (parts : X → List A) (rest : X → List Token) (o : Option (List A × List Token)) (t : Option (List Thing × List Token))
    → ((a b : A) → f a ≡ f b → a ≡ b) → t ≡ as_things f o → Gives (λ x. (map f (parts x), rest x)) r t → Gives (λ x. (parts x, rest x)) r o
untagged_same f (Ok x) parts rest o t inj e k = untagged f (λ a. a) (Ok x) parts rest o t inj e k ∙ ap (λ l. Some (l, rest x)) (map-id (parts x))
untagged_same f (Err NoMatch) parts rest o t inj e k = untagged f (λ a. a) (Err NoMatch) parts rest o t inj e k
untagged_same f (Err NoMemory) parts rest o t inj e k = tt
