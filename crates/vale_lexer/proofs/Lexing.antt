-- How a scan goes on.
use Rattle.std.proofs.Common.{◌≡◌, ℕ, zero, suc, ◌+◌, ◌-◌, ◌≤◌, ◌<◌, List, [], ◌∷◌, ◌++◌, length, take, drop, refl, sym, ap, ◌∙◌, arith, append_assoc}
use Rattle.std.proofs.lemmas.List.{append-nil}
use Rattle.vale_syntax.specs.declared.token.Token.{Token}
use Rattle.vale_syntax.specs.declared.token.TokenKind.{TokenKind}
use Rattle.vale_syntax.specs.declared.token.NotAToken.{NotAToken}
use Rattle.vale_syntax.specs.declared.token.Front.TheVariants.{Skipped, Taken, Stopped}
use Rattle.vale_syntax.proofs.Lexing.{shift, skip}
use Rattle.vale_lexer.specs.inner.Lexes.{in_front, FaultOf, fault_of}
use Rattle.vale_syntax.specs.declared.token.NotAToken.TheVariants as cause
use Rattle.vale_syntax.specs.Tokens.{tokens_from, on_front, token_at, front, with_token, LexResult, All, Nothing}

pub in_front_none : (l : LexResult) → in_front [] l ≡ l
in_front_none (All us) = refl
in_front_none (Nothing why at) = refl

pub in_front_one : (ts : List Token) (t : Token) (l : LexResult) → in_front (ts ++ t ∷ []) l ≡ in_front ts (with_token t l)
in_front_one ts t (All us) = ap All (append_assoc ts (t ∷ []) us)
in_front_one ts t (Nothing why at) = refl

pub lexed_end : (file at : ℕ) → tokens_from file 0 at [] ≡ All []
unfolding tokens_from
lexed_end file at = refl

-- a place with something at its front
pub lexed_front : (file at : ℕ) (bytes : List ℕ) → 0 < length bytes → tokens_from file 0 at bytes ≡ on_front file at bytes (front bytes) (λ n. tokens_from file n (at + 1) (drop 1 bytes))
unfolding tokens_from
lexed_front file at [] h = absurd (none h)
  where
    none : 0 < 0 → ⊥
    none h = omega arith
lexed_front file at (b ∷ bs) h = refl

-- going on behind n bytes, of which the first is taken
dropped : (n : ℕ) (bytes : List ℕ) → drop n (drop 1 bytes) ≡ drop (suc n) bytes
dropped zero [] = refl
dropped (suc n) [] = refl
dropped n (b ∷ bs) = refl

pub go_on : (file at n : ℕ) (bytes : List ℕ) → 1 ≤ n → tokens_from file (n - 1) (at + 1) (drop 1 bytes) ≡ tokens_from file 0 (at + n) (drop n bytes)
go_on file at zero bytes h = absurd (none h)
  where
    none : 1 ≤ 0 → ⊥
    none h = omega arith
go_on file at (suc n) bytes h = ap (λ k. tokens_from file k (at + 1) (drop 1 bytes)) (less n) ∙ skip file n (at + 1) (drop 1 bytes) ∙ ap (λ k. tokens_from file 0 k (drop n (drop 1 bytes))) (shift at n) ∙ ap (λ bs. tokens_from file 0 (at + suc n) bs) (dropped n bytes)
  where
    less : (n : ℕ) → suc n - 1 ≡ n
    less n = omega arith

pub skipped : (file at n : ℕ) (bytes : List ℕ) → 0 < length bytes → Skipped n ≡ front bytes → 1 ≤ n → tokens_from file 0 at bytes ≡ tokens_from file 0 (at + n) (drop n bytes)
skipped file at n bytes some e h =
    lexed_front file at bytes some ∙ ap (λ f. on_front file at bytes f (λ k. tokens_from file k (at + 1) (drop 1 bytes))) (sym e) ∙ go_on file at n bytes h

pub taken : (file at n : ℕ) (kind : TokenKind) (bytes : List ℕ) (ts : List Token) → 0 < length bytes → Taken kind n ≡ front bytes → 1 ≤ n → in_front (ts ++ token_at file at kind (take n bytes) ∷ []) (tokens_from file 0 (at + n) (drop n bytes)) ≡ in_front ts (tokens_from file 0 at bytes)
taken file at n kind bytes ts some e h =
    in_front_one ts (token_at file at kind (take n bytes)) (tokens_from file 0 (at + n) (drop n bytes))
    ∙ ap (λ l. in_front ts (with_token (token_at file at kind (take n bytes)) l)) (sym (go_on file at n bytes h))
    ∙ ap (λ f. in_front ts (on_front file at bytes f (λ k. tokens_from file k (at + 1) (drop 1 bytes)))) e
    ∙ ap (in_front ts) (sym (lexed_front file at bytes some))

pub stopped : (file at : ℕ) (why : NotAToken) (bytes : List ℕ) → 0 < length bytes → Stopped why ≡ front bytes → tokens_from file 0 at bytes ≡ Nothing why at
stopped file at why bytes some e =
    lexed_front file at bytes some ∙ ap (λ f. on_front file at bytes f (λ k. tokens_from file k (at + 1) (drop 1 bytes))) (sym e)

pub fault_told : (l : LexResult) (why : NotAToken) (at : ℕ) → l ≡ Nothing why at → FaultOf l (fault_of why at)
fault_told l cause.BadByte at h = h
fault_told l cause.NumberTooLarge at h = h
fault_told l cause.OpenComment at h = h

-- nothing is left
pub lexed_all : (file at : ℕ) (rest : List ℕ) (ts : List Token) (l : LexResult) → length rest ≤ 0 → in_front ts (tokens_from file 0 at rest) ≡ l → l ≡ All ts
lexed_all file at [] ts l h e = sym e ∙ ap (in_front ts) (lexed_end file at) ∙ ap All (append-nil ts)
lexed_all file at (b ∷ bs) ts l h e = absurd (over h)
  where
    over : suc (length bs) ≤ 0 → ⊥
    over h = omega arith
