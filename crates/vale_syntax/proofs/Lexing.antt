-- How a scan goes on behind a token.
use Rattle.std.proofs.Common.{◌≡◌, ℕ, zero, suc, ◌+◌, ◌-◌, ◌≤◌, List, [], ◌∷◌, ◌++◌, length, take, drop, refl, ap, ◌∙◌, arith}
use native.Mathlib.Numerals.{unary_clauses}
use Rattle.vale_syntax.specs.declared.token.Token.{Token}
use Rattle.vale_syntax.specs.declared.token.TokenKind.{TokenKind}
use Rattle.vale_syntax.specs.declared.token.Front.TheVariants.{Taken}
use Rattle.vale_syntax.specs.Tokens.{token_at, front, on_front, with_token, All, tokens_from}

pub shift : (at n : ℕ) → at + 1 + n ≡ at + suc n
shift at n = omega arith

pub take_front : (xs ys : List ℕ) → take (length xs) (xs ++ ys) ≡ xs
take_front [] ys = refl
take_front (x ∷ xs) ys = ap (λ l. x ∷ l) (take_front xs ys)

pub drop_front : (xs ys : List ℕ) → drop (length xs) (xs ++ ys) ≡ ys
drop_front [] ys = refl
drop_front (x ∷ xs) ys = drop_front xs ys

-- skipping what belongs to a token is dropping it
pub skip : (file n at : ℕ) (bytes : List ℕ) → tokens_from file n at bytes ≡ tokens_from file 0 (at + n) (drop n bytes)
unfolding tokens_from
skip file zero at bytes = simp unary_clauses refl
skip file (suc n) at [] = refl
skip file (suc n) at (b ∷ bs) = skip file n (at + 1) bs ∙ ap (λ k. tokens_from file 0 k (drop n bs)) (shift at n)

-- a token, and what is lexed behind it
pub token_first : (file at : ℕ) (kind : TokenKind) (text rest : List ℕ) (ts : List Token) → front (text ++ rest) ≡ Taken kind (length text) → 1 ≤ length text → tokens_from file 0 (at + length text) rest ≡ All ts
    → tokens_from file 0 at (text ++ rest) ≡ All (token_at file at kind text ∷ ts)
unfolding tokens_from
token_first file at kind [] rest ts h some k = absurd (omega (arith, some))
token_first file at kind (b ∷ bs) rest ts h some k =
    ap (λ f. on_front file at (b ∷ (bs ++ rest)) f (λ n. tokens_from file n (at + 1) (bs ++ rest))) h
    ∙ ap (λ t. with_token (token_at file at kind t) (tokens_from file (suc (length bs) - 1) (at + 1) (bs ++ rest))) (take_front (b ∷ bs) rest)
    ∙ ap (λ l. with_token (token_at file at kind (b ∷ bs)) l) (ap (λ n. tokens_from file n (at + 1) (bs ++ rest)) (less (length bs)) ∙ skip file (length bs) (at + 1) (bs ++ rest)
    ∙ ap (λ n. tokens_from file 0 n (drop (length bs) (bs ++ rest))) (shift at (length bs)) ∙ ap (λ l. tokens_from file 0 (at + suc (length bs)) l) (drop_front bs rest) ∙ k)
  where
    less : (n : ℕ) → suc n - 1 ≡ n
    less n = omega arith

pub blank_first : (file at : ℕ) (rest : List ℕ) (ts : List Token) → tokens_from file 0 (at + 1) rest ≡ All ts → tokens_from file 0 at (32 ∷ rest) ≡ All ts
unfolding tokens_from
blank_first file at rest ts h = h
