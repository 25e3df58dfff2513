-- What the tokens of a text spell is writable.
use Rattle.std.proofs.Common.{◌≡◌, ℕ, zero, suc, ◌^◌, ◌<◌, Bool, true, false, cond, List, [], ◌∷◌, drop, Option, Some, None, inl, inr, refl, sym, subst}
use Rattle.std.specs.Prelude.{ℤ, pos, negsuc, nat_abs, neg_ℤ, nat_lt}
use Rattle.std.proofs.lemmas.Bool.{ltb-true}
use Rattle.std.proofs.lemmas.Option.{same_Some}
use Rattle.x64_syntax.specs.declared.keywords.Keyword.{Keyword}
use Rattle.x64_syntax.specs.declared.keywords.Keyword.TheVariants as word
use Rattle.x64_syntax.specs.Words.{is_name_text, keyword_of}
use Rattle.vale_syntax.specs.declared.token.Token.{Token}
use Rattle.vale_syntax.specs.declared.token.TokenKind.{TokenKind}
use Rattle.vale_syntax.specs.declared.token.TokenKind.TheVariants as kind
use Rattle.vale_syntax.specs.declared.mark.Mark.TheVariants as mark
use Rattle.vale_syntax.specs.declared.spot.Spot.{Spot}
use Rattle.vale_syntax.specs.declared.lookahead.Lookahead.{Lookahead}
use Rattle.vale_syntax.specs.declared.lookahead.Lookahead.TheVariants as see
use Rattle.vale_syntax.specs.Peek.{peek, name_or_keyword, of_kind, text_of}
use Rattle.vale_syntax.specs.Trees.{Ex, Exs, none, more, with_last, Int, Word, Wide, True, False, Prev, Name, Call, Index, Unary, Binary}
use Rattle.vale_syntax.specs.Expressions.{whole_number, whole_leaf, leaf_by, leaf, minus_number_by, minus_number, Spells, not_, negative, minus, postfix, operations, Chain, chain_end, operation, Indices, index_end, index, Atom, token, call, brackets, Arguments, no_arguments, some_arguments, Others, others_end, others_more}
use Rattle.vale_syntax.specs.inner.Print.{IsFree, IsWritable, AreWritable, without_places, list_without_places, IsTextOf}
use Rattle.vale_syntax.proofs.Proper.{IsProper, AreProper, text_proper}

drop_proper : (n : ℕ) (ts : List Token) → AreProper ts → AreProper (drop n ts)
unfolding AreProper
drop_proper zero ts h = h
drop_proper (suc n) [] h = h
drop_proper (suc n) (t ∷ ts) h = drop_proper n ts h.1

whole_small : (n : ℕ) (z : ℤ) → whole_number n ≡ Some z → nat_abs z < 2 ^ 127
whole_small n z h = by_test (nat_lt n (2 ^ 127)) refl h
  where
    by_test : (t : Bool) → nat_lt n (2 ^ 127) ≡ t → cond t (Some (pos n)) None ≡ Some z → nat_abs z < 2 ^ 127
    by_test true e h = subst (λ y. nat_abs y < 2 ^ 127) (same_Some (pos n) z h) (ltb-true n (2 ^ 127) e)
    by_test false e h = absurd cc

neg_abs : (z : ℤ) → nat_abs (neg_ℤ z) ≡ nat_abs z
neg_abs (pos zero) = refl
neg_abs (pos (suc n)) = refl
neg_abs (negsuc n) = refl

counted_whole : (f g : Lookahead) (z : ℤ) → minus_number_by f g ≡ Some z → nat_abs z < 2 ^ 127
counted_whole (see.Int n) (see.Mark mark.SquareOpen) z h = absurd cc
counted_whole (see.Int n) _ z h = whole_small n z h
counted_whole _ g z h = absurd cc

negated_small : (ts : List Token) (z : ℤ) → minus_number ts ≡ Some z → nat_abs (neg_ℤ z) < 2 ^ 127
unfolding minus_number
negated_small ts z h = subst (λ n. n < 2 ^ 127) (sym (neg_abs z)) (counted_whole (peek (drop 1 ts)) (peek (drop 2 ts)) z h)

keyword_writable : (k : Keyword) (ts : List Token) (x : Ex) → leaf_by (see.Keyword k) ts ≡ Some x → IsWritable x
unfolding IsWritable
keyword_writable word.True ts x h = subst IsWritable (same_Some _ x h) tt
keyword_writable word.False ts x h = subst IsWritable (same_Some _ x h) tt
keyword_writable word.Prev ts x h = subst IsWritable (same_Some _ x h) tt
keyword_writable _ ts x h = absurd cc

name_writable : (k : Option Keyword) (ts : List Token) (x : Ex) → keyword_of (text_of ts) ≡ k → is_name_text (text_of ts) ≡ true → leaf_by (name_or_keyword k) ts ≡ Some x → IsWritable x
unfolding IsWritable
name_writable None ts x e p h = subst IsWritable (same_Some _ x h) (inl (record { is_name = p; no_keyword = e }))
name_writable (Some k) ts x e p h = keyword_writable k ts x h

int_writable : (s : Spot) (n : ℕ) (o : Option ℤ) (x : Ex) → whole_number n ≡ o → whole_leaf s o ≡ Some x → IsWritable x
unfolding IsWritable
int_writable s n None x e h = absurd cc
int_writable s n (Some z) x e h = subst IsWritable (same_Some _ x h) (whole_small n z e)

-- a token that is an expression by itself
kind_writable : (k : TokenKind) (ts : List Token) (x : Ex) → leaf_by (of_kind k (text_of ts)) ts ≡ Some x → IsProper k (text_of ts) → IsWritable x
unfolding IsWritable IsProper
kind_writable kind.Name ts x h p = name_writable (keyword_of (text_of ts)) ts x refl p h
kind_writable kind.Stamped ts x h p = subst IsWritable (same_Some _ x h) (inr p)
kind_writable (kind.Int n) ts x h p = int_writable _ n (whole_number n) x refl h
kind_writable (kind.Word n) ts x h p = subst IsWritable (same_Some _ x h) p
kind_writable (kind.Wide n) ts x h p = subst IsWritable (same_Some _ x h) p
kind_writable (kind.Mark m) ts x h p = absurd cc

leaf_writable : (ts : List Token) (x : Ex) → leaf ts ≡ Some x → AreProper ts → IsWritable x
unfolding leaf peek AreProper
leaf_writable [] x h p = absurd cc
leaf_writable (t ∷ ts) x h p = kind_writable t.kind (t ∷ ts) x h p.0

-- the name of a call
free_name : (ts : List Token) → peek ts ≡ see.Name → AreProper ts → IsFree (text_of ts)
unfolding peek AreProper IsProper
free_name [] h p = absurd cc
free_name (t ∷ ts) h p = by_kind t.kind h p.0
  where
    by_word : (o : Option Keyword) → keyword_of t.text ≡ o → name_or_keyword o ≡ see.Name → keyword_of t.text ≡ None
    by_word None e h = e
    by_word (Some k) e h = absurd cc

    by_kind : (k : TokenKind) → of_kind k t.text ≡ see.Name → IsProper k t.text → IsFree t.text
    by_kind kind.Name h p = record { is_name = p; no_keyword = by_word (keyword_of t.text) refl h }
    by_kind kind.Stamped h p = absurd cc
    by_kind (kind.Int n) h p = absurd cc
    by_kind (kind.Word n) h p = absurd cc
    by_kind (kind.Wide n) h p = absurd cc
    by_kind (kind.Mark m) h p = absurd cc

last_writable : (xs : Exs) (y : Ex) → AreWritable xs → IsWritable y → AreWritable (with_last xs y)
unfolding AreWritable
last_writable none y h k = (k, tt)
last_writable (more x xs) y h k = (h.0, last_writable xs y h.1 k)

mutual
  unfolding IsWritable

  spelled_writable : {r d : ℕ} {ts : List Token} {x : Ex} {rest : List Token} → Spells r d ts x rest → AreProper ts → IsWritable x × AreProper rest
  spelled_writable (not_ {ts = ts} p h) proper = spelled_writable h (drop_proper 1 ts proper)
  spelled_writable (negative {z = z} {ts = ts} p q) proper = (negated_small ts z q, drop_proper 2 ts proper)
  spelled_writable (minus {ts = ts} p q h) proper = spelled_writable h (drop_proper 1 ts proper)
  spelled_writable (postfix a i) proper = let f = atom_writable a proper in indexed_writable i f.0 f.1
  spelled_writable (operations h t) proper = let f = spelled_writable h proper in chain_writable t f.0 f.1

  chain_writable : {r : ℕ} {s : Spot} {d : ℕ} {x : Ex} {ts : List Token} {e : ℕ} {y : Ex} {rest : List Token} → Chain r s d x ts e y rest → IsWritable x → AreProper ts → IsWritable y × AreProper rest
  chain_writable chain_end w proper = (w, proper)
  chain_writable (operation {ts = ts} o p q h t) w proper = let f = spelled_writable h (drop_proper 1 ts proper) in chain_writable t (w, f.0) f.1

  indexed_writable : {s : Spot} {d : ℕ} {x : Ex} {ts : List Token} {e : ℕ} {y : Ex} {rest : List Token} → Indices s d x ts e y rest → IsWritable x → AreProper ts → IsWritable y × AreProper rest
  indexed_writable index_end w proper = (w, proper)
  indexed_writable (index {ts = ts} {mid = mid} p h q t) w proper = let f = spelled_writable h (drop_proper 1 ts proper) in indexed_writable t (w, f.0) (drop_proper 1 mid f.1)

  atom_writable : {d : ℕ} {ts : List Token} {x : Ex} {rest : List Token} → Atom d ts x rest → AreProper ts → IsWritable x × AreProper rest
  atom_writable (token {ts = ts} {x = x} h) proper = (leaf_writable ts x h proper, drop_proper 1 ts proper)
  atom_writable (call {ts = ts} p q h) proper = let f = arguments_writable h (drop_proper 2 ts proper) in ((free_name ts p proper, f.0), f.1)
  atom_writable (brackets {ts = ts} {mid = mid} p h q) proper = let f = spelled_writable h (drop_proper 1 ts proper) in (f.0, drop_proper 1 mid f.1)

  arguments_writable : {d : ℕ} {ts : List Token} {xs : Exs} {rest : List Token} → Arguments d ts xs rest → AreProper ts → AreWritable xs × AreProper rest
  arguments_writable (no_arguments {ts = ts} p) proper = (tt, drop_proper 1 ts proper)
  arguments_writable (some_arguments h t) proper = let f = spelled_writable h proper in others_writable t (f.0, tt) f.1

  others_writable : {d : ℕ} {xs : Exs} {ts : List Token} {e : ℕ} {ys : Exs} {rest : List Token} → Others d xs ts e ys rest → AreWritable xs → AreProper ts → AreWritable ys × AreProper rest
  others_writable (others_end {ts = ts} p) w proper = (w, drop_proper 1 ts proper)
  others_writable (others_more {xs = xs} {y = y} {ts = ts} p h t) w proper = let f = spelled_writable h (drop_proper 1 ts proper) in others_writable t (last_writable xs y w f.0) f.1

mutual
  unfolding IsWritable without_places

  bare_writable : (x : Ex) → IsWritable (without_places x) → IsWritable x
  bare_writable (Int s z) h = h
  bare_writable (Word s n) h = h
  bare_writable (Wide s n) h = h
  bare_writable (True s) h = h
  bare_writable (False s) h = h
  bare_writable (Prev s) h = h
  bare_writable (Name n) h = h
  bare_writable (Call f xs) h = (h.0, bares_writable xs h.1)
  bare_writable (Index s x i) h = (bare_writable x h.0, bare_writable i h.1)
  bare_writable (Unary s o x) h = bare_writable x h
  bare_writable (Binary s o x y) h = (bare_writable x h.0, bare_writable y h.1)

  bares_writable : (xs : Exs) → AreWritable (list_without_places xs) → AreWritable xs
  bares_writable none h = h
  bares_writable (more x xs) h = (bare_writable x h.0, bares_writable xs h.1)

mutual
  unfolding IsWritable without_places

  writable_bare : (x : Ex) → IsWritable x → IsWritable (without_places x)
  writable_bare (Int s z) h = h
  writable_bare (Word s n) h = h
  writable_bare (Wide s n) h = h
  writable_bare (True s) h = h
  writable_bare (False s) h = h
  writable_bare (Prev s) h = h
  writable_bare (Name n) h = h
  writable_bare (Call f xs) h = (h.0, writable_bares xs h.1)
  writable_bare (Index s x i) h = (writable_bare x h.0, writable_bare i h.1)
  writable_bare (Unary s o x) h = writable_bare x h
  writable_bare (Binary s o x y) h = (writable_bare x h.0, writable_bare y h.1)

  writable_bares : (xs : Exs) → AreWritable xs → AreWritable (list_without_places xs)
  writable_bares none h = h
  writable_bares (more x xs) h = (writable_bare x h.0, writable_bares xs h.1)

-- an expression that some text spells, places aside, is writable
pub spelled_is_writable : (x : Ex) (file : ℕ) (bytes : List ℕ) → IsTextOf file bytes x → IsWritable x
spelled_is_writable x file bytes t =
    let w = spelled_writable t.spelled (text_proper file bytes t.tokens t.lexes) in
    bare_writable x (subst IsWritable t.same (writable_bare t.tree w.0))
