-- The text of a writable expression lexes to tokens that spell it.
use Rattle.std.proofs.Common.{◌≡◌, ℕ, zero, suc, ◌+◌, ◌-◌, ◌^◌, ◌<◌, ◌≤◌, max, Bool, true, false, cond, List, [], ◌∷◌, ◌++◌, length, drop, Some, None, ◌⊎◌, inl, inr, refl, sym, ◌∙◌, ap, subst, arith, decimal, append_assoc, length-append}
use Rattle.std.specs.Prelude.{pos, negsuc, nat_le, codes}
use Rattle.std.proofs.lemmas.Bool.{leb-true, leb-false, lt-ltb, false≢true}
use Rattle.std.proofs.lemmas.List.{append-nil}
use Rattle.x64_syntax.specs.Words.{is_name_text}
use Rattle.x64_syntax.specs.Tables.{keywords}
use Rattle.vale_syntax.specs.declared.token.Token.{Token}
use Rattle.vale_syntax.specs.declared.token.TokenKind.{TokenKind}
use Rattle.vale_syntax.specs.declared.token.TokenKind.TheVariants as kind
use Rattle.vale_syntax.specs.declared.token.Front.TheVariants.{Taken}
use Rattle.vale_syntax.specs.declared.spot.Spot.{Spot}
use Rattle.vale_syntax.specs.declared.mark.Mark.TheVariants as mark
use Rattle.vale_syntax.specs.declared.mark.BinaryOp.{BinaryOp}
use Rattle.vale_syntax.specs.declared.mark.BinaryOp.TheVariants as op
use Rattle.vale_syntax.specs.declared.mark.UnaryOp.{UnaryOp}
use Rattle.vale_syntax.specs.declared.mark.UnaryOp.TheVariants as un
use Rattle.vale_syntax.specs.declared.lookahead.Lookahead.TheVariants as see
use Rattle.vale_syntax.specs.declared.expr.Name.{Name as AName}
use Rattle.vale_syntax.specs.Operators.{rank_of, any, right_of}
use Rattle.vale_syntax.specs.Peek.{peek, spot_of}
use Rattle.vale_syntax.specs.Tokens.{token_at as token_at, front, tokens_from, All}
use Rattle.vale_syntax.specs.Trees.{Ex, Exs, none, more, with_last, Int, Word, Wide, True, False, Prev, Name, Call, Index, Unary, Binary}
use Rattle.vale_syntax.specs.Expressions.{whole_number, whole_leaf, minus_number_by, leaf, minus_number, Spells, not_, negative, minus, postfix, operations, chain_end, operation, Indices, index_end, index, Atom, token, call, brackets, Arguments, no_arguments, some_arguments, Others, others_end, others_more}
use Rattle.vale_syntax.specs.inner.Print.{binary_text, unary_text, is_operand, bracketed_text, text, list_text, operand_text, IsFree, IsStamped, IsWritable, AreWritable, nowhere, without_places, list_without_places, IsTextOf}
use Rattle.vale_syntax.proofs.Complete.{rank_some}
use Rattle.vale_syntax.proofs.Lexing.{token_first, blank_first}
use Rattle.vale_syntax.proofs.Pieces.{ends, Ends, name_piece, stamped_piece, int_piece, word_piece, wide_piece, decimal_some}

-- The bytes lex to tokens that begin with a spelling of the expression, places aside; the given tokens follow.
record Written (file at : ℕ) (bytes : List ℕ) (ts : List Token) (x : Ex) : Type 0 where
  tokens : List Token
  lexes : tokens_from file 0 at bytes ≡ All tokens
  depth : ℕ
  tree : Ex
  spelled : Spells any depth tokens tree ts
  same : without_places tree ≡ without_places x

-- The same, as an operand: an atom and indices.
record Posted (file at : ℕ) (bytes : List ℕ) (ts : List Token) (x : Ex) : Type 0 where
  tokens : List Token
  lexes : tokens_from file 0 at bytes ≡ All tokens
  low : ℕ
  mid : List Token
  core : Ex
  atom : Atom low tokens core mid
  depth : ℕ
  tree : Ex
  indexed : Indices (spot_of tokens) low core mid depth tree ts
  same : without_places tree ≡ without_places x

-- The same in round brackets.
record Round (file at : ℕ) (bytes : List ℕ) (ts : List Token) (x : Ex) : Type 0 where
  inner : List Token
  lexes : tokens_from file 0 at bytes ≡ All (token_at file at (kind.Mark mark.RoundOpen) (codes "(") ∷ inner)
  depth : ℕ
  tree : Ex
  atom : Atom depth (token_at file at (kind.Mark mark.RoundOpen) (codes "(") ∷ inner) tree ts
  same : without_places tree ≡ without_places x

-- no index follows
Free : List Token → Type 0
Free ts = (n : ℕ) → minus_number_by (see.Int n) (peek ts) ≡ whole_number n

WrittenForm : Ex → Type 0
WrittenForm x = (file at : ℕ) (rest : List ℕ) (ts : List Token) → Ends rest → Free ts → tokens_from file 0 (at + length (text x)) rest ≡ All ts → Written file at (text x ++ rest) ts x

PostedForm : List ℕ → Ex → Type 0
PostedForm piece x = (file at : ℕ) (rest : List ℕ) (ts : List Token) → Ends rest → tokens_from file 0 (at + length piece) rest ≡ All ts → Posted file at (piece ++ rest) ts x

-- what is shown of each expression
Both : Ex → Type 0
Both x = (is_operand x ≡ true → PostedForm (text x) x) × WrittenForm x

-- operators of a looser rank may follow
raise : (r m d : ℕ) (ts : List Token) (x : Ex) (rest : List Token) → r ≤ m → Spells r d ts x rest → Spells m d ts x rest
raise r zero d ts x rest h s = subst (λ k. Spells k d ts x rest) (omega (arith, h)) s
raise r (suc m) d ts x rest h s = by_test (nat_le r m) refl (λ k. raise r m d ts x rest k s)
  where
    by_test : (t : Bool) → nat_le r m ≡ t → (r ≤ m → Spells m d ts x rest) → Spells (suc m) d ts x rest
    by_test true e lower = operations (lower (leb-true r m e)) chain_end
    by_test false e lower = let over = leb-false r m e in let same : r ≡ suc m = omega (arith, over, h) in subst (λ k. Spells k d ts x rest) same s

spelled_at : {file at : ℕ} {bytes : List ℕ} {ts : List Token} {x : Ex} (p : Posted file at bytes ts x) (r : ℕ) → Spells r p.depth p.tokens p.tree ts
spelled_at p r = raise 0 r _ _ _ _ (omega arith) (postfix p.atom p.indexed)

-- a token that is an expression by itself
leaf_posted : (file at : ℕ) (k : TokenKind) (piece rest : List ℕ) (ts : List Token) (x y : Ex) → front (piece ++ rest) ≡ Taken k (length piece) → 1 ≤ length piece → tokens_from file 0 (at + length piece) rest ≡ All ts
    → leaf (token_at file at k piece ∷ ts) ≡ Some y → without_places y ≡ without_places x → Posted file at (piece ++ rest) ts x
leaf_posted file at k piece rest ts x y h some_ e l same = record {
  tokens = token_at file at k piece ∷ ts;
  lexes = token_first file at k piece rest ts h some_ e;
  low = 1;
  mid = ts;
  core = y;
  atom = token l;
  depth = 1;
  tree = y;
  indexed = index_end;
  same = same;
}

posted_written : (x : Ex) → PostedForm (text x) x → WrittenForm x
unfolding PostedForm WrittenForm
posted_written x f file at rest ts ends_ free e =
    let p = f file at rest ts ends_ e in
    record { tokens = p.tokens; lexes = p.lexes; depth = p.depth; tree = p.tree; spelled = spelled_at p any; same = p.same }

both_posted : (x : Ex) → PostedForm (text x) x → Both x
unfolding Both
both_posted x f = ((λ h. f), posted_written x f)

-- in brackets
length_round : (n : ℕ) (piece : List ℕ) → n + length ((codes "(" ++ piece) ++ codes ")") ≡ n + 1 + length piece + 1
length_round n piece = let a = length-append (codes "(" ++ piece) (codes ")") in omega (arith, a)

round : (x : Ex) → WrittenForm x → (file at : ℕ) (rest : List ℕ) (ts : List Token) → tokens_from file 0 (at + 1 + length (text x) + 1) rest ≡ All ts → Round file at (((codes "(" ++ text x) ++ codes ")") ++ rest) ts x
unfolding WrittenForm Ends ends Free peek
round x f file at rest ts e =
    let close = token_first file (at + 1 + length (text x)) (kind.Mark mark.RoundClose) (codes ")") rest ts refl (omega arith) e in
    let w = f file (at + 1) (codes ")" ++ rest) (token_at file (at + 1 + length (text x)) (kind.Mark mark.RoundClose) (codes ")") ∷ ts) refl (λ n. refl) close in
    record {
      inner = w.tokens;
      lexes = ap (λ l. tokens_from file 0 at l) (append_assoc (codes "(" ++ text x) (codes ")") rest) ∙ token_first file at (kind.Mark mark.RoundOpen) (codes "(") (text x ++ (codes ")" ++ rest)) w.tokens refl (omega arith) w.lexes;
      depth = suc w.depth;
      tree = w.tree;
      atom = brackets refl w.spelled refl;
      same = w.same;
    }

round_posted : (file at : ℕ) (bytes : List ℕ) (ts : List Token) (x : Ex) → Round file at bytes ts x → Posted file at bytes ts x
round_posted file at bytes ts x r = record {
  tokens = token_at file at (kind.Mark mark.RoundOpen) (codes "(") ∷ r.inner;
  lexes = r.lexes;
  low = r.depth;
  mid = ts;
  core = r.tree;
  atom = r.atom;
  depth = r.depth;
  tree = r.tree;
  indexed = index_end;
  same = r.same;
}

-- an operand, with brackets where it needs them
operand : (x : Ex) → Both x → PostedForm (operand_text x) x
unfolding Both PostedForm
operand x f = by_test (is_operand x) refl
  where
    by_test : (t : Bool) → is_operand x ≡ t → (file at : ℕ) (rest : List ℕ) (ts : List Token) → Ends rest → tokens_from file 0 (at + length (bracketed_text t (text x))) rest ≡ All ts → Posted file at (bracketed_text t (text x) ++ rest) ts x
    by_test true h file at rest ts ends_ e = f.0 h file at rest ts ends_ e
    by_test false h file at rest ts ends_ e = round_posted _ _ _ _ _ (round x f.1 file at rest ts (ap (λ n. tokens_from file 0 n rest) (sym (length_round at (text x))) ∙ e))

-- numbers
int_posted : (s : Spot) (n : ℕ) → n < 2 ^ 127 → PostedForm (text (Int s (pos n))) (Int s (pos n))
unfolding PostedForm text leaf peek without_places
int_posted s n h file at rest ts ends_ e =
    leaf_posted file at (kind.Int n) (decimal n) rest ts (Int s (pos n)) (Int (record { file = file; at = at }) (pos n)) (int_piece n rest h ends_) (decimal_some n (omega (arith, h))) e
    (ap (λ t. whole_leaf (record { file = file; at = at }) (cond t (Some (pos n)) None)) (lt-ltb n (2 ^ 127) h)) refl

word_posted : (s : Spot) (n : ℕ) → n < 2 ^ 64 → PostedForm (text (Word s n)) (Word s n)
unfolding PostedForm text leaf peek without_places
word_posted s n h file at rest ts ends_ e =
    leaf_posted file at (kind.Word n) (decimal n ++ codes "w") rest ts (Word s n) (Word (record { file = file; at = at }) n) (word_piece n rest h) (suffix_some (decimal n) 119) e refl refl
  where
    suffix_some : (ds : List ℕ) (b : ℕ) → 1 ≤ length (ds ++ b ∷ [])
    suffix_some [] b = omega arith
    suffix_some (d ∷ ds) b = omega arith

wide_posted : (s : Spot) (n : ℕ) → n < 2 ^ 128 → PostedForm (text (Wide s n)) (Wide s n)
unfolding PostedForm text leaf peek without_places
wide_posted s n h file at rest ts ends_ e =
    leaf_posted file at (kind.Wide n) (decimal n ++ codes "v") rest ts (Wide s n) (Wide (record { file = file; at = at }) n) (wide_piece n rest h) (suffix_some (decimal n) 118) e refl refl
  where
    suffix_some : (ds : List ℕ) (b : ℕ) → 1 ≤ length (ds ++ b ∷ [])
    suffix_some [] b = omega arith
    suffix_some (d ∷ ds) b = omega arith

-- words and names
true_posted : (s : Spot) → PostedForm (text (True s)) (True s)
unfolding PostedForm text leaf peek without_places keywords
true_posted s file at rest ts ends_ e = leaf_posted file at kind.Name (codes "true") rest ts (True s) (True (record { file = file; at = at })) (name_piece (codes "true") rest refl ends_) (omega arith) e refl refl

false_posted : (s : Spot) → PostedForm (text (False s)) (False s)
unfolding PostedForm text leaf peek without_places keywords
false_posted s file at rest ts ends_ e = leaf_posted file at kind.Name (codes "false") rest ts (False s) (False (record { file = file; at = at })) (name_piece (codes "false") rest refl ends_) (omega arith) e refl refl

prev_posted : (s : Spot) → PostedForm (text (Prev s)) (Prev s)
unfolding PostedForm text leaf peek without_places keywords
prev_posted s file at rest ts ends_ e = leaf_posted file at kind.Name (codes "prev") rest ts (Prev s) (Prev (record { file = file; at = at })) (name_piece (codes "prev") rest refl ends_) (omega arith) e refl refl

name_some : (name : List ℕ) → is_name_text name ≡ true → 1 ≤ length name
name_some [] h = absurd (false≢true h)
name_some (b ∷ bs) h = omega arith

free_posted : (n : AName) → IsFree n.text → PostedForm n.text (Name n)
unfolding PostedForm leaf peek without_places
free_posted n f file at rest ts ends_ e =
    leaf_posted file at kind.Name n.text rest ts (Name n) (Name (record { text = n.text; spot = record { file = file; at = at } })) (name_piece n.text rest f.is_name ends_) (name_some n.text f.is_name) e
    (rw f.no_keyword refl) refl

stamped_posted : (n : AName) → IsStamped n.text → PostedForm n.text (Name n)
unfolding PostedForm leaf peek without_places
stamped_posted n f file at rest ts ends_ e =
    leaf_posted file at kind.Stamped n.text rest ts (Name n) (Name (record { text = n.text; spot = record { file = file; at = at } })) (stamped_piece n.text rest f ends_) (stamped_some n.text f) e refl refl
  where
    stamped_some : (piece : List ℕ) → IsStamped piece → 1 ≤ length piece
    stamped_some piece f = subst (λ l. 1 ≤ length l) (sym f.whole) (dotted f.name)
      where
        dotted : (name : List ℕ) → 1 ≤ length (name ++ 46 ∷ f.stamp)
        dotted [] = omega arith
        dotted (b ∷ bs) = omega arith

-- a number below 0
negative_written : (s : Spot) (n : ℕ) → suc n < 2 ^ 127 → WrittenForm (Int s (negsuc n))
unfolding WrittenForm text peek minus_number without_places Free
negative_written s n h file at rest ts ends_ free e =
    let number = token_first file (at + 1) (kind.Int (suc n)) (decimal (suc n)) rest ts (int_piece (suc n) rest h ends_) (decimal_some (suc n) (omega (arith, h))) (ap (λ k. tokens_from file 0 k rest) (shifted at (length (decimal (suc n)))) ∙ e) in
    let us = token_at file (at + 1) (kind.Int (suc n)) (decimal (suc n)) ∷ ts in
    record {
      tokens = token_at file at (kind.Mark (mark.Binary op.Sub)) (codes "-") ∷ us;
      lexes = token_first file at (kind.Mark (mark.Binary op.Sub)) (codes "-") (decimal (suc n) ++ rest) us refl (omega arith) number;
      depth = 1;
      tree = Int (record { file = file; at = at }) (negsuc n);
      spelled = raise 0 any _ _ _ _ (omega arith) (negative {z = pos (suc n)} refl (free (suc n) ∙ ap (λ t. cond t (Some (pos (suc n))) None) (lt-ltb (suc n) (2 ^ 127) h)));
      same = refl;
    }
  where
    shifted : (at n : ℕ) → at + 1 + n ≡ at + suc n
    shifted at n = omega arith

-- an operator before brackets
unary_length : (at : ℕ) (o : UnaryOp) (piece : List ℕ) → at + 1 + 1 + length piece + 1 ≡ at + length (((unary_text o ++ codes "(") ++ piece) ++ codes ")")
unary_length at un.Not piece = let a = length-append piece (codes ")") in omega (arith, a)
unary_length at un.Neg piece = let a = length-append piece (codes ")") in omega (arith, a)

unary_written : (s : Spot) (o : UnaryOp) (x : Ex) → WrittenForm x → WrittenForm (Unary s o x)
unfolding WrittenForm text peek minus_number without_places
unary_written s o x f file at rest ts ends_ free e = by_operator o (round x f file (at + 1) rest ts (ap (λ k. tokens_from file 0 k rest) (unary_length at o (text x)) ∙ e))
  where
    by_operator : (o : UnaryOp) → Round file (at + 1) (((codes "(" ++ text x) ++ codes ")") ++ rest) ts x → Written file at (text (Unary s o x) ++ rest) ts (Unary s o x)
    by_operator un.Not r =
        let us = token_at file (at + 1) (kind.Mark mark.RoundOpen) (codes "(") ∷ r.inner in
        record {
          tokens = token_at file at (kind.Mark mark.Bang) (codes "!") ∷ us;
          lexes = token_first file at (kind.Mark mark.Bang) (codes "!") (((codes "(" ++ text x) ++ codes ")") ++ rest) us refl (omega arith) r.lexes;
          depth = suc r.depth;
          tree = Unary (record { file = file; at = at }) un.Not r.tree;
          spelled = raise 0 any _ _ _ _ (omega arith) (not_ refl (postfix r.atom index_end));
          same = ap (Unary nowhere un.Not) r.same;
        }
    by_operator un.Neg r =
        let us = token_at file (at + 1) (kind.Mark mark.RoundOpen) (codes "(") ∷ r.inner in
        record {
          tokens = token_at file at (kind.Mark (mark.Binary op.Sub)) (codes "-") ∷ us;
          lexes = token_first file at (kind.Mark (mark.Binary op.Sub)) (codes "-") (((codes "(" ++ text x) ++ codes ")") ++ rest) us refl (omega arith) r.lexes;
          depth = suc r.depth;
          tree = Unary (record { file = file; at = at }) un.Neg r.tree;
          spelled = raise 0 any _ _ _ _ (omega arith) (minus refl refl (postfix r.atom index_end));
          same = ap (Unary nowhere un.Neg) r.same;
        }

-- an operator between two operands
binary_front : (o : BinaryOp) (rest : List ℕ) → front (binary_text o ++ (32 ∷ rest)) ≡ Taken (kind.Mark (mark.Binary o)) (length (binary_text o))
binary_front op.Mul rest = refl
binary_front op.Add rest = refl
binary_front op.Sub rest = refl
binary_front op.Eq rest = refl
binary_front op.Ne rest = refl
binary_front op.Lt rest = refl
binary_front op.Le rest = refl
binary_front op.Gt rest = refl
binary_front op.Ge rest = refl
binary_front op.And rest = refl
binary_front op.Or rest = refl
binary_front op.Implies rest = refl

binary_some : (o : BinaryOp) → 1 ≤ length (binary_text o)
binary_some op.Mul = omega arith
binary_some op.Add = omega arith
binary_some op.Sub = omega arith
binary_some op.Eq = omega arith
binary_some op.Ne = omega arith
binary_some op.Lt = omega arith
binary_some op.Le = omega arith
binary_some op.Gt = omega arith
binary_some op.Ge = omega arith
binary_some op.And = omega arith
binary_some op.Or = omega arith
binary_some op.Implies = omega arith

rank_small : (o : BinaryOp) → rank_of o ≤ any
rank_small op.Mul = omega arith
rank_small op.Add = omega arith
rank_small op.Sub = omega arith
rank_small op.Eq = omega arith
rank_small op.Ne = omega arith
rank_small op.Lt = omega arith
rank_small op.Le = omega arith
rank_small op.Gt = omega arith
rank_small op.Ge = omega arith
rank_small op.And = omega arith
rank_small op.Or = omega arith
rank_small op.Implies = omega arith

binary_length : (at : ℕ) (a o b : List ℕ) → at + length a + 1 + length o + 1 + length b ≡ at + length ((a ++ ((codes " " ++ o) ++ codes " ")) ++ b)
binary_length at a o b =
    let p = length-append (a ++ ((codes " " ++ o) ++ codes " ")) b in
    let q = length-append a ((codes " " ++ o) ++ codes " ") in
    let r = length-append (codes " " ++ o) (codes " ") in
    omega (arith, p, q, r)

binary_bytes : (a o b rest : List ℕ) → ((a ++ ((codes " " ++ o) ++ codes " ")) ++ b) ++ rest ≡ a ++ (32 ∷ (o ++ (32 ∷ (b ++ rest))))
binary_bytes a o b rest =
    append_assoc (a ++ ((codes " " ++ o) ++ codes " ")) b rest ∙ append_assoc a ((codes " " ++ o) ++ codes " ") (b ++ rest)
    ∙ ap (λ l. a ++ l) (append_assoc (codes " " ++ o) (codes " ") (b ++ rest))

binary_written : (s : Spot) (o : BinaryOp) (x y : Ex) → Both x → Both y → WrittenForm (Binary s o x y)
unfolding WrittenForm PostedForm text peek without_places Ends ends
binary_written s o x y f g file at rest ts ends_ free e =
    let a = operand_text x in
    let b = operand_text y in
    let w = binary_text o in
    let right = operand y g file (at + length a + 1 + length w + 1) rest ts ends_ (ap (λ k. tokens_from file 0 k rest) (binary_length at a w b) ∙ e) in
    let spot = at + length a + 1 in
    let us = token_at file spot (kind.Mark (mark.Binary o)) w ∷ right.tokens in
    let mark_lexes = token_first file spot (kind.Mark (mark.Binary o)) w (32 ∷ (b ++ rest)) right.tokens (binary_front o (b ++ rest)) (binary_some o) (blank_first file (spot + length w) (b ++ rest) right.tokens right.lexes) in
    let left = operand x f file at (32 ∷ (w ++ (32 ∷ (b ++ rest)))) us refl (blank_first file (at + length a) (w ++ (32 ∷ (b ++ rest))) us mark_lexes) in
    let positive = rank_some o in
    let rank : rank_of o ≡ suc (rank_of o - 1) = omega (arith, positive) in
    let small = rank_small o in
    let tree = Binary (spot_of left.tokens) o left.tree right.tree in
    record {
      tokens = left.tokens;
      lexes = ap (λ l. tokens_from file 0 at l) (binary_bytes a w b rest) ∙ left.lexes;
      depth = suc (max left.depth right.depth);
      tree = tree;
      spelled = raise (suc (rank_of o - 1)) any _ _ _ _ (omega (arith, rank, small)) (operations (spelled_at left (rank_of o - 1)) (operation o refl rank (spelled_at right (right_of o)) chain_end));
      same = ap (λ t. Binary nowhere o t (without_places right.tree)) left.same ∙ ap (Binary nowhere o (without_places x)) right.same;
    }

-- an index
index_last : {s : Spot} {d : ℕ} {x : Ex} {ts : List Token} {e : ℕ} {y : Ex} {mid : List Token} {k : ℕ} {i : Ex} {close : List Token} → Indices s d x ts e y mid → peek mid ≡ see.Mark mark.SquareOpen
    → Spells any k (drop 1 mid) i close → peek close ≡ see.Mark mark.SquareClose → Indices s d x ts (suc (max e k)) (Index s y i) (drop 1 close)
index_last index_end p h q = index p h q index_end
index_last (index a b c t) p h q = index a b c (index_last t p h q)

index_length : (at : ℕ) (a i : List ℕ) → at + length a + 1 + length i + 1 ≡ at + length (((a ++ codes "[") ++ i) ++ codes "]")
index_length at a i =
    let p = length-append ((a ++ codes "[") ++ i) (codes "]") in
    let q = length-append (a ++ codes "[") i in
    let r = length-append a (codes "[") in
    omega (arith, p, q, r)

index_bytes : (a b c d rest : List ℕ) → (((a ++ b) ++ c) ++ d) ++ rest ≡ a ++ (b ++ (c ++ (d ++ rest)))
index_bytes a b c d rest = append_assoc ((a ++ b) ++ c) d rest ∙ append_assoc (a ++ b) c (d ++ rest) ∙ append_assoc a b (c ++ (d ++ rest))

index_posted : (s : Spot) (x i : Ex) → Both x → WrittenForm i → PostedForm (text (Index s x i)) (Index s x i)
unfolding WrittenForm PostedForm text peek without_places Ends ends Free
index_posted s x i f g file at rest ts ends_ e =
    let a = operand_text x in
    let spot = at + length a + 1 + length (text i) in
    let close = token_at file spot (kind.Mark mark.SquareClose) (codes "]") ∷ ts in
    let close_lexes = token_first file spot (kind.Mark mark.SquareClose) (codes "]") rest ts refl (omega arith) (ap (λ k. tokens_from file 0 k rest) (index_length at a (text i)) ∙ e) in
    let inner = g file (at + length a + 1) (codes "]" ++ rest) close refl (λ n. refl) close_lexes in
    let us = token_at file (at + length a) (kind.Mark mark.SquareOpen) (codes "[") ∷ inner.tokens in
    let open_lexes = token_first file (at + length a) (kind.Mark mark.SquareOpen) (codes "[") (text i ++ (codes "]" ++ rest)) inner.tokens refl (omega arith) inner.lexes in
    let left = operand x f file at (codes "[" ++ (text i ++ (codes "]" ++ rest))) us refl open_lexes in
    record {
      tokens = left.tokens;
      lexes = ap (λ l. tokens_from file 0 at l) (index_bytes a (codes "[") (text i) (codes "]") rest) ∙ left.lexes;
      low = left.low;
      mid = left.mid;
      core = left.core;
      atom = left.atom;
      depth = suc (max left.depth inner.depth);
      tree = Index (spot_of left.tokens) left.tree inner.tree;
      indexed = index_last left.indexed refl inner.spelled refl;
      same = ap (λ t. Index nowhere t (without_places inner.tree)) left.same ∙ ap (Index nowhere (without_places x)) inner.same;
    }

-- The arguments behind some, with the closing bracket.
joined : Exs → Exs → Exs
joined none ys = ys
joined (more x xs) ys = more x (joined xs ys)

joined_last : (xs : Exs) (y : Ex) (ys : Exs) → joined (with_last xs y) ys ≡ joined xs (more y ys)
unfolding joined
joined_last none y ys = refl
joined_last (more x xs) y ys = ap (more x) (joined_last xs y ys)

joined_none : (xs : Exs) → joined xs none ≡ xs
unfolding joined
joined_none none = refl
joined_none (more x xs) = ap (more x) (joined_none xs)

bares_joined : (xs : Exs) (y z : Ex) (ys : Exs) → without_places y ≡ without_places z → list_without_places (joined xs (more y ys)) ≡ list_without_places (joined xs (more z ys))
unfolding joined list_without_places
bares_joined none y z ys h = ap (λ t. more t (list_without_places ys)) h
bares_joined (more x xs) y z ys h = ap (more (without_places x)) (bares_joined xs y z ys h)

record Tail (d : ℕ) (sofar : Exs) (tokens ts : List Token) (xs : Exs) : Type 0 where
  depth : ℕ
  trees : Exs
  others : Others d sofar tokens depth trees ts
  same : list_without_places trees ≡ list_without_places (joined sofar xs)

record Listed (file at : ℕ) (bytes : List ℕ) (ts : List Token) (xs : Exs) : Type 0 where
  tokens : List Token
  lexes : tokens_from file 0 at bytes ≡ All tokens
  free : Free tokens
  behind : (d : ℕ) (sofar : Exs) → Tail d sofar tokens ts xs

ListedForm : Exs → Type 0
ListedForm xs = (file at : ℕ) (rest : List ℕ) (ts : List Token) → tokens_from file 0 (at + length (list_text false xs) + 1) rest ≡ All ts → Listed file at (list_text false xs ++ (codes ")" ++ rest)) ts xs

list_ends : (xs : Exs) (rest : List ℕ) → Ends (list_text false xs ++ (codes ")" ++ rest))
unfolding list_text Ends ends
list_ends none rest = refl
list_ends (more x xs) rest = refl

none_listed : ListedForm none
unfolding ListedForm list_text joined peek Free
none_listed file at rest ts e = record {
  tokens = token_at file at (kind.Mark mark.RoundClose) (codes ")") ∷ ts;
  lexes = token_first file at (kind.Mark mark.RoundClose) (codes ")") rest ts refl (omega arith) (ap (λ k. tokens_from file 0 k rest) (same_place at) ∙ e);
  free = λ n. refl;
  behind = λ d sofar. record { depth = d; trees = sofar; others = others_end refl; same = ap list_without_places (sym (joined_none sofar)) };
}
  where
    same_place : (at : ℕ) → at + 1 ≡ at + 0 + 1
    same_place at = omega arith

more_length : (at : ℕ) (a b : List ℕ) → at + 1 + 1 + length a + length b + 1 ≡ at + length ((codes ", " ++ a) ++ b) + 1
more_length at a b =
    let p = length-append (codes ", " ++ a) b in
    let q = length-append (codes ", ") a in
    omega (arith, p, q)

more_bytes : (a b c : List ℕ) → ((codes ", " ++ a) ++ b) ++ c ≡ 44 ∷ 32 ∷ (a ++ (b ++ c))
more_bytes a b c = append_assoc (codes ", " ++ a) b c ∙ append_assoc (codes ", ") a (b ++ c)

more_listed : (x : Ex) (xs : Exs) → WrittenForm x → ListedForm xs → ListedForm (more x xs)
unfolding ListedForm WrittenForm list_text peek Free
more_listed x xs f g file at rest ts e =
    let a = text x in
    let b = list_text false xs in
    let tail = g file (at + 1 + 1 + length a) rest ts (ap (λ n. tokens_from file 0 n rest) (more_length at a b) ∙ e) in
    let first = f file (at + 1 + 1) (b ++ (codes ")" ++ rest)) tail.tokens (list_ends xs rest) tail.free tail.lexes in
    let behind = a ++ (b ++ (codes ")" ++ rest)) in
    record {
      tokens = token_at file at (kind.Mark mark.Comma) (codes ",") ∷ first.tokens;
      lexes = ap (λ l. tokens_from file 0 at l) (more_bytes a b (codes ")" ++ rest)) ∙ token_first file at (kind.Mark mark.Comma) (codes ",") (32 ∷ behind) first.tokens refl (omega arith) (blank_first file (at + 1) behind first.tokens first.lexes);
      free = λ n. refl;
      behind = λ d sofar. later x xs first.depth first.tree first.same d sofar (λ k ys o. others_more refl first.spelled o) (tail.behind (max d first.depth) (with_last sofar first.tree));
    }
  where
    later : (x : Ex) (xs : Exs) (e : ℕ) (y : Ex) → without_places y ≡ without_places x → (d : ℕ) (sofar : Exs) {us vs ts : List Token}
        → ((f : ℕ) (ys : Exs) → Others (max d e) (with_last sofar y) us f ys ts → Others d sofar vs f ys ts) → Tail (max d e) (with_last sofar y) us ts xs → Tail d sofar vs ts (more x xs)
    later x xs e y same d sofar before t = record {
      depth = t.depth;
      trees = t.trees;
      others = before t.depth t.trees t.others;
      same = t.same ∙ ap list_without_places (joined_last sofar y xs) ∙ bares_joined sofar y x xs same;
    }

-- The arguments of a call, with the closing bracket.
record Passed (file at : ℕ) (bytes : List ℕ) (ts : List Token) (xs : Exs) : Type 0 where
  tokens : List Token
  lexes : tokens_from file 0 at bytes ≡ All tokens
  depth : ℕ
  trees : Exs
  arguments : Arguments depth tokens trees ts
  same : list_without_places trees ≡ list_without_places xs

PassedForm : Exs → Type 0
PassedForm xs = (file at : ℕ) (rest : List ℕ) (ts : List Token) → tokens_from file 0 (at + length (list_text true xs) + 1) rest ≡ All ts → Passed file at (list_text true xs ++ (codes ")" ++ rest)) ts xs

none_passed : PassedForm none
unfolding PassedForm list_text peek
none_passed file at rest ts e = record {
  tokens = token_at file at (kind.Mark mark.RoundClose) (codes ")") ∷ ts;
  lexes = token_first file at (kind.Mark mark.RoundClose) (codes ")") rest ts refl (omega arith) (ap (λ k. tokens_from file 0 k rest) (same_place at) ∙ e);
  depth = 0;
  trees = none;
  arguments = no_arguments refl;
  same = refl;
}
  where
    same_place : (at : ℕ) → at + 1 ≡ at + 0 + 1
    same_place at = omega arith

more_passed : (x : Ex) (xs : Exs) → WrittenForm x → ListedForm xs → PassedForm (more x xs)
unfolding PassedForm ListedForm WrittenForm list_text joined list_without_places
more_passed x xs f g file at rest ts e =
    let a = text x in
    let b = list_text false xs in
    let tail = g file (at + length a) rest ts (ap (λ n. tokens_from file 0 n rest) (passed_length at a b) ∙ e) in
    let first = f file at (b ++ (codes ")" ++ rest)) tail.tokens (list_ends xs rest) tail.free tail.lexes in
    let behind = tail.behind first.depth (more first.tree none) in
    record {
      tokens = first.tokens;
      lexes = ap (λ l. tokens_from file 0 at l) (append_assoc a b (codes ")" ++ rest)) ∙ first.lexes;
      depth = behind.depth;
      trees = behind.trees;
      arguments = some_arguments first.spelled behind.others;
      same = behind.same ∙ ap (λ t. more t (list_without_places xs)) first.same;
    }
  where
    passed_length : (at : ℕ) (a b : List ℕ) → at + length a + length b + 1 ≡ at + length (([] ++ a) ++ b) + 1
    passed_length at a b = let p = length-append a b in omega (arith, p)

call_length : (at : ℕ) (name list : List ℕ) → at + length name + 1 + length list + 1 ≡ at + length (((name ++ codes "(") ++ list) ++ codes ")")
call_length at name list =
    let p = length-append ((name ++ codes "(") ++ list) (codes ")") in
    let q = length-append (name ++ codes "(") list in
    let r = length-append name (codes "(") in
    omega (arith, p, q, r)

call_posted : (n : AName) (xs : Exs) → IsFree n.text → PassedForm xs → PostedForm (text (Call n xs)) (Call n xs)
unfolding PassedForm PostedForm text peek without_places Ends ends
call_posted n xs free g file at rest ts ends_ e =
    let list = list_text true xs in
    let inner = g file (at + length n.text + 1) rest ts (ap (λ k. tokens_from file 0 k rest) (call_length at n.text list) ∙ e) in
    let us = token_at file (at + length n.text) (kind.Mark mark.RoundOpen) (codes "(") ∷ inner.tokens in
    let open_lexes = token_first file (at + length n.text) (kind.Mark mark.RoundOpen) (codes "(") (list ++ (codes ")" ++ rest)) inner.tokens refl (omega arith) inner.lexes in
    let behind = codes "(" ++ (list ++ (codes ")" ++ rest)) in
    record {
      tokens = token_at file at kind.Name n.text ∷ us;
      lexes = ap (λ l. tokens_from file 0 at l) (index_bytes n.text (codes "(") list (codes ")") rest) ∙ token_first file at kind.Name n.text behind us (name_piece n.text behind free.is_name refl) (name_some n.text free.is_name) open_lexes;
      low = suc inner.depth;
      mid = ts;
      core = Call (record { text = n.text; spot = record { file = file; at = at } }) inner.trees;
      atom = call (rw free.no_keyword refl) refl inner.arguments;
      depth = suc inner.depth;
      tree = Call (record { text = n.text; spot = record { file = file; at = at } }) inner.trees;
      indexed = index_end;
      same = ap (Call (record { text = n.text; spot = nowhere })) inner.same;
    }

-- all of it, by cases on the expression
name_posted : (n : AName) → (IsFree n.text) ⊎ (IsStamped n.text) → PostedForm n.text (Name n)
name_posted n (inl f) = free_posted n f
name_posted n (inr f) = stamped_posted n f

written_only : (x : Ex) → is_operand x ≡ false → WrittenForm x → Both x
unfolding Both
written_only x h f = ((λ k. absurd (false≢true (sym h ∙ k))), f)

mutual
  unfolding IsWritable text Both

  both : (x : Ex) → IsWritable x → Both x
  both (Int s (pos n)) h = both_posted _ (int_posted s n h)
  both (Int s (negsuc n)) h = written_only _ refl (negative_written s n h)
  both (Word s n) h = both_posted _ (word_posted s n h)
  both (Wide s n) h = both_posted _ (wide_posted s n h)
  both (True s) h = both_posted _ (true_posted s)
  both (False s) h = both_posted _ (false_posted s)
  both (Prev s) h = both_posted _ (prev_posted s)
  both (Name n) h = both_posted _ (name_posted n h)
  both (Call n none) h = both_posted _ (call_posted n none h.0 none_passed)
  both (Call n (more x xs)) h = both_posted _ (call_posted n (more x xs) h.0 (more_passed x xs (both x h.1.0).1 (listed xs h.1.1)))
  both (Index s x i) h = both_posted _ (index_posted s x i (both x h.0) (both i h.1).1)
  both (Unary s o x) h = written_only _ refl (unary_written s o x (both x h).1)
  both (Binary s o x y) h = written_only _ refl (binary_written s o x y (both x h.0) (both y h.1))

  listed : (xs : Exs) → AreWritable xs → ListedForm xs
  listed none h = none_listed
  listed (more x xs) h = more_listed x xs (both x h.0).1 (listed xs h.1)

-- the text of a writable expression is one of it
pub text_spells : (x : Ex) → IsWritable x → (file : ℕ) → IsTextOf file (text x) x
unfolding Both WrittenForm Ends Free peek tokens_from
text_spells x h file =
    let w = (both x h).1 file 0 [] [] tt (λ n. refl) (nothing_left file (length (text x))) in
    record {
      tokens = w.tokens;
      lexes = ap (λ l. tokens_from file 0 0 l) (sym (append-nil (text x))) ∙ w.lexes;
      tree = w.tree;
      depth = w.depth;
      spelled = w.spelled;
      same = w.same;
    }
  where
    nothing_left : (file at : ℕ) → tokens_from file 0 (0 + at) [] ≡ All []
    nothing_left file at = refl
