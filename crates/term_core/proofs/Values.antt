-- Laws of values.
use Rattle.std.proofs.Common.{◌≡◌, ℕ, ◌+◌, ◌-◌, ◌*◌, ◌/◌, ◌%◌, ◌<◌, ◌^◌, pos, negsuc, ℤ, List, [], ◌∷◌, map, Bool, true, false, refl, ap, ◌∙◌, arith, mod-eq_of_lt, cond}
use Rattle.std.specs.Cmp.{signed_Decides}
use Rattle.std.specs.Prelude.{bit_and, bit_or, bit_xor}
use Rattle.std.specs.Int.Bits.{and_lt}
use Rattle.std.proofs.lemmas.Nat.{xor_lt, or_lt, mod_below, div_below, mul-lt}
use Rattle.std.proofs.lemmas.Bool.{false≢true, eqb-true, eq-eqb}
use Rattle.std.proofs.lemmas.Slice.Eq.{bytes_eq-Decides}
use Rattle.x64_syntax.specs.declared.type_words.Sort.{Sort}
use Rattle.x64_syntax.specs.declared.type_words.Sort.TheVariants as sort
use Rattle.term_core.specs.declared.operator.UnOp.{UnOp}
use Rattle.term_core.specs.declared.operator.UnOp.TheVariants as un
use Rattle.term_core.specs.declared.operator.BinOp.{BinOp}
use Rattle.term_core.specs.declared.operator.BinOp.TheVariants as bin
use Rattle.term_core.specs.Operators.{sum_sort, bits_sort, un_sort, bin_sort, counted_sort}
use Rattle.term_core.specs.Terms.{Tm, Name, Int, W64, W128, Un, Bin, Ite, Put, PutDword, Clmul, Shift, Call, All, tm_sort}
use Rattle.term_core.specs.Terms as tm
use Rattle.term_core.specs.Value.{T, T128, Val, Whole, Truth, Word, Wide, Array, truth, word, whole, wide, array, cast, word_of, val_eq, un_value, bin_value, sum_value, difference_value, product_value, bits_value, not_value, word_at, byte_at, dword_at, put_at, put_dword_at, shift_value, Functions, Assignment, value, values}
use Rattle.aes_words.specs.Rounds.{aesenc, aesenclast, clmul}
use Rattle.word_ops.specs.Words128.{paddd, pshufb}
use Rattle.term_core.proofs.Comparing.{int_eq_same}

pub word-lt : (v : Val) → word v < T
word-lt (Word n) = mod_below n T (omega arith)
word-lt (Whole z) = omega arith
word-lt (Truth b) = omega arith
word-lt (Wide n) = omega arith
word-lt (Array ws) = omega arith

pub wide-lt : (v : Val) → wide v < T128
wide-lt (Wide n) = mod_below n T128 (omega arith)
wide-lt (Whole z) = omega arith
wide-lt (Truth b) = omega arith
wide-lt (Word n) = omega arith
wide-lt (Array ws) = omega arith

words_twice : (ws : List ℕ) → map (λ n. n % T) (map (λ n. n % T) ws) ≡ map (λ n. n % T) ws
words_twice [] = refl
words_twice (w ∷ ws) = ap (λ n. n ∷ map (λ n. n % T) (map (λ n. n % T) ws)) (mod-eq_of_lt (mod_below w T (omega arith))) ∙ ap (λ ns. (w % T) ∷ ns) (words_twice ws)

array_twice : (v : Val) → map (λ n. n % T) (array v) ≡ array v
array_twice (Array ws) = words_twice ws
array_twice (Whole z) = refl
array_twice (Truth b) = refl
array_twice (Word n) = refl
array_twice (Wide n) = refl

-- a value that is one of its sort
abbrev pub IsOf : Sort → Val → Type 0
IsOf s v = cast s v ≡ v

pub cast_twice : (s : Sort) (v : Val) → cast s (cast s v) ≡ cast s v
cast_twice sort.Int v = refl
cast_twice sort.Bool v = refl
cast_twice sort.W64 v = ap Word (mod-eq_of_lt (word-lt v))
cast_twice sort.W128 v = ap Wide (mod-eq_of_lt (wide-lt v))
cast_twice sort.Arr v = ap Array (array_twice v)

is_word : (n : ℕ) → n < T → IsOf sort.W64 (Word n)
is_word n lt = ap Word (mod-eq_of_lt lt)

is_wide : (n : ℕ) → n < T128 → IsOf sort.W128 (Wide n)
is_wide n lt = ap Wide (mod-eq_of_lt lt)

word_mod : (n : ℕ) → IsOf sort.W64 (Word (n % T))
word_mod n = is_word (n % T) (mod_below n T (omega arith))

sum-sorted : (s : Sort) (v w : Val) → IsOf (sum_sort s) (sum_value s v w)
sum-sorted sort.Int v w = refl
sum-sorted sort.Bool v w = refl
sum-sorted sort.W128 v w = refl
sum-sorted sort.Arr v w = refl
sum-sorted sort.W64 v w = word_mod (word v + word w)

difference-sorted : (s : Sort) (v w : Val) → IsOf (sum_sort s) (difference_value s v w)
difference-sorted sort.Int v w = refl
difference-sorted sort.Bool v w = refl
difference-sorted sort.W128 v w = refl
difference-sorted sort.Arr v w = refl
difference-sorted sort.W64 v w = word_mod (word v + T - word w)

product-sorted : (s : Sort) (v w : Val) → IsOf (sum_sort s) (product_value s v w)
product-sorted sort.Int v w = refl
product-sorted sort.Bool v w = refl
product-sorted sort.W128 v w = refl
product-sorted sort.Arr v w = refl
product-sorted sort.W64 v w = word_mod (word v * word w)

bits-sorted : (f : ℕ → ℕ → ℕ) → ((k a b : ℕ) → a < 2 ^ k → b < 2 ^ k → f a b < 2 ^ k) → (s : Sort) (v w : Val) → IsOf (bits_sort s) (bits_value f s v w)
bits-sorted f below sort.Int v w = is_word _ (below 64 (word v) (word w) (word-lt v) (word-lt w))
bits-sorted f below sort.Bool v w = is_word _ (below 64 (word v) (word w) (word-lt v) (word-lt w))
bits-sorted f below sort.W64 v w = is_word _ (below 64 (word v) (word w) (word-lt v) (word-lt w))
bits-sorted f below sort.Arr v w = is_word _ (below 64 (word v) (word w) (word-lt v) (word-lt w))
bits-sorted f below sort.W128 v w = is_wide _ (below 128 (wide v) (wide w) (wide-lt v) (wide-lt w))

not-sorted : (s : Sort) (v : Val) → IsOf (bits_sort s) (not_value s v)
not-sorted sort.Int v = is_word _ (omega (arith, word-lt v))
not-sorted sort.Bool v = is_word _ (omega (arith, word-lt v))
not-sorted sort.W64 v = is_word _ (omega (arith, word-lt v))
not-sorted sort.Arr v = is_word _ (omega (arith, word-lt v))
not-sorted sort.W128 v = is_wide _ (omega (arith, wide-lt v))

word_of-sorted : (z : ℤ) → IsOf sort.W64 (Word (word_of z))
word_of-sorted (pos n) = word_mod n
word_of-sorted (negsuc n) = is_word _ (omega arith)

upper-lt : (a b : ℕ) → a < T → b < T → (a * b) / T < T
upper-lt a b p q = div_below (a * b) T T (omega arith) (mul-lt a b T T p q)

pair-lt : (a b : ℕ) → a < T → b < T → a * T + b < T128
pair-lt a b p q = omega (arith, p, q)

pub un_value-sorted : (op : UnOp) (s : Sort) (v : Val) → IsOf (un_sort op s) (un_value op s v)
un_value-sorted un.Neg s v = refl
un_value-sorted un.Int s v = refl
un_value-sorted un.Word s v = word_of-sorted (whole v)
un_value-sorted un.LogicNot s v = refl
un_value-sorted un.Not s v = not-sorted s v
un_value-sorted un.Hi s v = is_word _ (div_below (wide v) T T (omega arith) (omega (arith, wide-lt v)))
un_value-sorted un.Lo s v = word_mod (wide v)
un_value-sorted un.Len s v = refl

pub bin_value-sorted : (op : BinOp) (s : Sort) (v w : Val) → IsOf (bin_sort op s) (bin_value op s v w)
bin_value-sorted bin.Add s v w = sum-sorted s v w
bin_value-sorted bin.Sub s v w = difference-sorted s v w
bin_value-sorted bin.Mul s v w = product-sorted s v w
bin_value-sorted bin.Div s v w = refl
bin_value-sorted bin.Mod s v w = refl
bin_value-sorted bin.Eq s v w = refl
bin_value-sorted bin.Lt s v w = refl
bin_value-sorted bin.Le s v w = refl
bin_value-sorted bin.LogicAnd s v w = refl
bin_value-sorted bin.LogicOr s v w = refl
bin_value-sorted bin.Implies s v w = refl
bin_value-sorted bin.And s v w = bits-sorted bit_and and_lt s v w
bin_value-sorted bin.Or s v w = bits-sorted bit_or or_lt s v w
bin_value-sorted bin.Xor s v w = bits-sorted bit_xor xor_lt s v w
bin_value-sorted bin.Mulhi s v w = is_word _ (upper-lt (word v) (word w) (word-lt v) (word-lt w))
bin_value-sorted bin.Pair s v w = is_wide _ (pair-lt (word v) (word w) (word-lt v) (word-lt w))
bin_value-sorted bin.Paddd s v w = cast_twice sort.W128 (Wide (paddd (wide v) (wide w)))
bin_value-sorted bin.Pshufb s v w = cast_twice sort.W128 (Wide (pshufb (wide v) (wide w)))
bin_value-sorted bin.Aesenc s v w = cast_twice sort.W128 (Wide (aesenc (wide v) (wide w)))
bin_value-sorted bin.Aesenclast s v w = cast_twice sort.W128 (Wide (aesenclast (wide v) (wide w)))
bin_value-sorted bin.Index s v w = cast_twice sort.W64 (Word (word_at (array v) (whole w)))
bin_value-sorted bin.ByteAt s v w = cast_twice sort.W64 (Word (byte_at (array v) (whole w)))
bin_value-sorted bin.DwordAt s v w = cast_twice sort.W64 (Word (dword_at (array v) (whole w)))

pub choice-sorted : (s : Sort) (b : Bool) (v w : Val) → IsOf s v → IsOf s (cond b v (cast s w))
choice-sorted s true v w h = h
choice-sorted s false v w h = cast_twice s w

-- a term's value is one of its sort
pub value-sorted : (f : Functions) (a : Assignment) (t : Tm) → IsOf (tm_sort t) (value f a t)
value-sorted f a (Name text s) = cast_twice s (a text s)
value-sorted f a (Int z) = refl
value-sorted f a (W64 n) = word_mod n
value-sorted f a (W128 n) = is_wide _ (mod_below n T128 (omega arith))
value-sorted f a (tm.TruthTerm b) = refl
value-sorted f a (Un op t) = un_value-sorted op (tm_sort t) (value f a t)
value-sorted f a (Bin op t u) = bin_value-sorted op (tm_sort t) (value f a t) (value f a u)
value-sorted f a (Ite c t u) = choice-sorted (tm_sort t) (truth (value f a c)) (value f a t) (value f a u) (value-sorted f a t)
value-sorted f a (Put x i w) = cast_twice sort.Arr (Array (put_at (array (value f a x)) (whole (value f a i)) (word (value f a w))))
value-sorted f a (PutDword x j w) = cast_twice sort.Arr (Array (put_dword_at (array (value f a x)) (whole (value f a j)) (word (value f a w))))
value-sorted f a (Clmul t u n) = cast_twice sort.W128 (Wide (clmul (wide (value f a t)) (wide (value f a u)) n))
value-sorted f a (Shift op n t) = cast_twice (counted_sort op) (shift_value op n (value f a t))
value-sorted f a (Call k s args) = cast_twice s (f k (values f a args))
value-sorted f a (All text low high body) = refl

pub val_eq_same : (v : Val) → val_eq v v ≡ true
val_eq_same (Whole z) = int_eq_same z
val_eq_same (Truth true) = refl
val_eq_same (Truth false) = refl
val_eq_same (Word n) = eq-eqb n n refl
val_eq_same (Wide n) = eq-eqb n n refl
val_eq_same (Array ws) = (bytes_eq-Decides ws ws).1 refl

pub val_eq_is : (v w : Val) → val_eq v w ≡ true → v ≡ w
val_eq_is (Whole a) (Whole b) h = ap Whole ((signed_Decides a b).0 h)
val_eq_is (Truth true) (Truth true) h = refl
val_eq_is (Truth false) (Truth false) h = refl
val_eq_is (Word a) (Word b) h = ap Word (eqb-true a b h)
val_eq_is (Wide a) (Wide b) h = ap Wide (eqb-true a b h)
val_eq_is (Array a) (Array b) h = ap Array ((bytes_eq-Decides a b).0 h)
val_eq_is _ _ h = absurd (false≢true h)
