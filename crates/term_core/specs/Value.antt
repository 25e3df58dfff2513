-- What a term is worth: whole numbers without bounds, words modulo 2^64 or 2^128, arrays as lists of words.
use Rattle.std.specs.Prelude.{◌≡◌, ℕ, zero, suc, ◌+◌, ◌-◌, ◌*◌, ◌/◌, ◌%◌, ◌^◌, ℤ, pos, negsuc, ◌+ℤ◌, ◌-ℤ◌, ◌*ℤ◌, neg_ℤ, int_le, int_lt, List, [], ◌∷◌, length, map, Bool, true, false, not, ◌&&◌, ◌||◌, ◌==◌, if◌then◌else◌, bit_and, bit_or, bit_xor, slice_index, slice_set}
use Rattle.std.specs.List.{AllByRecursion}
use Rattle.std.specs.Ordering.{int_eq}
use Rattle.std.specs.Str.{bytes_eq}
pub use Rattle.x64_syntax.specs.Numbers.{T, word_of}
use Rattle.x64_syntax.specs.declared.type_words.Sort.{Sort}
use Rattle.x64_syntax.specs.declared.type_words.Sort.TheVariants as sort
use Rattle.term_core.specs.declared.operator.UnOp.{UnOp}
use Rattle.term_core.specs.declared.operator.UnOp.TheVariants as un
use Rattle.term_core.specs.declared.operator.BinOp.{BinOp}
use Rattle.term_core.specs.declared.operator.BinOp.TheVariants as bin
use Rattle.term_core.specs.declared.operator.CountedOp.{CountedOp}
use Rattle.term_core.specs.declared.operator.CountedOp.TheVariants as counted
use Rattle.term_core.specs.Operators.{sort_eq, counted_sort}
use Rattle.term_core.specs.Terms.{Tm, Tms, Name, Int, W64, W128, Un, Bin, Ite, Put, PutDword, Clmul, Shift, Call, All, no_tms, more_tms, tm_sort}
use Rattle.term_core.specs.Terms as tm
use Rattle.aes_words.specs.Rounds.{aesenc, aesenclast, clmul}
use Rattle.word_ops.specs.Words.{rol, ror}
use Rattle.word_ops.specs.Words128.{pair, high, low, paddd, pshufb, pshufd, pslld, psrld, pslldq, psrldq}

-- the words of 128 bits are the numbers below this one
abbrev pub T128 : ℕ
T128 = 2 ^ 128

pub data Val : Type 0 where
  Whole : ℤ → Val
  Truth : Bool → Val
  Word : ℕ → Val
  Wide : ℕ → Val
  Array : List ℕ → Val

-- the whole number, the truth, the word or the array of a value of that sort, and a fixed one of any other value
abbrev pub whole : Val → ℤ
whole (Whole z) = z
whole _ = pos 0

abbrev pub truth : Val → Bool
truth (Truth b) = b
truth _ = false

abbrev pub word : Val → ℕ
word (Word n) = n % T
word _ = 0

abbrev pub wide : Val → ℕ
wide (Wide n) = n % T128
wide _ = 0

abbrev pub array : Val → List ℕ
array (Array ws) = map (λ n. n % T) ws
array _ = []

-- a value as one of the sort
abbrev pub cast : Sort → Val → Val
cast sort.Int v = Whole (whole v)
cast sort.Bool v = Truth (truth v)
cast sort.W64 v = Word (word v)
cast sort.W128 v = Wide (wide v)
cast sort.Arr v = Array (array v)

abbrev pub val_eq : Val → Val → Bool
val_eq (Whole a) (Whole b) = int_eq a b
val_eq (Truth true) (Truth true) = true
val_eq (Truth false) (Truth false) = true
val_eq (Word a) (Word b) = a == b
val_eq (Wide a) (Wide b) = a == b
val_eq (Array a) (Array b) = bytes_eq a b
val_eq _ _ = false

-- rounded down where the second is above 0, else 0
abbrev pub floor_div : ℤ → ℤ → ℤ
floor_div (pos a) (pos (suc b)) = pos (a / suc b)
floor_div (negsuc a) (pos (suc b)) = negsuc (a / suc b)
floor_div _ _ = pos 0

abbrev pub floor_mod : ℤ → ℤ → ℤ
floor_mod (pos a) (pos (suc b)) = pos (a % suc b)
floor_mod (negsuc a) (pos (suc b)) = pos (b - a % suc b)
floor_mod _ _ = pos 0

-- word i of an array, and 0 outside
abbrev pub word_at : List ℕ → ℤ → ℕ
word_at ws (pos i) = slice_index ws i
word_at ws (negsuc i) = 0

-- the array with word i replaced, and the array itself where i is outside
abbrev pub put_at : List ℕ → ℤ → ℕ → List ℕ
put_at ws (pos i) w = slice_set ws i w
put_at ws (negsuc i) w = ws

-- byte j of an array's words, each from the low end, and 0 outside
abbrev pub byte_at : List ℕ → ℤ → ℕ
byte_at ws (pos j) = (slice_index ws (j / 8) / 256 ^ (j % 8)) % 256
byte_at ws (negsuc j) = 0

-- half j of an array's words, the lower one first, and 0 outside
abbrev pub dword_at : List ℕ → ℤ → ℕ
dword_at ws (pos j) = (slice_index ws (j / 2) / (2 ^ 32) ^ (j % 2)) % 2 ^ 32
dword_at ws (negsuc j) = 0

-- a word with the lower half replaced, or with the upper one
abbrev pub with_half : ℕ → ℕ → ℕ → ℕ
with_half n zero half = n / 2 ^ 32 * 2 ^ 32 + half
with_half n _ half = half * 2 ^ 32 + n % 2 ^ 32

-- the array with half j replaced by the lower half of a word, and the array itself where j is outside
abbrev pub put_dword_at : List ℕ → ℤ → ℕ → List ℕ
put_dword_at ws (pos j) w = slice_set ws (j / 2) (with_half (slice_index ws (j / 2)) (j % 2) (w % 2 ^ 32))
put_dword_at ws (negsuc j) w = ws

-- the word, or all 128 bits, of which each bit is the other one
abbrev pub not_value : Sort → Val → Val
not_value sort.W128 v = Wide (T128 - 1 - wide v)
not_value _ v = Word (T - 1 - word v)

-- an operator's value, by the sort of its first argument
abbrev pub un_value : UnOp → Sort → Val → Val
un_value un.Neg s v = Whole (neg_ℤ (whole v))
un_value un.Int s v = Whole (pos (word v))
un_value un.Word s v = Word (word_of (whole v))
un_value un.LogicNot s v = Truth (not (truth v))
un_value un.Not s v = not_value s v
un_value un.Hi s v = Word (high (wide v))
un_value un.Lo s v = Word (low (wide v))
un_value un.Len s v = Whole (pos (length (array v)))

-- of words modulo 2^64 where the first is one, else of whole numbers; a difference of words isn't negative by 2^64 more
abbrev pub sum_value : Sort → Val → Val → Val
sum_value sort.W64 v w = Word ((word v + word w) % T)
sum_value _ v w = Whole (whole v +ℤ whole w)

abbrev pub difference_value : Sort → Val → Val → Val
difference_value sort.W64 v w = Word ((word v + T - word w) % T)
difference_value _ v w = Whole (whole v -ℤ whole w)

abbrev pub product_value : Sort → Val → Val → Val
product_value sort.W64 v w = Word ((word v * word w) % T)
product_value _ v w = Whole (whole v *ℤ whole w)

-- bit by bit
abbrev pub bits_value : (ℕ → ℕ → ℕ) → Sort → Val → Val → Val
bits_value f sort.W128 v w = Wide (f (wide v) (wide w))
bits_value f _ v w = Word (f (word v) (word w))

abbrev pub bin_value : BinOp → Sort → Val → Val → Val
bin_value bin.Add s v w = sum_value s v w
bin_value bin.Sub s v w = difference_value s v w
bin_value bin.Mul s v w = product_value s v w
bin_value bin.Div s v w = Whole (floor_div (whole v) (whole w))
bin_value bin.Mod s v w = Whole (floor_mod (whole v) (whole w))
bin_value bin.Eq s v w = Truth (val_eq v w)
bin_value bin.Lt s v w = Truth (int_lt (whole v) (whole w))
bin_value bin.Le s v w = Truth (int_le (whole v) (whole w))
bin_value bin.LogicAnd s v w = Truth (truth v && truth w)
bin_value bin.LogicOr s v w = Truth (truth v || truth w)
bin_value bin.Implies s v w = Truth (not (truth v) || truth w)
bin_value bin.And s v w = bits_value bit_and s v w
bin_value bin.Or s v w = bits_value bit_or s v w
bin_value bin.Xor s v w = bits_value bit_xor s v w
bin_value bin.Mulhi s v w = Word ((word v * word w) / T)
bin_value bin.Pair s v w = Wide (pair (word v) (word w))
bin_value bin.Paddd s v w = cast sort.W128 (Wide (paddd (wide v) (wide w)))
bin_value bin.Pshufb s v w = cast sort.W128 (Wide (pshufb (wide v) (wide w)))
bin_value bin.Aesenc s v w = cast sort.W128 (Wide (aesenc (wide v) (wide w)))
bin_value bin.Aesenclast s v w = cast sort.W128 (Wide (aesenclast (wide v) (wide w)))
bin_value bin.Index s v w = cast sort.W64 (Word (word_at (array v) (whole w)))
bin_value bin.ByteAt s v w = cast sort.W64 (Word (byte_at (array v) (whole w)))
bin_value bin.DwordAt s v w = cast sort.W64 (Word (dword_at (array v) (whole w)))

-- a word of 64 or 128 bits shifted, rotated or picked from by a constant
abbrev pub shift_value : CountedOp → ℕ → Val → Val
shift_value counted.Shl n v = Word (word v * 2 ^ n)
shift_value counted.Shr n v = Word (word v / 2 ^ n)
shift_value counted.Rol n v = Word (rol (word v) n)
shift_value counted.Ror n v = Word (ror (word v) n)
shift_value counted.Pshufd n v = Wide (pshufd (wide v) n)
shift_value counted.Pslld n v = Wide (pslld (wide v) n)
shift_value counted.Psrld n v = Wide (psrld (wide v) n)
shift_value counted.Pslldq n v = Wide (pslldq (wide v) n)
shift_value counted.Psrldq n v = Wide (psrldq (wide v) n)

abbrev pub counted_value : CountedOp → ℕ → Val → Val
counted_value op n v = cast (counted_sort op) (shift_value op n v)

abbrev pub put_value : Val → Val → Val → Val
put_value x i w = cast sort.Arr (Array (put_at (array x) (whole i) (word w)))

abbrev pub put_dword_value : Val → Val → Val → Val
put_dword_value x j w = cast sort.Arr (Array (put_dword_at (array x) (whole j) (word w)))

abbrev pub clmul_value : Val → Val → ℕ → Val
clmul_value v w n = cast sort.W128 (Wide (clmul (wide v) (wide w) n))

-- what functions give, by their numbers and arguments
abbrev pub Functions : Type 0
Functions = ℕ → List Val → Val

-- a value for each name and sort; a name is read as a value of its sort
abbrev pub Assignment : Type 0
Assignment = List ℕ → Sort → Val

-- the assignment that gives the value to the name of that sort
abbrev pub assigned : List ℕ → Sort → Val → Assignment → Assignment
assigned name s v a text t = if bytes_eq name text && sort_eq s t then v else a text t

-- the assignment that gives the number to the name
abbrev pub bound : List ℕ → ℤ → Assignment → Assignment
bound name z a = assigned name sort.Int (Whole z) a

-- so many numbers from the first on
abbrev pub all_of : ℕ → ℤ → (ℤ → Bool) → Bool
all_of zero z p = true
all_of (suc n) z p = p z && all_of n (z +ℤ pos 1) p

-- how many numbers there are up to a whole number, from 0 on
abbrev pub count : ℤ → ℕ
count (pos n) = n
count (negsuc n) = 0

-- each number from the one bound up to the other
abbrev pub all_between : ℤ → ℤ → (ℤ → Bool) → Bool
all_between low high p = all_of (count (high -ℤ low)) low p

abbrev mutual
  pub value : Functions → Assignment → Tm → Val
  value f a (Name text s) = cast s (a text s)
  value f a (Int z) = Whole z
  value f a (W64 n) = Word (n % T)
  value f a (W128 n) = Wide (n % T128)
  value f a (tm.TruthTerm b) = Truth b
  value f a (Un op t) = un_value op (tm_sort t) (value f a t)
  value f a (Bin op t u) = bin_value op (tm_sort t) (value f a t) (value f a u)
  value f a (Ite c t u) = if truth (value f a c) then value f a t else cast (tm_sort t) (value f a u)
  value f a (Put x i w) = put_value (value f a x) (value f a i) (value f a w)
  value f a (PutDword x j w) = put_dword_value (value f a x) (value f a j) (value f a w)
  value f a (Clmul t u n) = clmul_value (value f a t) (value f a u) n
  value f a (Shift op n t) = counted_value op n (value f a t)
  value f a (Call k s args) = cast s (f k (values f a args))
  value f a (All text low high body) =
      Truth (all_between (whole (value f a low)) (whole (value f a high)) (λ z. truth (value f (bound text z a) body)))

  pub values : Functions → Assignment → Tms → List Val
  values f a no_tms = []
  values f a (more_tms t ts) = value f a t ∷ values f a ts

-- a formula holds under an assignment
abbrev pub Holds : Functions → Assignment → Tm → Type 0
Holds f a t = value f a t ≡ Truth true

-- each assignment that makes all hypotheses true makes the goal true
abbrev pub True : Functions → List Tm → Tm → Type 0
True f hyps goal = (a : Assignment) → AllByRecursion (Holds f a) hyps → Holds f a goal
