-- What the parts of equations are worth: words, whole numbers, truths and flags.
use Rattle.std.proofs.Common.{◌≡◌, ℕ, ◌+◌, ◌-◌, ◌*◌, ◌/◌, ◌%◌, ◌<◌, ℤ, pos, Bool, true, false, not, cond, refl, ap, ◌∙◌, arith, mod-eq_of_lt}
use Rattle.std.specs.Prelude.{nat_le, nat_lt, ◌==◌, bit_and, bit_or, bit_xor}
use Rattle.std.specs.Int.Bits.{and_lt}
use Rattle.std.proofs.lemmas.Nat.{xor_lt, or_lt, mod_below, div_below, mul-lt}
use Rattle.x64_syntax.specs.declared.places.MachinePlace.{MachinePlace}
use Rattle.x64_syntax.specs.declared.places.MachinePlace.TheVariants.{Flag}
use Rattle.x64_syntax.specs.declared.places.FlagName.{FlagName}
use Rattle.word_ops.specs.Words.{bit}
use Rattle.x64_syntax.specs.declared.type_words.Sort.TheVariants as sort
use Rattle.term_core.specs.declared.operator.UnOp.TheVariants as un
use Rattle.term_core.specs.declared.operator.BinOp.TheVariants as bin
use Rattle.term_core.specs.Value.{T, Val, Whole, Truth, Word, whole, word, truth}
use Rattle.x64_meaning.specs.declared.machine.Flag.{Flag as FlagValue}
use Rattle.x64_meaning.specs.declared.machine.Flag.TheVariants.{Zero, One, Undefined}
use Rattle.x64_meaning.specs.State.{flag_from, flag_number_of}
use Rattle.x64_meaning.specs.Exp.{Exp, Int, W64, Un, Bin, exp_sort, exp_value}
use Rattle.x64_meaning.specs.Table.{int_of, sum, difference, xor_of, one_if, one_unless, is_set, flag_in}
use Rattle.x64_meaning.specs.inner.Steps.{is_one, flag_if}

module _ (before after : MachinePlace → Val) (m : ℕ → Val) where
  abbrev val : Exp → Val
  val e = exp_value before after m e

  pub record IsWord (e : Exp) (n : ℕ) : Type 0 where
    pub value : val e ≡ Word n
    pub small : n < T
    pub sort : exp_sort e ≡ sort.W64

  pub record IsWhole (e : Exp) (z : ℤ) : Type 0 where
    pub value : val e ≡ Whole z
    pub sort : exp_sort e ≡ sort.Int

  pub record IsTruth (e : Exp) (b : Bool) : Type 0 where
    pub value : val e ≡ Truth b

  -- the flag that the value gives
  pub record IsFlag (e : Exp) (f : FlagValue) : Type 0 where
    pub value : flag_from (whole (val e)) ≡ f

  word_is : (e : Exp) (n : ℕ) → IsWord e n → word (val e) ≡ n
  word_is e n h = ap word h.value ∙ mod-eq_of_lt h.small

  pub constant : (n : ℕ) → n < T → IsWord (W64 n) n
  constant n lt = record { value = ap Word (mod-eq_of_lt lt); small = lt; sort = refl }

  pub sum_word : (e f : Exp) (x y : ℕ) → IsWord e x → IsWord f y → IsWord (sum e f) ((x + y) % T)
  sum_word e f x y h k = record {
    value = rw (h.sort, word_is e x h, word_is f y k) refl;
    small = mod_below (x + y) T (omega arith);
    sort = rw h.sort refl;
  }

  pub difference_word : (e f : Exp) (x y : ℕ) → IsWord e x → IsWord f y → IsWord (difference e f) ((x + T - y) % T)
  difference_word e f x y h k = record {
    value = rw (h.sort, word_is e x h, word_is f y k) refl;
    small = mod_below (x + T - y) T (omega arith);
    sort = rw h.sort refl;
  }

  pub product_word : (e f : Exp) (x y : ℕ) → IsWord e x → IsWord f y → IsWord (Bin bin.Mul e f) ((x * y) % T)
  product_word e f x y h k = record {
    value = rw (h.sort, word_is e x h, word_is f y k) refl;
    small = mod_below (x * y) T (omega arith);
    sort = rw h.sort refl;
  }

  pub upper_word : (e f : Exp) (x y : ℕ) → IsWord e x → IsWord f y → IsWord (Bin bin.Mulhi e f) ((x * y) / T)
  upper_word e f x y h k = record {
    value = rw (word_is e x h, word_is f y k) refl;
    small = div_below (x * y) T T (omega arith) (mul-lt x y T T h.small k.small);
    sort = refl;
  }

  pub and_word : (e f : Exp) (x y : ℕ) → IsWord e x → IsWord f y → IsWord (Bin bin.And e f) (bit_and x y)
  and_word e f x y h k = record { value = rw (h.sort, word_is e x h, word_is f y k) refl; small = and_lt 64 x y h.small k.small; sort = rw h.sort refl }

  pub or_word : (e f : Exp) (x y : ℕ) → IsWord e x → IsWord f y → IsWord (Bin bin.Or e f) (bit_or x y)
  or_word e f x y h k = record { value = rw (h.sort, word_is e x h, word_is f y k) refl; small = or_lt 64 x y h.small k.small; sort = rw h.sort refl }

  pub xor_word : (e f : Exp) (x y : ℕ) → IsWord e x → IsWord f y → IsWord (xor_of e f) (bit_xor x y)
  xor_word e f x y h k = record { value = rw (h.sort, word_is e x h, word_is f y k) refl; small = xor_lt 64 x y h.small k.small; sort = rw h.sort refl }

  pub not_word : (e : Exp) (x : ℕ) → IsWord e x → IsWord (Un un.Not e) (T - 1 - x)
  not_word e x h = record { value = rw (h.sort, word_is e x h) refl; small = omega (arith, h.small); sort = rw h.sort refl }

  pub number : (e : Exp) (x : ℕ) → IsWord e x → IsWhole (int_of e) (pos x)
  number e x h = record { value = ap (λ n. Whole (pos n)) (word_is e x h); sort = refl }

  pub whole_sum : (e f : Exp) (x y : ℕ) → IsWhole e (pos x) → IsWhole f (pos y) → IsWhole (sum e f) (pos (x + y))
  whole_sum e f x y h k = record { value = rw (h.sort, h.value, k.value) refl; sort = rw h.sort refl }

  -- a whole number as a word
  pub as_word : (e : Exp) (x : ℕ) → IsWhole e (pos x) → x < T → IsWord (Un un.Word e) (x % T)
  as_word e x h lt = record { value = rw h.value refl; small = mod_below x T (omega arith); sort = refl }

  pub reached : (bound : ℕ) (e : Exp) (x : ℕ) → IsWhole e (pos x) → IsTruth (Bin bin.Le (Int (pos bound)) e) (nat_le bound x)
  reached bound e x h = record { value = rw h.value refl }

  pub below : (e f : Exp) (x y : ℕ) → IsWhole e (pos x) → IsWhole f (pos y) → IsTruth (Bin bin.Lt e f) (nat_lt x y)
  below e f x y h k = record { value = rw (h.value, k.value) refl }

  pub equal : (e f : Exp) (x y : ℕ) → IsWord e x → IsWord f y → IsTruth (Bin bin.Eq e f) (x == y)
  equal e f x y h k = record { value = rw (h.value, k.value) refl }

  one_flag : (b : Bool) → flag_from (whole (cond b (Whole (pos 1)) (Whole (pos 0)))) ≡ flag_if b
  one_flag true = refl
  one_flag false = refl

  zero_flag : (b : Bool) → flag_from (whole (cond b (Whole (pos 0)) (Whole (pos 1)))) ≡ flag_if (not b)
  zero_flag true = refl
  zero_flag false = refl

  pub flag_where : (e : Exp) (b : Bool) → IsTruth e b → IsFlag (one_if e) (flag_if b)
  flag_where e b h = record { value = ap (λ v. flag_from (whole (cond (truth v) (Whole (pos 1)) (Whole (pos 0))))) h.value ∙ one_flag b }

  pub flag_unless : (e : Exp) (b : Bool) → IsTruth e b → IsFlag (one_unless e) (flag_if (not b))
  flag_unless e b h = record { value = ap (λ v. flag_from (whole (cond (truth v) (Whole (pos 0)) (Whole (pos 1))))) h.value ∙ zero_flag b }

  -- whether a flag is 1
  pub set_is : (f : FlagName) (v : FlagValue) → before (Flag f) ≡ Whole (pos (flag_number_of v)) → IsTruth (is_set f) (is_one v)
  set_is f Zero h = record { value = rw h refl }
  set_is f One h = record { value = rw h refl }
  set_is f Undefined h = record { value = rw h refl }

  one_or_zero : (b : Bool) → cond b (Whole (pos 1)) (Whole (pos 0)) ≡ Whole (pos (bit b))
  one_or_zero true = refl
  one_or_zero false = refl

  -- a flag as a number
  pub flag_number : (f : FlagName) (v : FlagValue) → before (Flag f) ≡ Whole (pos (flag_number_of v)) → IsWhole (flag_in f) (pos (bit (is_one v)))
  flag_number f v h = record { value = ap (λ w. cond (truth w) (Whole (pos 1)) (Whole (pos 0))) (set_is f v h).value ∙ one_or_zero (is_one v); sort = refl }
