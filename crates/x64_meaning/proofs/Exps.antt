-- An expression is worth what its term is worth.
use Rattle.std.proofs.Common.{◌≡◌, ℕ, true, List, refl, ap, arith, mod-eq_of_lt, ◌&&◌}
use Rattle.std.proofs.lemmas.Nat.{mod_below}
use Rattle.std.proofs.lemmas.Bool.{and_parts}
use Rattle.x64_syntax.specs.declared.places.MachinePlace.{MachinePlace}
use Rattle.x64_syntax.specs.declared.type_words.Sort.TheVariants as sort
use Rattle.aes_words.specs.Rounds.{clmul}
use Rattle.term_core.specs.Terms.{Tm, tm_sort}
use Rattle.term_core.specs.Operators.{un_sort, bin_sort, counted_sort}
use Rattle.term_core.specs.Value.{T, Val, Word, Wide, wide, truth, un_value, shift_value, counted_value, Functions, Assignment, value}
use Rattle.x64_meaning.specs.State.{place_sort}
use Rattle.x64_meaning.specs.Exp.{Exp, Before, After, Loaded, Int, W64, Un, Bin, Ite, Clmul, Shift, exp_sort, exp_value, exp_term, among, knows}
use Rattle.term_core.proofs.Values.{IsOf, cast_twice, un_value-sorted, bin_value-sorted, choice-sorted}

module _ (before after : MachinePlace → Tm) (loaded : ℕ → Tm) (sb : (p : MachinePlace) → tm_sort (before p) ≡ place_sort p) (sa : (p : MachinePlace) → tm_sort (after p) ≡ place_sort p) (sl : (k : ℕ) → tm_sort (loaded k) ≡ sort.W64) where
  -- the term has the sort of the expression
  exp_term-sort : (e : Exp) → tm_sort (exp_term before after loaded e) ≡ exp_sort e
  exp_term-sort (Before p) = sb p
  exp_term-sort (After p) = sa p
  exp_term-sort (Loaded k) = sl k
  exp_term-sort (Int z) = refl
  exp_term-sort (W64 n) = refl
  exp_term-sort (Un op e) = ap (un_sort op) (exp_term-sort e)
  exp_term-sort (Bin op e f) = ap (bin_sort op) (exp_term-sort e)
  exp_term-sort (Ite c e f) = exp_term-sort e
  exp_term-sort (Clmul e f n) = refl
  exp_term-sort (Shift op n e) = refl

  module _ (g : Functions) (a : Assignment) where
    -- the term's value is the expression's, over the values of the places' terms
    pub exp_term-value : (e : Exp) → value g a (exp_term before after loaded e) ≡ exp_value (λ p. value g a (before p)) (λ p. value g a (after p)) (λ k. value g a (loaded k)) e
    exp_term-value (Before p) = refl
    exp_term-value (After p) = refl
    exp_term-value (Loaded k) = refl
    exp_term-value (Int z) = refl
    exp_term-value (W64 n) = refl
    exp_term-value (Un op e) = rw (exp_term-sort e, exp_term-value e) refl
    exp_term-value (Bin op e f) = rw (exp_term-sort e, exp_term-value e, exp_term-value f) refl
    exp_term-value (Ite c e f) = rw (exp_term-sort e, exp_term-value c, exp_term-value e, exp_term-value f) refl
    exp_term-value (Clmul e f n) = rw (exp_term-value e, exp_term-value f) refl
    exp_term-value (Shift op n e) = ap (counted_value op n) (exp_term-value e)

-- equal values of the places that an expression takes give it equal values
pub exp_value-same : (b1 b2 a1 a2 : MachinePlace → Val) (m : ℕ → Val) (known : List MachinePlace) → ((p : MachinePlace) → b1 p ≡ b2 p) → ((p : MachinePlace) → among known p ≡ true → a1 p ≡ a2 p) → (e : Exp) → knows known e ≡ true → exp_value b1 a1 m e ≡ exp_value b2 a2 m e
exp_value-same b1 b2 a1 a2 m known sb sa (Before p) k = sb p
exp_value-same b1 b2 a1 a2 m known sb sa (After p) k = sa p k
exp_value-same b1 b2 a1 a2 m known sb sa (Loaded k) h = refl
exp_value-same b1 b2 a1 a2 m known sb sa (Int z) k = refl
exp_value-same b1 b2 a1 a2 m known sb sa (W64 n) k = refl
exp_value-same b1 b2 a1 a2 m known sb sa (Un op e) k = ap (un_value op (exp_sort e)) (exp_value-same b1 b2 a1 a2 m known sb sa e k)
exp_value-same b1 b2 a1 a2 m known sb sa (Bin op e f) k =
    let both = and_parts (knows known e) (knows known f) k in
    rw (exp_value-same b1 b2 a1 a2 m known sb sa e both.0, exp_value-same b1 b2 a1 a2 m known sb sa f both.1) refl
exp_value-same b1 b2 a1 a2 m known sb sa (Ite c e f) k =
    let first = and_parts (knows known c) (knows known e && knows known f) k in
    let rest = and_parts (knows known e) (knows known f) first.1 in
    rw (exp_value-same b1 b2 a1 a2 m known sb sa c first.0, exp_value-same b1 b2 a1 a2 m known sb sa e rest.0, exp_value-same b1 b2 a1 a2 m known sb sa f rest.1) refl
exp_value-same b1 b2 a1 a2 m known sb sa (Clmul e f n) k =
    let both = and_parts (knows known e) (knows known f) k in
    rw (exp_value-same b1 b2 a1 a2 m known sb sa e both.0, exp_value-same b1 b2 a1 a2 m known sb sa f both.1) refl
exp_value-same b1 b2 a1 a2 m known sb sa (Shift op n e) k = ap (counted_value op n) (exp_value-same b1 b2 a1 a2 m known sb sa e k)

-- the same where all places agree
pub exp_value-all : (b1 b2 a1 a2 : MachinePlace → Val) (m : ℕ → Val) → ((p : MachinePlace) → b1 p ≡ b2 p) → ((p : MachinePlace) → a1 p ≡ a2 p) → (e : Exp) → exp_value b1 a1 m e ≡ exp_value b2 a2 m e
exp_value-all b1 b2 a1 a2 m sb sa (Before p) = sb p
exp_value-all b1 b2 a1 a2 m sb sa (After p) = sa p
exp_value-all b1 b2 a1 a2 m sb sa (Loaded k) = refl
exp_value-all b1 b2 a1 a2 m sb sa (Int z) = refl
exp_value-all b1 b2 a1 a2 m sb sa (W64 n) = refl
exp_value-all b1 b2 a1 a2 m sb sa (Un op e) = ap (un_value op (exp_sort e)) (exp_value-all b1 b2 a1 a2 m sb sa e)
exp_value-all b1 b2 a1 a2 m sb sa (Bin op e f) = rw (exp_value-all b1 b2 a1 a2 m sb sa e, exp_value-all b1 b2 a1 a2 m sb sa f) refl
exp_value-all b1 b2 a1 a2 m sb sa (Ite c e f) = rw (exp_value-all b1 b2 a1 a2 m sb sa c, exp_value-all b1 b2 a1 a2 m sb sa e, exp_value-all b1 b2 a1 a2 m sb sa f) refl
exp_value-all b1 b2 a1 a2 m sb sa (Clmul e f n) = rw (exp_value-all b1 b2 a1 a2 m sb sa e, exp_value-all b1 b2 a1 a2 m sb sa f) refl
exp_value-all b1 b2 a1 a2 m sb sa (Shift op n e) = ap (counted_value op n) (exp_value-all b1 b2 a1 a2 m sb sa e)

-- an expression's value is one of its sort
pub exp_value-sorted : (b a : MachinePlace → Val) (m : ℕ → Val) → ((p : MachinePlace) → IsOf (place_sort p) (b p)) → ((p : MachinePlace) → IsOf (place_sort p) (a p)) → ((k : ℕ) → IsOf sort.W64 (m k)) → (e : Exp) → IsOf (exp_sort e) (exp_value b a m e)
exp_value-sorted b a m sb sa sm (Before p) = sb p
exp_value-sorted b a m sb sa sm (After p) = sa p
exp_value-sorted b a m sb sa sm (Loaded k) = sm k
exp_value-sorted b a m sb sa sm (Int z) = refl
exp_value-sorted b a m sb sa sm (W64 n) = ap Word (mod-eq_of_lt (mod_below n T (omega arith)))
exp_value-sorted b a m sb sa sm (Un op e) = un_value-sorted op (exp_sort e) (exp_value b a m e)
exp_value-sorted b a m sb sa sm (Bin op e f) = bin_value-sorted op (exp_sort e) (exp_value b a m e) (exp_value b a m f)
exp_value-sorted b a m sb sa sm (Ite c e f) = choice-sorted (exp_sort e) (truth (exp_value b a m c)) (exp_value b a m e) (exp_value b a m f) (exp_value-sorted b a m sb sa sm e)
exp_value-sorted b a m sb sa sm (Clmul e f n) = cast_twice sort.W128 (Wide (clmul (wide (exp_value b a m e)) (wide (exp_value b a m f)) n))
exp_value-sorted b a m sb sa sm (Shift op n e) = cast_twice (counted_sort op) (shift_value op n (exp_value b a m e))
