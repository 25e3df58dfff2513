-- A source operand stands for the word that it gives: the equations over the one are those over the other.
use Rattle.std.proofs.Common.{◌≡◌, ℕ, zero, suc, ◌%◌, ◌<◌, List, [], ◌∷◌, map, Option, Some, None, refl, sym, ap, ◌∙◌, subst, mod-eq_of_lt}
use Rattle.std.specs.Prelude.{Result, Ok, Err}
use Rattle.x64_syntax.specs.declared.places.MachinePlace.{MachinePlace}
use Rattle.x64_syntax.specs.declared.places.MachinePlace.TheVariants.{Reg}
use Rattle.x64_syntax.specs.declared.operands.Opr.{Opr}
use Rattle.x64_syntax.specs.declared.operands.Opr.TheVariants.{R, Imm, M}
use Rattle.x64_syntax.specs.declared.instructions.Ins.{Ins}
use Rattle.x64_syntax.specs.Instructions.{source_memory}
use Rattle.x64_syntax.specs.declared.type_words.Sort.TheVariants as sort
use Rattle.term_core.specs.Operators.{un_sort, bin_sort}
use Rattle.term_core.specs.Value.{T, Val, Word, word_of, counted_value}
use Rattle.x64_meaning.specs.declared.machine.Obs.{Obs}
use Rattle.x64_meaning.specs.declared.machine.Fault.{Fault}
use Rattle.x64_meaning.specs.State.{State, read, write, load}
use Rattle.x64_meaning.specs.Exp.{Exp, Before, After, Loaded, Int, W64, Un, Bin, Ite, Clmul, Shift, exp_sort, exp_value, no_words}
use Rattle.x64_meaning.specs.Table.{Equation, source, equations, load_size, apply}
use Rattle.x64_meaning.specs.Run.{access, operand_access, after_stack, word_in, with_access, with_loaded, address}
use Rattle.x64_meaning.specs.inner.Steps.{Acts, load_result, source_word}
use Rattle.x64_meaning.proofs.Numbers.{word_of-lt}

-- the expression with another in place of the first word that is loaded
abbrev pub filled : Exp → Exp → Exp
filled x (Before p) = Before p
filled x (After p) = After p
filled x (Loaded zero) = x
filled x (Loaded (suc k)) = Loaded (suc k)
filled x (Int z) = Int z
filled x (W64 n) = W64 n
filled x (Un op e) = Un op (filled x e)
filled x (Bin op e f) = Bin op (filled x e) (filled x f)
filled x (Ite c e f) = Ite (filled x c) (filled x e) (filled x f)
filled x (Clmul e f n) = Clmul (filled x e) (filled x f) n
filled x (Shift op n e) = Shift op n (filled x e)

abbrev pub fill : Exp → Equation → Equation
fill x e = record { place = e.place; right = filled x e.right }

-- the words with another first one
abbrev pub first_is : Val → (ℕ → Val) → ℕ → Val
first_is v m zero = v
first_is v m (suc k) = m (suc k)

module _ (x : Exp) (is_word : exp_sort x ≡ sort.W64) where
  filled-sort : (e : Exp) → exp_sort (filled x e) ≡ exp_sort e
  filled-sort (Before p) = refl
  filled-sort (After p) = refl
  filled-sort (Loaded zero) = is_word
  filled-sort (Loaded (suc k)) = refl
  filled-sort (Int z) = refl
  filled-sort (W64 n) = refl
  filled-sort (Un op e) = ap (un_sort op) (filled-sort e)
  filled-sort (Bin op e f) = ap (bin_sort op) (filled-sort e)
  filled-sort (Ite c e f) = filled-sort e
  filled-sort (Clmul e f n) = refl
  filled-sort (Shift op n e) = refl

  module _ (b a : MachinePlace → Val) (m : ℕ → Val) (v : Val) (worth : exp_value b a m x ≡ v) where
    filled-value : (e : Exp) → exp_value b a m (filled x e) ≡ exp_value b a (first_is v m) e
    filled-value (Before p) = refl
    filled-value (After p) = refl
    filled-value (Loaded zero) = worth
    filled-value (Loaded (suc k)) = refl
    filled-value (Int z) = refl
    filled-value (W64 n) = refl
    filled-value (Un op e) = rw (filled-sort e, filled-value e) refl
    filled-value (Bin op e f) = rw (filled-sort e, filled-value e, filled-value f) refl
    filled-value (Ite c e f) = rw (filled-sort e, filled-value c, filled-value e, filled-value f) refl
    filled-value (Clmul e f n) = rw (filled-value e, filled-value f) refl
    filled-value (Shift op n e) = ap (counted_value op n) (filled-value e)

  -- the equations leave the same
  filled-apply : (s : State) (m : ℕ → Val) (v : Val) → ((now : State) → exp_value (read s) (read now) m x ≡ v) → (es : List Equation) (now : State) → apply s m (map (fill x) es) now ≡ apply s (first_is v m) es now
  filled-apply s m v worth [] now = refl
  filled-apply s m v worth (e ∷ es) now =
      let same = filled-value (read s) (read now) m v (worth now) e.right in
      ap (λ w. apply s m (map (fill x) es) (write now e.place w)) same
      ∙ filled-apply s m v worth es (write now e.place (exp_value (read s) (read now) (first_is v m) e.right))

-- what holds of an instruction with a source operand
pub record HasSource (i : Ins) (o : Opr) (es : List Equation) : Type 0 where
  pub accesses : (s : State) → access s i ≡ operand_access s i (source_memory o) None
  pub stays : (s : State) → after_stack i s ≡ s
  pub size : load_size i ≡ 8
  pub equations_are : equations i ≡ map (fill (source o)) es

pub ok_is : {m n : ℕ} {o q : Option Obs} → ◌≡◌ {A = Result (ℕ × Option Obs) Fault} (Ok (m, o)) (Ok (n, q)) → (m ≡ n) × (o ≡ q)
ok_is {m = m} {o = o} e = (ap (λ r. (part r).0) e, ap (λ r. (part r).1) e) where
  part : Result (ℕ × Option Obs) Fault → ℕ × Option Obs
  part (Ok x) = x
  part (Err f) = (m, o)

pub err_is : {f g : Fault} → ◌≡◌ {A = Result (ℕ × Option Obs) Fault} (Err f) (Err g) → f ≡ g
err_is {f = f} e = ap part e where
  part : Result (ℕ × Option Obs) Fault → Fault
  part (Ok x) = f
  part (Err g) = g

-- an instruction that takes its source's word does what it does with that word
pub with_source : (s : State) (i : Ins) (o : Opr) (es : List Equation) (F : ℕ → State) → HasSource i o es → ((m : ℕ → Val) (b : ℕ) → b < T → m 0 ≡ Word b → apply s m es s ≡ F b) → (b : ℕ) (seen : Option Obs) → b < T → source_word s o ≡ Ok (b, seen) → Acts (with_access s i (access s i)) s (F b) (Ok seen)
with_source s i (R r) es F has leaves b seen lt from =
    let p = ok_is from in
    let v = read s (Reg r) in
    let state = has.stays (apply s no_words (equations i) s) ∙ ap (λ e. apply s no_words e s) has.equations_are ∙ filled-apply (source (R r)) refl s no_words v (λ now. refl) es s ∙ leaves (first_is v no_words) b lt (ap Word p.0) in
    subst (λ x. Acts (with_access s i x) s (F b) (Ok seen)) (sym (has.accesses s)) (ap Ok (sym p.1), sym state)
with_source s i (Imm z) es F has leaves b seen lt from =
    let p = ok_is from in
    let v = Word (word_of z) in
    let worth : (now : State) → exp_value (read s) (read now) no_words (source (Imm z)) ≡ v = λ now. ap Word (mod-eq_of_lt (word_of-lt z)) in
    let state = has.stays (apply s no_words (equations i) s) ∙ ap (λ e. apply s no_words e s) has.equations_are ∙ filled-apply (source (Imm z)) refl s no_words v worth es s ∙ leaves (first_is v no_words) b lt (ap Word p.0) in
    subst (λ x. Acts (with_access s i x) s (F b) (Ok seen)) (sym (has.accesses s)) (ap Ok (sym p.1), sym state)
with_source s i (M x) es F has leaves b seen lt from =
    let a = address s x in
    subst (λ y. Acts (with_access s i y) s (F b) (Ok seen)) (sym (has.accesses s))
    (subst (λ n. Acts (with_loaded s i a n (load s a n)) s (F b) (Ok seen)) (sym has.size) (by_load (load s a 8) from))
  where
    by_load : (l : Option ℕ) → load_result (address s x) 8 l ≡ Ok (b, seen) → Acts (with_loaded s i (address s x) 8 l) s (F b) (Ok seen)
    by_load None h = absurd cc
    by_load (Some n) h =
        let p = ok_is h in
        let v = Word (n % T) in
        let same : v ≡ Word b = ap (λ k. Word (k % T)) p.0 ∙ ap Word (mod-eq_of_lt lt) in
        let state = has.stays (apply s (word_in n) (equations i) s) ∙ ap (λ e. apply s (word_in n) e s) has.equations_are ∙ filled-apply (source (M x)) refl s (word_in n) v (λ now. refl) es s ∙ leaves (first_is v (word_in n)) b lt same in
        (ap Ok (sym p.1), sym state)

-- what can't be loaded is a fault
pub not_loaded : (s : State) (i : Ins) (a size : ℕ) (f : Fault) (l : Option ℕ) → load_result a size l ≡ Err f → Acts (with_loaded s i a size l) s s (Err f)
not_loaded s i a size f None h = (sym (ap Err (err_is h)), refl)
not_loaded s i a size f (Some n) h = absurd cc

-- and faults where its source can't be read
pub faults_alone : (s : State) (i : Ins) (o : Opr) → ((s : State) → access s i ≡ operand_access s i (source_memory o) None) → load_size i ≡ 8 → (f : Fault) → source_word s o ≡ Err f → Acts (with_access s i (access s i)) s s (Err f)
faults_alone s i (R r) accesses size f from = absurd cc
faults_alone s i (Imm z) accesses size f from = absurd cc
faults_alone s i (M x) accesses size f from =
    let a = address s x in
    subst (λ y. Acts (with_access s i y) s s (Err f)) (sym (accesses s))
    (subst (λ n. Acts (with_loaded s i a n (load s a n)) s s (Err f)) (sym size) (not_loaded s i a 8 f (load s a 8) from))
