-- Courses one after another.
use Rattle.std.proofs.Common.{◌≡◌, ℕ, suc, ◌-◌, ℤ, pos, negsuc, ◌+ℤ◌, ◌-ℤ◌, ◌<ℤ◌, Bool, ◌&&◌, refl, sym, ap, ◌∙◌, subst, arith, Result}
use Rattle.std.proofs.lemmas.Int.{ints}
use borrow.Author.Differences.{up, down}
use Rattle.term_core.specs.Terms.{Tm, Name, Int, W64, W128, TruthTerm, Un, Bin, Ite, Put, PutDword, Clmul, Shift, Call, All}
use Rattle.term_core.specs.Value.{Val, truth, count}
use Rattle.term_core.specs.Literals.{Known}
use Rattle.term_value.specs.declared.fault.ValueFault.{ValueFault}
use Rattle.term_value.specs.declared.fault.ValueFault.TheVariants.{Unbound, Long, TooWide, NoMemory}
use Rattle.term_value.specs.Evaluation.{Outcome, Got, Stopped, Course, next_of, after, two, three, give, instances, Evaluations, evaluate}
use Rattle.term_value.specs.inner.Courses.{StopsBy, ComesTo, pair, triple, opened}

pub moved : {A B : Type 0} (view : B → A) (o p : Outcome A) (r : Result B ValueFault) (left : ℕ) → o ≡ p → ComesTo view p r left → ComesTo view o r left
moved view o p r left e h = subst (λ q. ComesTo view q r left) (sym e) h

-- what stops a course stops what would follow
pub stops : {A B : Type 0} (o : Outcome A) (next : A → Course B) (fault : ValueFault) → StopsBy o fault → StopsBy (next_of o next) fault
stops o next Unbound h = ap (λ p. next_of p next) h
stops o next Long h = ap (λ p. next_of p next) h
stops o next TooWide h = ap (λ p. next_of p next) h
stops o next NoMemory h = tt {0}

pub stops_as : {A : Type 0} (o p : Outcome A) (fault : ValueFault) → o ≡ p → StopsBy o fault → StopsBy p fault
stops_as o p fault e h = subst (λ q. StopsBy q fault) e h

two_as : {A B C : Type 0} (first : Course A) (second : Course B) (next : A → B → Course C) (n : ℕ) → two first second next n ≡ after (pair first second) (λ p. next p.0 p.1) n
unfolding pair
two_as {A} {B} {C} first second next n = by_first (first n)
  where
    by_second : (x : A) (o : Outcome B) → next_of o (next x) ≡ next_of {A = A × B} (next_of o (λ y. give (x, y))) (λ p. next p.0 p.1)
    by_second x (Got y m) = refl
    by_second x (Stopped fault) = refl

    by_first : (o : Outcome A) → next_of o (λ x. after second (next x)) ≡ next_of {A = A × B} (next_of o (λ x. after second (λ y. give (x, y)))) (λ p. next p.0 p.1)
    by_first (Got x m) = by_second x (second m)
    by_first (Stopped fault) = refl

three_as : {A B C D : Type 0} (first : Course A) (second : Course B) (third : Course C) (next : A → B → C → Course D) (n : ℕ) → three first second third next n ≡ after (triple first second third) (λ p. next p.0.0 p.0.1 p.1) n
unfolding pair triple
three_as {A} {B} {C} {D} first second third next n = by_first (first n)
  where
    by_third : (x : A) (y : B) (o : Outcome C) → next_of o (next x y) ≡ next_of {A = (A × B) × C} (next_of o (λ z. give ((x, y), z))) (λ p. next p.0.0 p.0.1 p.1)
    by_third x y (Got z m) = refl
    by_third x y (Stopped fault) = refl

    by_second : (x : A) (o : Outcome B) → next_of o (λ y. after third (next x y)) ≡ next_of {A = (A × B) × C} (next_of {A = A × B} (next_of o (λ y. give (x, y))) (λ p. after third (λ z. give (p, z)))) (λ p. next p.0.0 p.0.1 p.1)
    by_second x (Got y m) = by_third x y (third m)
    by_second x (Stopped fault) = refl

    by_first : (o : Outcome A) → next_of o (λ x. two second third (next x)) ≡ next_of {A = (A × B) × C} (next_of {A = A × B} (next_of o (λ x. after second (λ y. give (x, y)))) (λ p. after third (λ z. give (p, z)))) (λ p. next p.0.0 p.0.1 p.1)
    by_first (Got x m) = by_second x (second m)
    by_first (Stopped fault) = refl

-- a term that is entered is opened
entered : (c : Evaluations) (k : Known) (t : Tm) (n : ℕ) → evaluate c k t (suc n) ≡ opened c k t n
entered c k (Name text s) n = refl
entered c k (Int z) n = refl
entered c k (W64 m) n = refl
entered c k (W128 m) n = refl
entered c k (TruthTerm b) n = refl
entered c k (Un op t) n = refl
entered c k (Bin op t u) n = two_as (evaluate c k t) (evaluate c k u) _ n
entered c k (Ite b t u) n = three_as (evaluate c k b) (evaluate c k t) (evaluate c k u) _ n
entered c k (Put x i w) n = three_as (evaluate c k x) (evaluate c k i) (evaluate c k w) _ n
entered c k (PutDword x j w) n = three_as (evaluate c k x) (evaluate c k j) (evaluate c k w) _ n
entered c k (Clmul t u m) n = two_as (evaluate c k t) (evaluate c k u) _ n
entered c k (Shift op m t) n = refl
entered c k (Call f s args) n = refl
entered c k (All text low high body) n = two_as (evaluate c k low) (evaluate c k high) _ n

pub entered_with : (c : Evaluations) (k : Known) (t : Tm) (n m : ℕ) → n ≡ suc m → evaluate c k t n ≡ opened c k t m
entered_with c k t n m e = ap (evaluate c k t) e ∙ entered c k t m

count_is : (z : ℤ) → count z ≡ up z - down z
count_is (pos n) = omega arith
count_is (negsuc n) = omega arith

-- how many numbers there are from z on
pub count_more : (high z : ℤ) → z <ℤ high → count (high -ℤ z) ≡ suc (count (high -ℤ (z +ℤ pos 1)))
count_more high z lt = omega (arith, ints, count_is (high -ℤ z), count_is (high -ℤ (z +ℤ pos 1)))

pub count_all : (high : ℤ) → count (high -ℤ pos 0) ≡ count high
count_all high = omega (arith, ints, count_is (high -ℤ pos 0), count_is high)

-- one more instance
pub instance_more : (p : ℤ → Course Val) (high z : ℤ) (all : Bool) (v : Val) (n m : ℕ) → z <ℤ high → p z n ≡ Got v m → instances p (count (high -ℤ (z +ℤ pos 1))) (z +ℤ pos 1) (all && truth v) m ≡ instances p (count (high -ℤ z)) z all n
instance_more p high z all v n m lt e =
    let rest = count (high -ℤ (z +ℤ pos 1)) in
    sym (ap (λ k. instances p k z all n) (count_more high z lt) ∙ ap (λ o. next_of o (λ w. instances p rest (z +ℤ pos 1) (all && truth w))) e)

pub instance_stops : (p : ℤ → Course Val) (high z : ℤ) (all : Bool) (n : ℕ) (fault : ValueFault) → z <ℤ high → StopsBy (p z n) fault → StopsBy (instances p (count (high -ℤ z)) z all n) fault
instance_stops p high z all n fault lt h =
    let rest = count (high -ℤ (z +ℤ pos 1)) in
    subst (λ k. StopsBy (instances p k z all n) fault) (sym (count_more high z lt)) (stops (p z n) (λ w. instances p rest (z +ℤ pos 1) (all && truth w)) fault h)
