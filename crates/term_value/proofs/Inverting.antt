-- What gave a result.
use Rattle.std.proofs.Common.{◌≡◌, ℕ, zero, suc, Bool, true, false, refl, sym, ap, Option, None, Some, Ok, Err}
use Rattle.std.specs.Prelude.{if◌then◌else◌}
use Rattle.term_core.specs.Value.{Val, Whole, Truth, Word, Wide, Array}
use Rattle.term_value.specs.declared.fault.ValueFault.{ValueFault}
use Rattle.term_value.specs.declared.fault.ValueFault.TheVariants.{TooWide}
use Rattle.term_value.specs.Evaluation.{Outcome, Got, Stopped, Course, next_of, after, two, three, given, entering, checked, has_128_bits, known_value}

stopped_got : {A : Type 0} {P : Type 0} (fault : ValueFault) (y : A) (rest : ℕ) → Stopped fault ≡ Got y rest → P
stopped_got fault y rest h = absurd (let differs : Stopped fault ≡ Got y rest → ⊥ = λ q. cc in differs h)

-- a node was left
pub record Entered (A : Type 0) (inside : Course A) (left : ℕ) (y : A) (rest : ℕ) : Type 0 where
  pub n : ℕ
  pub gave : inside n ≡ Got y rest

pub entering_got : {A : Type 0} (inside : Course A) (left : ℕ) (y : A) (rest : ℕ) → entering inside left ≡ Got y rest → Entered A inside left y rest
entering_got inside zero y rest h = stopped_got _ y rest h
entering_got inside (suc n) y rest h = record { n = n; gave = h }

-- what was first, and what followed
pub record Followed (A B : Type 0) (first : Course A) (next : A → Course B) (n : ℕ) (y : B) (rest : ℕ) : Type 0 where
  pub x : A
  pub mid : ℕ
  pub first_gave : first n ≡ Got x mid
  pub next_gave : next x mid ≡ Got y rest

pub after_got : {A B : Type 0} (first : Course A) (next : A → Course B) (n : ℕ) (y : B) (rest : ℕ) → after first next n ≡ Got y rest → Followed A B first next n y rest
after_got {A} {B} first next n y rest h = split (first n) refl h
  where
    split : (o : Outcome A) → first n ≡ o → next_of o next ≡ Got y rest → Followed A B first next n y rest
    split (Got x mid) e k = record { x = x; mid = mid; first_gave = e; next_gave = k }
    split (Stopped fault) e k = stopped_got fault y rest k

pub record FollowedTwo (A B C : Type 0) (first : Course A) (second : Course B) (next : A → B → Course C) (n : ℕ) (z : C) (rest : ℕ) : Type 0 where
  pub x : A
  pub y : B
  pub mid : ℕ
  pub last : ℕ
  pub first_gave : first n ≡ Got x mid
  pub second_gave : second mid ≡ Got y last
  pub next_gave : next x y last ≡ Got z rest

pub two_got : {A B C : Type 0} (first : Course A) (second : Course B) (next : A → B → Course C) (n : ℕ) (z : C) (rest : ℕ) → two first second next n ≡ Got z rest → FollowedTwo A B C first second next n z rest
two_got first second next n z rest h =
    let p = after_got first (λ x. after second (next x)) n z rest h in
    let q = after_got second (next p.x) p.mid z rest p.next_gave in
    record { x = p.x; y = q.x; mid = p.mid; last = q.mid; first_gave = p.first_gave; second_gave = q.first_gave; next_gave = q.next_gave }

got_value : {A : Type 0} (x y : A) (n rest : ℕ) → Got x n ≡ Got y rest → y ≡ x
got_value x y n rest h = cc

pub give_got : {A : Type 0} (x y : A) (n rest : ℕ) → Got x n ≡ Got y rest → y ≡ x
give_got x y n rest h = got_value x y n rest h

pub known_got : (o : Option Val) (v : Val) (n rest : ℕ) → given (known_value o) n ≡ Got v rest → o ≡ Some v
known_got None v n rest h = stopped_got _ v rest h
known_got (Some w) v n rest h = ap Some (sym (give_got w v n rest h))

pub checked_got : (v w : Val) (n rest : ℕ) → given (checked v) n ≡ Got w rest → w ≡ v
checked_got (Whole z) w n rest h = by_test (has_128_bits z) h
  where
    by_test : (b : Bool) → given (if b then Ok (Whole z) else Err TooWide) n ≡ Got w rest → w ≡ Whole z
    by_test true k = give_got (Whole z) w n rest k
    by_test false k = stopped_got _ w rest k
checked_got (Truth b) w n rest h = give_got (Truth b) w n rest h
checked_got (Word m) w n rest h = give_got (Word m) w n rest h
checked_got (Wide m) w n rest h = give_got (Wide m) w n rest h
checked_got (Array ws) w n rest h = give_got (Array ws) w n rest h

pub record FollowedThree (A B C D : Type 0) (first : Course A) (second : Course B) (third : Course C) (next : A → B → C → Course D) (n : ℕ) (u : D) (rest : ℕ) : Type 0 where
  pub x : A
  pub y : B
  pub z : C
  pub mid : ℕ
  pub later : ℕ
  pub last : ℕ
  pub first_gave : first n ≡ Got x mid
  pub second_gave : second mid ≡ Got y later
  pub third_gave : third later ≡ Got z last
  pub next_gave : next x y z last ≡ Got u rest

pub three_got : {A B C D : Type 0} (first : Course A) (second : Course B) (third : Course C) (next : A → B → C → Course D) (n : ℕ) (u : D) (rest : ℕ) → three first second third next n ≡ Got u rest → FollowedThree A B C D first second third next n u rest
three_got first second third next n u rest h =
    let p = after_got first (λ x. two second third (next x)) n u rest h in
    let q = two_got second third (next p.x) p.mid u rest p.next_gave in
    record { x = p.x; y = q.x; z = q.y; mid = p.mid; later = q.mid; last = q.last; first_gave = p.first_gave; second_gave = q.first_gave; third_gave = q.second_gave; next_gave = q.next_gave }
