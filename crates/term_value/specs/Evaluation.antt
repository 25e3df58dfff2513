-- What a term evaluates to with the values of some names, within limits: so many nodes may be entered, and whole numbers
-- have 128 bits.
use Rattle.std.specs.Prelude.{ℕ, zero, suc, ◌%◌, ◌^◌, ℤ, pos, negsuc, ◌+ℤ◌, ◌-ℤ◌, List, [], ◌∷◌, ◌++◌, Bool, true, ◌&&◌, ◌==◌, nat_lt, Option, Some, None, is_some, Result, Ok, Err, if◌then◌else◌}
use Rattle.std.specs.Str.{bytes_eq}
use Rattle.x64_syntax.specs.declared.type_words.Sort.{Sort}
use Rattle.x64_syntax.specs.declared.type_words.Sort.TheVariants as sort
use Rattle.term_core.specs.declared.functions.Variable.{Variable}
use Rattle.term_core.specs.declared.literal.Entry.{Entry}
use Rattle.term_core.specs.Operators.{sort_eq}
use Rattle.term_core.specs.Terms.{Tm, Tms, Name, Int, W64, W128, Un, Bin, Ite, Put, PutDword, Clmul, Shift, Call, All, no_tms, more_tms}
use Rattle.term_core.specs.Terms as tm
use Rattle.term_core.specs.Value.{T, T128, Val, Whole, Truth, Word, Wide, whole, truth, un_value, bin_value, counted_value, put_value, put_dword_value, clmul_value, count}
use Rattle.term_core.specs.Functions.{Function}
use Rattle.term_core.specs.Rules.{free_all, prev}
use Rattle.term_core.specs.Meaning.{last_number, with_last, at_most_0}
use Rattle.term_core.specs.Literals.{val_sort, Known, entry_value}
use Rattle.term_value.specs.declared.fault.ValueFault.{ValueFault}
use Rattle.term_value.specs.declared.fault.ValueFault.TheVariants.{Unbound, Long, TooWide}

-- how many nodes may be entered
abbrev pub node_limit : ℕ
node_limit = 1000000

-- one more value
abbrev pub knowing : List ℕ → Sort → Val → Known → Known
knowing name s v known text t = if bytes_eq name text && sort_eq s t then Some v else known text t

-- each parameter has the value of its argument
abbrev pub known_arguments : List Variable → List Val → Known
known_arguments (p ∷ ps) (v ∷ vs) = knowing p.name p.sort v (known_arguments ps vs)
known_arguments _ _ = λ text s. None

-- a result and how many more nodes may be entered, or why there is none
pub data Outcome (A : Type 0) : Type 0 where
  Got : A → ℕ → Outcome A
  Stopped : ValueFault → Outcome A

-- what is done with so many nodes left
abbrev pub Course : Type 0 → Type 0
Course A = ℕ → Outcome A

abbrev pub next_of : {A B : Type 0} → Outcome A → (A → Course B) → Outcome B
next_of (Got x left) next = next x left
next_of (Stopped fault) next = Stopped fault

-- the one, then what follows from its result
abbrev pub after : {A B : Type 0} → Course A → (A → Course B) → Course B
after first next left = next_of (first left) next

-- two or three from left to right, then what follows from their results
abbrev pub two : {A B C : Type 0} → Course A → Course B → (A → B → Course C) → Course C
two first second next = after first (λ x. after second (next x))

abbrev pub three : {A B C D : Type 0} → Course A → Course B → Course C → (A → B → C → Course D) → Course D
three first second third next = after first (λ x. two second third (next x))

-- a result for which no node is entered
abbrev pub give : {A : Type 0} → A → Course A
give x left = Got x left

-- a result, or why there is none, for which no node is entered
abbrev pub given : {A : Type 0} → Result A ValueFault → Course A
given (Ok x) left = Got x left
given (Err fault) left = Stopped fault

-- a node is entered
abbrev pub entering : {A : Type 0} → Course A → Course A
entering inside zero = Stopped Long
entering inside (suc left) = inside left

abbrev pub has_128_bits : ℤ → Bool
has_128_bits (pos n) = nat_lt n (2 ^ 127)
has_128_bits (negsuc n) = nat_lt n (2 ^ 127)

-- a whole number of more than 128 bits is no value
abbrev pub checked : Val → Result Val ValueFault
checked (Whole z) = if has_128_bits z then Ok (Whole z) else Err TooWide
checked v = Ok v

abbrev pub known_value : Option Val → Result Val ValueFault
known_value None = Err Unbound
known_value (Some v) = Ok v

-- so many instances of a formula from a number on, and whether all of them and those before are true
abbrev pub instances : (ℤ → Course Val) → ℕ → ℤ → Bool → Course Val
instances p zero z so_far = give (Truth so_far)
instances p (suc n) z so_far = after (p z) (λ v. instances p n (z +ℤ pos 1) (so_far && truth v))

-- the instances between two bounds, the upper one left out
abbrev pub between : (ℤ → Course Val) → ℤ → ℤ → Course Val
between p low high = instances p (count (high -ℤ low)) low true

-- what functions evaluate to, by their numbers and arguments
abbrev pub Evaluations : Type 0
Evaluations = ℕ → List Val → Course Val

abbrev mutual
  -- all parts are evaluated, from left to right
  pub evaluate : Evaluations → Known → Tm → Course Val
  evaluate c k (Name text s) = entering (given (known_value (k text s)))
  evaluate c k (Int z) = entering (give (Whole z))
  evaluate c k (W64 n) = entering (give (Word (n % T)))
  evaluate c k (W128 n) = entering (give (Wide (n % T128)))
  evaluate c k (tm.TruthTerm b) = entering (give (Truth b))
  evaluate c k (Un op t) = entering (after (evaluate c k t) (λ v. given (checked (un_value op (val_sort v) v))))
  evaluate c k (Bin op t u) =
      entering (two (evaluate c k t) (evaluate c k u) (λ v w. given (checked (bin_value op (val_sort v) v w))))
  evaluate c k (Ite b t u) =
      entering (three (evaluate c k b) (evaluate c k t) (evaluate c k u) (λ x v w. give (if truth x then v else w)))
  evaluate c k (Put x i w) =
      entering (three (evaluate c k x) (evaluate c k i) (evaluate c k w) (λ v z n. give (put_value v z n)))
  evaluate c k (PutDword x j w) =
      entering (three (evaluate c k x) (evaluate c k j) (evaluate c k w) (λ v z n. give (put_dword_value v z n)))
  evaluate c k (Clmul t u n) = entering (two (evaluate c k t) (evaluate c k u) (λ v w. give (clmul_value v w n)))
  evaluate c k (Shift op n t) = entering (after (evaluate c k t) (λ v. give (counted_value op n v)))
  evaluate c k (Call f s args) = entering (after (evaluate_all c k [] args) (c f))
  evaluate c k (All text low high body) =
      entering (two (evaluate c k low) (evaluate c k high) (λ v w. between (λ z. evaluate c (knowing text sort.Int (Whole z) k) body) (whole v) (whole w)))

  -- the values so far, and behind them those of the terms
  pub evaluate_all : Evaluations → Known → List Val → Tms → Course (List Val)
  evaluate_all c k vs no_tms = give vs
  evaluate_all c k vs (more_tms t ts) = after (evaluate c k t) (λ v. evaluate_all c k (vs ++ v ∷ []) ts)

-- the zero part, with the last argument at the lesser of it and 0
abbrev pub evaluate_zero : Evaluations → Function → Tm → List Val → Course Val
evaluate_zero c f z vs = evaluate c (known_arguments f.params (with_last vs (at_most_0 (last_number vs)))) z

-- the body with a number as the last argument, where `prev` has the value of the turn before
abbrev pub evaluate_turn : Evaluations → Function → List Val → ℤ → Val → Course Val
evaluate_turn c f vs n v = evaluate c (knowing prev f.result v (known_arguments f.params (with_last vs n))) f.body

-- so many turns, the first of them with that number
abbrev pub evaluate_turns : Evaluations → Function → List Val → ℕ → ℤ → Val → Course Val
evaluate_turns c f vs zero n v = give v
evaluate_turns c f vs (suc more) n v = after (evaluate_turn c f vs n v) (evaluate_turns c f vs more (n +ℤ pos 1))

-- A function that isn't recursive is its body. Of a recursive one the zero part is evaluated once, and then the body for
-- 1, 2 and so on up to the last argument.
abbrev pub evaluate_fun : Evaluations → Function → Option Tm → List Val → Course Val
evaluate_fun c f None vs = evaluate c (known_arguments f.params vs) f.body
evaluate_fun c f (Some z) vs = after (evaluate_zero c f z vs) (evaluate_turns c f vs (count (last_number vs)) (pos 1))

-- one more function, with the next number
abbrev pub evaluating : Evaluations → ℕ → Function → Evaluations
evaluating c k f j vs = if j == k then evaluate_fun c f f.zero_part vs else c j vs

abbrev pub evaluations_from : Evaluations → ℕ → List Function → Evaluations
evaluations_from c k [] = c
evaluations_from c k (f ∷ fs) = evaluations_from (evaluating c k f) (suc k) fs

-- the functions of a list, each over the earlier ones; what isn't one of them gives 0
abbrev pub evaluations : List Function → Evaluations
evaluations fs = evaluations_from (λ k vs. give (Whole (pos 0))) 0 fs

abbrev pub result_of : Outcome Val → Result Val ValueFault
result_of (Got v left) = Ok v
result_of (Stopped fault) = Err fault

-- Unbound where a free name has no entry; else what evaluation comes to
abbrev pub evaluated : List Function → List Entry → Tm → Result Val ValueFault
evaluated fs es t =
    if free_all (λ text s. is_some (entry_value es text s)) t
    then result_of (evaluate (evaluations fs) (entry_value es) t node_limit)
    else Err Unbound
