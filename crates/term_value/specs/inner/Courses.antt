-- Courses as the code runs them, and the names that it knows.
use Rattle.std.specs.Prelude.{◌≡◌, ℕ, ◌%◌, ℤ, pos, negsuc, [], map, Option, Some, None, Result, Ok, Err, if◌then◌else◌}
use Rattle.x64_syntax.specs.declared.type_words.Sort.TheVariants as sort
use Rattle.term_core.specs.declared.literal.Literal.{Literal}
use Rattle.term_core.specs.Terms.{Tm, Name, Int, W64, W128, Un, Bin, Ite, Put, PutDword, Clmul, Shift, Call, All}
use Rattle.term_core.specs.Terms as tm
use Rattle.term_core.specs.Value.{T, T128, Val, Whole, Truth, Word, Wide, whole, truth, un_value, bin_value, counted_value, put_value, put_dword_value, clmul_value}
use Rattle.term_core.specs.Literals.{literal_value, val_sort, Known, entry_value}
use Rattle.term_value.specs.declared.fault.ValueFault.{ValueFault}
use Rattle.term_value.specs.declared.fault.ValueFault.TheVariants.{Unbound, Long, TooWide, NoMemory}
use Rattle.term_value.specs.declared.known.KnownNames.{KnownNames}
use Rattle.term_value.specs.declared.known.KnownNames.TheOpen.{KnownNames-F}
use Rattle.term_value.specs.declared.known.KnownNames.TheFolds.{fold-KnownNames}
use Rattle.term_value.specs.Evaluation.{Outcome, Got, Stopped, Course, give, given, after, two, checked, known_value, between, Evaluations, evaluate, evaluate_all, knowing, known_arguments}

-- the value of a literal, or why there is none
abbrev pub values_of : Result Literal ValueFault → Result Val ValueFault
values_of (Ok x) = Ok (literal_value x)
values_of (Err fault) = Err fault

abbrev pub two_values : Literal × Literal → Val × Val
two_values p = (literal_value p.0, literal_value p.1)

abbrev pub three_values : (Literal × Literal) × Literal → (Val × Val) × Val
three_values p = (two_values p.0, literal_value p.1)

-- what the names that the code knows are worth
abbrev pub known_layer : KnownNames-F Known → Known
known_layer (KnownNames-F.Entries es) = entry_value es.now
known_layer (KnownNames-F.Arguments ps vs) = known_arguments ps.now (map literal_value vs.now)
known_layer (KnownNames-F.Number name z outer) = knowing name.now sort.Int (Whole z) outer.now
known_layer (KnownNames-F.Value name s v outer) = knowing name.now s (literal_value v.now) outer.now

abbrev pub known_of : KnownNames → Known
known_of = fold-KnownNames Known known_layer

-- why a course stops
abbrev pub StopsBy : {A : Type 0} → Outcome A → ValueFault → Type 0
StopsBy outcome Unbound = outcome ≡ Stopped Unbound
StopsBy outcome Long = outcome ≡ Stopped Long
StopsBy outcome TooWide = outcome ≡ Stopped TooWide
StopsBy outcome NoMemory = Unit {0}

-- what was answered, seen by view, with so many nodes left, is what the course comes to
abbrev pub ComesTo : {A B : Type 0} → (B → A) → Outcome A → Result B ValueFault → ℕ → Type 0
ComesTo view outcome (Ok x) left = outcome ≡ Got (view x) left
ComesTo view outcome (Err fault) left = StopsBy outcome fault

-- two or three from left to right
unfoldable pub pair : {A B : Type 0} → Course A → Course B → Course (A × B)
pair first second = two first second (λ v w. give (v, w))

unfoldable pub triple : {A B C : Type 0} → Course A → Course B → Course C → Course ((A × B) × C)
triple first second third = two (pair first second) third (λ p w. give (p, w))

-- what is done once a node is entered
abbrev pub opened : Evaluations → Known → Tm → Course Val
opened c k (Name text s) = given (known_value (k text s))
opened c k (Int z) = give (Whole z)
opened c k (W64 n) = give (Word (n % T))
opened c k (W128 n) = give (Wide (n % T128))
opened c k (tm.TruthTerm b) = give (Truth b)
opened c k (Un op t) = after (evaluate c k t) (λ v. given (checked (un_value op (val_sort v) v)))
opened c k (Bin op t u) = after (pair (evaluate c k t) (evaluate c k u)) (λ p. given (checked (bin_value op (val_sort p.0) p.0 p.1)))
opened c k (Ite b t u) = after (triple (evaluate c k b) (evaluate c k t) (evaluate c k u)) (λ p. give (if truth p.0.0 then p.0.1 else p.1))
opened c k (Put x i w) = after (triple (evaluate c k x) (evaluate c k i) (evaluate c k w)) (λ p. give (put_value p.0.0 p.0.1 p.1))
opened c k (PutDword x j w) = after (triple (evaluate c k x) (evaluate c k j) (evaluate c k w)) (λ p. give (put_dword_value p.0.0 p.0.1 p.1))
opened c k (Clmul t u n) = after (pair (evaluate c k t) (evaluate c k u)) (λ p. give (clmul_value p.0 p.1 n))
opened c k (Shift op n t) = after (evaluate c k t) (λ v. give (counted_value op n v))
opened c k (Call f s args) = after (evaluate_all c k [] args) (c f)
opened c k (All text low high body) =
    after (pair (evaluate c k low) (evaluate c k high)) (λ p. between (λ z. evaluate c (knowing text sort.Int (Whole z) k) body) (whole p.0) (whole p.1))

-- the number where it isn't negative
abbrev pub natural : ℤ → Option ℕ
natural (pos n) = Some n
natural (negsuc n) = None
