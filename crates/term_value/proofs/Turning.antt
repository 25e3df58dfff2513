-- The turns of recursive functions, and the names that they know.
use Rattle.std.proofs.Common.{◌≡◌, ℕ, zero, suc, ◌-◌, ℤ, pos, ◌+ℤ◌, ◌-ℤ◌, ◌<ℤ◌, List, [], ◌∷◌, length, map, set, refl, sym, ap, ◌∙◌, subst, Bor}
use Rattle.x64_syntax.specs.declared.type_words.Sort.{Sort}
use Rattle.term_core.specs.declared.literal.Literal.{Literal}
use Rattle.term_core.specs.declared.functions.Variable.{Variable}
use Rattle.term_core.specs.Value.{Val, Whole, count}
use Rattle.term_core.specs.Functions.{Function}
use Rattle.term_core.specs.Rules.{prev}
use Rattle.term_core.specs.Meaning.{with_last}
use Rattle.term_core.specs.Literals.{literal_value, Known}
use Rattle.term_value.specs.declared.fault.ValueFault.{ValueFault}
use Rattle.term_value.specs.declared.known.KnownNames.{KnownNames, KnownNames-F, fold-roll-KnownNames}
use Rattle.term_value.specs.declared.known.KnownNames.TheVariants as known
use Rattle.term_value.specs.Evaluation.{Outcome, Got, Stopped, Course, next_of, Evaluations, evaluate, knowing, known_arguments, evaluate_turn, evaluate_turns}
use Rattle.term_value.specs.inner.Courses.{known_layer, known_of, StopsBy}
use Rattle.term_value.proofs.Coursing.{count_more, stops}

set_twice : (vs : List Val) (k : ℕ) (x y : Val) → set (set vs k x) k y ≡ set vs k y
set_twice [] k x y = refl
set_twice (v ∷ vs) zero x y = refl
set_twice (v ∷ vs) (suc k) x y = ap (λ l. v ∷ l) (set_twice vs k x y)

set_length : (vs : List Val) (k : ℕ) (x : Val) → length (set vs k x) ≡ length vs
set_length [] k x = refl
set_length (v ∷ vs) zero x = refl
set_length (v ∷ vs) (suc k) x = ap suc (set_length vs k x)

-- of two numbers that are put last the second one stays
pub last_twice : (vs : List Val) (n m : ℤ) → with_last (with_last vs n) m ≡ with_last vs m
last_twice vs n m =
    ap (λ k. set (with_last vs n) (k - 1) (Whole m)) (set_length vs (length vs - 1) (Whole n)) ∙ set_twice vs (length vs - 1) (Whole n) (Whole m)

-- a turn sees no other last argument than its own
pub turn_moved : (c : Evaluations) (f : Function) (vs ws : List Val) (n : ℤ) (v : Val) (left : ℕ) → with_last vs n ≡ with_last ws n → evaluate_turn c f vs n v left ≡ evaluate_turn c f ws n v left
turn_moved c f vs ws n v left h = ap (λ l. evaluate c (knowing prev f.result v (known_arguments f.params l)) f.body left) h

next_alike : {A B : Type 0} (o : Outcome A) (f g : A → Course B) → ((x : A) (left : ℕ) → f x left ≡ g x left) → next_of o f ≡ next_of o g
next_alike (Got x left) f g h = h x left
next_alike (Stopped fault) f g h = refl

pub turns_moved : (c : Evaluations) (f : Function) (vs ws : List Val) → ((m : ℤ) → with_last vs m ≡ with_last ws m) → (k : ℕ) (n : ℤ) (v : Val) (left : ℕ) → evaluate_turns c f vs k n v left ≡ evaluate_turns c f ws k n v left
turns_moved c f vs ws h zero n v left = refl
turns_moved c f vs ws h (suc k) n v left =
    ap (λ o. next_of o (evaluate_turns c f vs k (n +ℤ pos 1))) (turn_moved c f vs ws n v left (h n))
    ∙ next_alike (evaluate_turn c f ws n v left) (evaluate_turns c f vs k (n +ℤ pos 1)) (evaluate_turns c f ws k (n +ℤ pos 1)) (λ x rest. turns_moved c f vs ws h k (n +ℤ pos 1) x rest)

-- one more turn
pub turn_more : (c : Evaluations) (f : Function) (vs : List Val) (last n : ℤ) (v w : Val) (a b : ℕ) → n <ℤ last → evaluate_turn c f vs (n +ℤ pos 1) v a ≡ Got w b → evaluate_turns c f vs (count (last -ℤ (n +ℤ pos 1))) ((n +ℤ pos 1) +ℤ pos 1) w b ≡ evaluate_turns c f vs (count (last -ℤ n)) (n +ℤ pos 1) v a
turn_more c f vs last n v w a b lt e =
    let rest = count (last -ℤ (n +ℤ pos 1)) in
    sym (ap (λ k. evaluate_turns c f vs k (n +ℤ pos 1) v a) (count_more last n lt) ∙ ap (λ o. next_of o (evaluate_turns c f vs rest ((n +ℤ pos 1) +ℤ pos 1))) e)

pub turn_stops : (c : Evaluations) (f : Function) (vs : List Val) (last n : ℤ) (v : Val) (a : ℕ) (fault : ValueFault) → n <ℤ last → StopsBy (evaluate_turn c f vs (n +ℤ pos 1) v a) fault → StopsBy (evaluate_turns c f vs (count (last -ℤ n)) (n +ℤ pos 1) v a) fault
turn_stops c f vs last n v a fault lt h =
    let rest = count (last -ℤ (n +ℤ pos 1)) in
    subst (λ k. StopsBy (evaluate_turns c f vs k (n +ℤ pos 1) v a) fault) (sym (count_more last n lt)) (stops (evaluate_turn c f vs (n +ℤ pos 1) v a) (evaluate_turns c f vs rest ((n +ℤ pos 1) +ℤ pos 1)) fault h)

-- what the code knows
pub known_params : (ps : Bor (List Variable)) (vs : Bor (List Literal)) (params : List Variable) (ws : List Val) → ps.now ≡ params → map literal_value vs.now ≡ ws → known_of (known.Arguments ps vs) ≡ known_arguments params ws
known_params ps vs params ws e h =
    ap known_of (sym (known.rolls-Arguments ps vs))
    ∙ fold-roll-KnownNames Known known_layer (KnownNames-F.Arguments ps vs)
    ∙ ap (λ l. known_arguments l (map literal_value vs.now)) e
    ∙ ap (known_arguments params) h

pub known_more : (name : Bor (List ℕ)) (s : Sort) (v : Bor Literal) (outer : Bor KnownNames) (k : Known) → name.now ≡ prev → known_of outer.now ≡ k → known_of (known.Value name s v outer) ≡ knowing prev s (literal_value v.now) k
known_more name s v outer k e h =
    ap known_of (sym (known.rolls-Value name s v outer))
    ∙ fold-roll-KnownNames Known known_layer _
    ∙ ap (λ n. knowing n s (literal_value v.now) (known_of outer.now)) e
    ∙ ap (knowing prev s (literal_value v.now)) h
