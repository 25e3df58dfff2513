-- Functions of sources evaluate to what they mean.
use Rattle.std.proofs.Common.{◌≡◌, ℕ, zero, suc, ◌+◌, ◌-◌, ℤ, pos, ◌+ℤ◌, Bool, true, false, List, [], ◌∷◌, ◌++◌, length, set, refl, sym, ap, ◌∙◌, subst, arith, Option, None, Some, Ok, Err, append-nil, append_assoc, length-append}
use Rattle.std.specs.Prelude.{◌&&◌, ◌||◌, ◌==◌, not, is_none, is_some, slice_get, if◌then◌else◌}
use Rattle.std.specs.List.{list_all, list_any}
use Rattle.std.specs.Str.{bytes_eq}
use Rattle.std.proofs.lemmas.Bool.{and_parts, false≢true, eqb-true, eq-eqb}
use Rattle.x64_syntax.specs.Words.{built_in_of}
use Rattle.x64_syntax.specs.declared.type_words.Sort.{Sort}
use Rattle.x64_syntax.specs.declared.type_words.Sort.TheVariants as sort
use Rattle.term_core.specs.declared.functions.BrokenRule.{BrokenRule}
use Rattle.term_core.specs.declared.functions.Variable.{Variable}
use Rattle.term_core.specs.declared.literal.Entry.{Entry}
use Rattle.term_core.specs.Terms.{Tm, tm_sort}
use Rattle.term_core.specs.Value.{Val, Whole, cast, Functions, Assignment, assigned, count, value}
use Rattle.term_core.specs.Functions.{Function}
use Rattle.term_core.specs.Sorted.{well_sorted, is_sorted, is_of_sort}
use Rattle.term_core.specs.Rules.{prev, rules, first_broken, broken_rule, all_obey, holds_of, is_param, is_in_body, free_all, has_name, names_differ, last_is_number}
use Rattle.term_core.specs.Meaning.{arguments, with_last, at_most_0, last_number, turns, fun_value, with_function, meaning_from, meaning}
use Rattle.term_core.specs.Literals.{Known, entry_value}
use Rattle.term_core.proofs.Values.{IsOf, value-sorted}
use Rattle.term_core.proofs.Comparing.{sort_eq_is}
use Rattle.term_subst.proofs.Meanings.{Obeys}
use Rattle.term_value.specs.declared.fault.ValueFault.TheVariants.{Unbound}
use Rattle.term_value.specs.Agreement.{Agrees}
use Rattle.term_value.specs.Evaluation.{Outcome, Got, Stopped, give, knowing, known_arguments, Evaluations, evaluate, evaluate_zero, evaluate_turn, evaluate_turns, evaluate_fun, evaluating, evaluations_from, evaluations, node_limit, result_of, evaluated}
use Rattle.term_value.proofs.Inverting.{after_got, give_got}
use Rattle.term_value.proofs.Worth.{AreOf, Sound, Agreeing, agrees_more, agrees_arguments, evaluate_worth}

all_hold : (rs : List (Bool × BrokenRule)) → is_none (first_broken rs) ≡ true → list_all (λ r. r.0) rs ≡ true
all_hold [] h = refl
all_hold ((true, r) ∷ rs) h = all_hold rs h
all_hold ((false, r) ∷ rs) h = absurd (false≢true h)

obeys : (earlier : List Function) (f : Function) → is_none (broken_rule earlier f) ≡ true → Obeys earlier f
obeys earlier f h =
    let all = all_hold (rules earlier f) h in
    let named = (and_parts (not (list_any (λ g. bytes_eq g.name f.name) earlier)) _ (and_parts (is_none (built_in_of f.name)) _ all).1).1 in
    let behind4 = (and_parts (not (list_any (has_name prev) f.params)) _ (and_parts (names_differ f.params) _ named).1).1 in
    let last = and_parts (is_none f.zero_part || last_is_number f.params) _ behind4 in
    let sorts = and_parts (holds_of (is_sorted earlier f.result) f.zero_part && is_sorted earlier f.result f.body) _ last.1 in
    let free = and_parts (holds_of (free_all (is_param f)) f.zero_part && free_all (is_in_body f f.zero_part) f.body) true sorts.1 in
    let sorted = and_parts (holds_of (is_sorted earlier f.result) f.zero_part) (is_sorted earlier f.result f.body) sorts.0 in
    let bound = and_parts (holds_of (free_all (is_param f)) f.zero_part) (free_all (is_in_body f f.zero_part) f.body) free.0 in
    record { last = last.0; zero_sorted = sorted.0; body_sorted = sorted.1; zero_free = bound.0; body_free = bound.1 }

-- another number among arguments
set_are : (ps : List Variable) (vs : List Val) (k : ℕ) (n : ℤ) → AreOf ps vs → is_of_sort sort.Int (slice_get ps k) ≡ true → AreOf ps (set vs k (Whole n))
set_are [] [] k n h i = absurd (false≢true i)
set_are [] (v ∷ vs) k n h i = absurd h
set_are (p ∷ ps) [] k n h i = absurd h
set_are (p ∷ ps) (v ∷ vs) zero n h i = (ap (λ s. cast s (Whole n)) (sort_eq_is p.sort sort.Int i), h.1)
set_are (p ∷ ps) (v ∷ vs) (suc k) n h i = (h.0, set_are ps vs k n h.1 i)

same_length : (ps : List Variable) (vs : List Val) → AreOf ps vs → length ps ≡ length vs
same_length [] [] h = refl
same_length [] (v ∷ vs) h = absurd h
same_length (p ∷ ps) [] h = absurd h
same_length (p ∷ ps) (v ∷ vs) h = ap suc (same_length ps vs h.1)

last_are : (ps : List Variable) (vs : List Val) (n : ℤ) → AreOf ps vs → last_is_number ps ≡ true → AreOf ps (with_last vs n)
last_are ps vs n h i = set_are ps vs (length vs - 1) n h (ap (λ k. is_of_sort sort.Int (slice_get ps (k - 1))) (sym (same_length ps vs h)) ∙ i)

-- a part of a function
part_worth : (earlier : List Function) (m : Functions) (c : Evaluations) → Sound earlier m c → (p : List ℕ → Sort → Bool) (k : Known) (a : Assignment) → Agreeing p k a → (r : Sort) (t : Tm) → is_sorted earlier r t ≡ true → free_all p t ≡ true → (left : ℕ) (v : Val) (rest : ℕ) → evaluate c k t left ≡ Got v rest → (v ≡ value m a t) × IsOf r v
part_worth earlier m c o p k a g r t sorted free left v rest h =
    let s = and_parts (well_sorted earlier t) _ sorted in
    let e = evaluate_worth earlier m c o p k a g t s.0 free left v rest h in
    let of = sort_eq_is (tm_sort t) r s.1 in
    (e, ap (cast r) e ∙ ap (λ x. cast x (value m a t)) (sym of) ∙ value-sorted m a t ∙ sym e)

turns_worth : (earlier : List Function) (m : Functions) (c : Evaluations) → Sound earlier m c → (f : Function) (z : Tm) (vs : List Val) → AreOf f.params vs → last_is_number f.params ≡ true → is_sorted earlier f.result f.body ≡ true → free_all (is_in_body f (Some z)) f.body ≡ true → (more j : ℕ) (n : ℤ) (v : Val) → n ≡ pos (suc j) → v ≡ turns m f z vs j → IsOf f.result v → (left : ℕ) (w : Val) (rest : ℕ) → evaluate_turns c f vs more n v left ≡ Got w rest → (total : ℕ) → total ≡ j + more → (w ≡ turns m f z vs total) × IsOf f.result w
turns_worth earlier m c o f z vs are last sorted free zero j n v number worth of left w rest h total e =
    let same = give_got v w left rest h in
    let here : j ≡ total = omega (arith, e) in
    (same ∙ worth ∙ ap (turns m f z vs) here, ap (cast f.result) same ∙ of ∙ sym same)
turns_worth earlier m c o f z vs are last sorted free (suc more) j n v number worth of left w rest h total e =
    let q = after_got {A = Val} {B = Val} (evaluate_turn c f vs n v) (evaluate_turns c f vs more (n +ℤ pos 1)) left w rest h in
    let params = agrees_arguments (is_param f) f.params (with_last vs n) (last_are f.params vs n are last) in
    let known = agrees_more (is_param f) (is_in_body f (Some z)) (known_arguments f.params (with_last vs n)) (arguments f.params (with_last vs n)) prev f.result v (λ text s d k. ap (λ b. b || is_param f text s) (sym d) ∙ k) of params in
    let b = part_worth earlier m c o (is_in_body f (Some z)) (knowing prev f.result v (known_arguments f.params (with_last vs n))) (assigned prev f.result v (arguments f.params (with_last vs n))) known f.result f.body sorted free left q.x q.mid q.first_gave in
    let x_is : q.x ≡ turns m f z vs (suc j) =
    b.0
    ∙ ap (λ y. value m (assigned prev f.result y (arguments f.params (with_last vs n))) f.body) worth
    ∙ ap (λ y. value m (assigned prev f.result (turns m f z vs j) (arguments f.params (with_last vs y))) f.body) number in
    let one : suc j + 1 ≡ suc (suc j) = omega arith in
    let next : n +ℤ pos 1 ≡ pos (suc (suc j)) = ap (λ y. y +ℤ pos 1) number ∙ ap pos one in
    let left_over : total ≡ suc j + more = omega (arith, e) in
    turns_worth earlier m c o f z vs are last sorted free more (suc j) (n +ℤ pos 1) q.x next x_is b.1 q.mid w rest q.next_gave total left_over

fun_worth : (earlier : List Function) (m : Functions) (c : Evaluations) → Sound earlier m c → (f : Function) → Obeys earlier f → (part : Option Tm) → f.zero_part ≡ part → (vs : List Val) → AreOf f.params vs → (left : ℕ) (v : Val) (rest : ℕ) → evaluate_fun c f part vs left ≡ Got v rest → (v ≡ fun_value m f part vs) × IsOf f.result v
fun_worth earlier m c o f b None e vs are left v rest h =
    let free = subst (λ x. free_all (is_in_body f x) f.body ≡ true) e b.body_free in
    part_worth earlier m c o (is_in_body f None) (known_arguments f.params vs) (arguments f.params vs) (agrees_arguments (is_in_body f None) f.params vs are) f.result f.body b.body_sorted free left v rest h
fun_worth earlier m c o f b (Some z) e vs are left v rest h =
    let free = subst (λ x. free_all (is_in_body f x) f.body ≡ true) e b.body_free in
    let last = subst (λ x. (is_none x || last_is_number f.params) ≡ true) e b.last in
    let zero_sorted = subst (λ x. holds_of (is_sorted earlier f.result) x ≡ true) e b.zero_sorted in
    let zero_free = subst (λ x. holds_of (free_all (is_param f)) x ≡ true) e b.zero_free in
    let n = at_most_0 (last_number vs) in
    let count_is = count (last_number vs) in
    let q = after_got {A = Val} {B = Val} (evaluate_zero c f z vs) (evaluate_turns c f vs count_is (pos 1)) left v rest h in
    let params = agrees_arguments (is_param f) f.params (with_last vs n) (last_are f.params vs n are last) in
    let zero_worth = part_worth earlier m c o (is_param f) (known_arguments f.params (with_last vs n)) (arguments f.params (with_last vs n)) params f.result z zero_sorted zero_free left q.x q.mid q.first_gave in
    let total : count_is ≡ 0 + count_is = omega arith in
    turns_worth earlier m c o f z vs are last b.body_sorted free count_is 0 (pos 1) q.x refl zero_worth.0 zero_worth.1 q.mid v rest q.next_gave count_is total

at_end : (earlier : List Function) (f : Function) (j : ℕ) (g : Function) → j ≡ length earlier → slice_get (earlier ++ f ∷ []) j ≡ Some g → f ≡ g
at_end [] f zero g e at = cc
at_end [] f (suc j) g e at = absurd (omega (arith, e))
at_end (h ∷ hs) f zero g e at = absurd (omega (arith, e))
at_end (h ∷ hs) f (suc j) g e at = at_end hs f j g (omega (arith, e)) at

before_end : (earlier : List Function) (f : Function) (j : ℕ) (g : Function) → (j ≡ length earlier → ⊥) → slice_get (earlier ++ f ∷ []) j ≡ Some g → slice_get earlier j ≡ Some g
before_end [] f zero g differs at = absurd (differs refl)
before_end [] f (suc j) g differs at = at
before_end (h ∷ hs) f zero g differs at = at
before_end (h ∷ hs) f (suc j) g differs at = before_end hs f j g (λ e. differs (ap suc e)) at

-- one more function
sound_more : (earlier : List Function) (m : Functions) (c : Evaluations) (k : ℕ) (f : Function) → k ≡ length earlier → Sound earlier m c → Obeys earlier f → Sound (earlier ++ f ∷ []) (with_function m k f) (evaluating c k f)
sound_more earlier m c k f number o b = record { worth = λ j g vs left v rest at are h. by_test j g vs left v rest (j == k) refl at are h }
  where
    by_test : (j : ℕ) (g : Function) (vs : List Val) (left : ℕ) (v : Val) (rest : ℕ) (test : Bool) → (j == k) ≡ test → slice_get (earlier ++ f ∷ []) j ≡ Some g → AreOf g.params vs → (if test then evaluate_fun c f f.zero_part vs else c j vs) left ≡ Got v rest → (v ≡ (if test then fun_value m f f.zero_part vs else m j vs)) × IsOf g.result v
    by_test j g vs left v rest true e at are h =
        let same = at_end earlier f j g (eqb-true j k e ∙ number) at in
        let got = fun_worth earlier m c o f b f.zero_part refl vs (subst (λ x. AreOf x.params vs) (sym same) are) left v rest h in
        (got.0, subst (λ x. IsOf x.result v) same got.1)
    by_test j g vs left v rest false e at are h =
        o.worth j g vs left v rest (before_end earlier f j g (λ q. false≢true (sym e ∙ eq-eqb j k (q ∙ sym number))) at) are h

sound_from : (earlier fs : List Function) (m : Functions) (c : Evaluations) (k : ℕ) → k ≡ length earlier → Sound earlier m c → all_obey earlier fs ≡ true → Sound (earlier ++ fs) (meaning_from m k fs) (evaluations_from c k fs)
sound_from earlier [] m c k number o h = subst (λ l. Sound l m c) (sym (append-nil earlier)) o
sound_from earlier (f ∷ fs) m c k number o h =
    let q = and_parts (is_none (broken_rule earlier f)) _ h in
    let one = sound_more earlier m c k f number o (obeys earlier f q.0) in
    let long = length-append earlier (f ∷ []) in
    let next : suc k ≡ length (earlier ++ f ∷ []) = omega (arith, number, long) in
    subst (λ l. Sound l (meaning_from (with_function m k f) (suc k) fs) (evaluations_from (evaluating c k f) (suc k) fs)) (append_assoc earlier (f ∷ []) fs)
    (sound_from (earlier ++ f ∷ []) fs (with_function m k f) (evaluating c k f) (suc k) next one q.1)

sound : (fs : List Function) → all_obey [] fs ≡ true → Sound fs (meaning fs) (evaluations fs)
sound fs h = sound_from [] fs (λ k vs. Whole (pos 0)) (λ k vs. give (Whole (pos 0))) 0 refl none h
  where
    none : Sound [] (λ k vs. Whole (pos 0)) (λ k vs. give (Whole (pos 0)))
    none = record { worth = λ k f vs left v rest at are h. absurd (let differs : None ≡ Some f → ⊥ = λ q. cc in differs at) }

result_got : (o : Outcome Val) (v : Val) → result_of o ≡ Ok v → (rest : ℕ) × (o ≡ Got v rest)
result_got (Got w left) v h = let same : w ≡ v = cc in (left, ap (λ x. Got x left) same)
result_got (Stopped fault) v h = absurd (let differs : Err fault ≡ Ok v → ⊥ = λ q. cc in differs h)

pub evaluation_worth : (fs : List Function) (es : List Entry) (a : Assignment) (p : List ℕ → Sort → Bool) (t : Tm) (v : Val) → all_obey [] fs ≡ true → well_sorted fs t ≡ true → free_all p t ≡ true → Agrees p (entry_value es) a → evaluated fs es t ≡ Ok v → v ≡ value (meaning fs) a t
evaluation_worth fs es a p t v rules_hold sorted free agrees h = by_test (free_all (λ text s. is_some (entry_value es text s)) t) h
  where
    by_test : (test : Bool) → (if test then result_of (evaluate (evaluations fs) (entry_value es) t node_limit) else Err Unbound) ≡ Ok v → v ≡ value (meaning fs) a t
    by_test true k =
        let got = result_got (evaluate (evaluations fs) (entry_value es) t node_limit) v k in
        evaluate_worth fs (meaning fs) (evaluations fs) (sound fs rules_hold) p (entry_value es) a (record { agrees = agrees }) t sorted free node_limit v got.0 got.1
    by_test false k = absurd (let differs : Err Unbound ≡ Ok v → ⊥ = λ q. cc in differs k)
