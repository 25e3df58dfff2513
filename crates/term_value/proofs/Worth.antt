-- What a term evaluates to is what it is worth.
use Rattle.std.proofs.Common.{◌≡◌, ℕ, zero, suc, ◌%◌, ℤ, pos, ◌+ℤ◌, ◌-ℤ◌, Bool, true, false, List, [], ◌∷◌, ◌++◌, map, refl, sym, ap, ◌∙◌, subst, Option, None, Some, append-nil, append_assoc}
use Rattle.std.specs.Prelude.{◌&&◌, ◌||◌, slice_get, if◌then◌else◌}
use Rattle.std.specs.Str.{bytes_eq}
use Rattle.std.proofs.lemmas.Bool.{and_parts, false≢true}
use Rattle.x64_syntax.specs.declared.type_words.Sort.{Sort}
use Rattle.x64_syntax.specs.declared.type_words.Sort.TheVariants as sort
use Rattle.term_core.specs.declared.operator.UnOp.{UnOp}
use Rattle.term_core.specs.declared.operator.BinOp.{BinOp}
use Rattle.term_core.specs.declared.operator.CountedOp.{CountedOp}
use Rattle.term_core.specs.declared.functions.Variable.{Variable}
use Rattle.term_core.specs.Operators.{sort_eq, un_takes, bin_takes, counted_takes, both_are}
use Rattle.term_core.specs.Terms.{Tm, Tms, Name, Int, W64, W128, TruthTerm, Un, Bin, Ite, Put, PutDword, Clmul, Shift, Call, All, no_tms, more_tms, tm_sort}
use Rattle.term_core.specs.Value.{T, T128, Val, Whole, Truth, Word, Wide, whole, truth, cast, un_value, bin_value, counted_value, put_value, put_dword_value, clmul_value, Functions, Assignment, assigned, bound, all_of, all_between, count, value, values}
use Rattle.term_core.specs.Functions.{Function}
use Rattle.term_core.specs.Sorted.{well_sorted, all_well_sorted, fun_takes, tms_sorts, sorts_eq, put_takes, ite_takes, all_takes}
use Rattle.term_core.specs.Rules.{is_bound, free_all, all_free_all}
use Rattle.term_core.specs.Meaning.{arguments}
use Rattle.term_core.specs.Literals.{val_sort, Known}
use Rattle.term_core.proofs.Values.{IsOf, value-sorted}
use Rattle.term_core.proofs.Comparing.{sort_eq_is}
use Rattle.term_subst.proofs.Agreeing.{ap2, ap3}
use Rattle.term_value.specs.Agreement.{Agrees}
use Rattle.term_value.specs.Evaluation.{Got, Course, after, two, three, give, given, checked, known_value, instances, between, knowing, known_arguments, Evaluations, evaluate, evaluate_all}
use Rattle.term_value.proofs.Inverting.{entering_got, after_got, two_got, three_got, give_got, known_got, checked_got}

cast_sort : (s : Sort) (v : Val) → val_sort (cast s v) ≡ s
cast_sort sort.Int v = refl
cast_sort sort.Bool v = refl
cast_sort sort.W64 v = refl
cast_sort sort.W128 v = refl
cast_sort sort.Arr v = refl

value_sort : (m : Functions) (a : Assignment) (t : Tm) → val_sort (value m a t) ≡ tm_sort t
value_sort m a t = ap val_sort (sym (value-sorted m a t)) ∙ cast_sort (tm_sort t) (value m a t)

-- values of the sorts of the parameters
abbrev pub AreOf : List Variable → List Val → Type 0
AreOf [] [] = Unit {0}
AreOf (p ∷ ps) (v ∷ vs) = IsOf p.sort v × AreOf ps vs
AreOf _ _ = ⊥

-- functions evaluate to what they mean
pub record Sound (fs : List Function) (m : Functions) (c : Evaluations) : Type 0 where
  pub worth : (k : ℕ) (f : Function) (vs : List Val) (left : ℕ) (v : Val) (rest : ℕ) → slice_get fs k ≡ Some f → AreOf f.params vs → c k vs left ≡ Got v rest → (v ≡ m k vs) × IsOf f.result v

pub record Agreeing (p : List ℕ → Sort → Bool) (known : Known) (a : Assignment) : Type 0 where
  pub agrees : Agrees p known a

-- one more name
pub agrees_more : (p q : List ℕ → Sort → Bool) (known : Known) (a : Assignment) (name : List ℕ) (r : Sort) (w : Val) → ((text : List ℕ) (s : Sort) → (bytes_eq name text && sort_eq r s) ≡ false → q text s ≡ true → p text s ≡ true) → IsOf r w → Agreeing p known a → Agreeing q (knowing name r w known) (assigned name r w a)
agrees_more p q known a name r w weaker of g = record { agrees = λ text s v k h. either text s v (bytes_eq name text && sort_eq r s) refl k h }
  where
    either : (text : List ℕ) (s : Sort) (v : Val) (b : Bool) → (bytes_eq name text && sort_eq r s) ≡ b → q text s ≡ true → (if b then Some w else known text s) ≡ Some v → v ≡ cast s (if b then w else a text s)
    either text s v true e k h =
        let same : w ≡ v = cc in
        sym same ∙ sym of ∙ ap (λ x. cast x w) (sort_eq_is r s (and_parts (bytes_eq name text) (sort_eq r s) e).1)
    either text s v false e k h = g.agrees text s v (weaker text s e k) h

pub agrees_bound : (p : List ℕ → Sort → Bool) (known : Known) (a : Assignment) (name : List ℕ) (z : ℤ) → Agreeing p known a → Agreeing (λ text s. is_bound name text s || p text s) (knowing name sort.Int (Whole z) known) (bound name z a)
agrees_bound p known a name z g =
    agrees_more p (λ text s. is_bound name text s || p text s) known a name sort.Int (Whole z) (λ text s e k. ap (λ b. b || p text s) (sym e) ∙ k) refl g

pub agrees_arguments : (p : List ℕ → Sort → Bool) (ps : List Variable) (vs : List Val) → AreOf ps vs → Agreeing p (known_arguments ps vs) (arguments ps vs)
agrees_arguments p [] [] h = record { agrees = λ text s v k e. absurd (let differs : None ≡ Some v → ⊥ = λ q. cc in differs e) }
agrees_arguments p [] (v ∷ vs) h = absurd h
agrees_arguments p (q ∷ qs) [] h = absurd h
agrees_arguments p (q ∷ qs) (v ∷ vs) h =
    agrees_more p p (known_arguments qs vs) (arguments qs vs) q.name q.sort v (λ text s e k. k) h.0 (agrees_arguments p qs vs h.1)

-- all instances are evaluated
and_true : (b : Bool) → (b && true) ≡ b
and_true true = refl
and_true false = refl

and_again : (a b c : Bool) → ((a && b) && c) ≡ (a && (b && c))
and_again true b c = refl
and_again false b c = refl

instances_worth : (p : ℤ → Course Val) (q : ℤ → Val) → ((z : ℤ) (l : ℕ) (x : Val) (e : ℕ) → p z l ≡ Got x e → x ≡ q z) → (n : ℕ) (z : ℤ) (sofar : Bool) (left : ℕ) (v : Val) (rest : ℕ) → instances p n z sofar left ≡ Got v rest → v ≡ Truth (sofar && all_of n z (λ y. truth (q y)))
instances_worth p q o zero z sofar left v rest h = give_got (Truth sofar) v left rest h ∙ ap Truth (sym (and_true sofar))
instances_worth p q o (suc n) z sofar left v rest h =
    let more = all_of n (z +ℤ pos 1) (λ y. truth (q y)) in
    let s = after_got {A = Val} {B = Val} (p z) (λ x. instances p n (z +ℤ pos 1) (sofar && truth x)) left v rest h in
    instances_worth p q o n (z +ℤ pos 1) (sofar && truth s.x) s.mid v rest s.next_gave
    ∙ ap (λ x. Truth ((sofar && truth x) && more)) (o z left s.x s.mid s.first_gave)
    ∙ ap Truth (and_again sofar (truth (q z)) more)

between_worth : (p : ℤ → Course Val) (q : ℤ → Val) → ((z : ℤ) (l : ℕ) (x : Val) (e : ℕ) → p z l ≡ Got x e → x ≡ q z) → (low high : ℤ) (left : ℕ) (v : Val) (rest : ℕ) → between p low high left ≡ Got v rest → v ≡ Truth (all_between low high (λ z. truth (q z)))
between_worth p q o low high left v rest h = instances_worth p q o (count (high -ℤ low)) low true left v rest h

-- calls
arguments_are : (m : Functions) (a : Assignment) (args : Tms) (ps : List Variable) → sorts_eq (tms_sorts args) (map (λ p. p.sort) ps) ≡ true → AreOf ps (values m a args)
arguments_are m a no_tms [] h = tt {0}
arguments_are m a no_tms (p ∷ ps) h = absurd (false≢true h)
arguments_are m a (more_tms t ts) [] h = absurd (false≢true h)
arguments_are m a (more_tms t ts) (p ∷ ps) h =
    let q = and_parts (sort_eq (tm_sort t) p.sort) _ h in (
      ap (λ s. cast s (value m a t)) (sym (sort_eq_is (tm_sort t) p.sort q.0)) ∙ value-sorted m a t,
      arguments_are m a ts ps q.1,
    )

call_worth : (fs : List Function) (m : Functions) (c : Evaluations) → Sound fs m c → (a : Assignment) (j : ℕ) (s : Sort) (args : Tms) (found : Option Function) → slice_get fs j ≡ found → fun_takes found s (tms_sorts args) ≡ true → (vs : List Val) (mid : ℕ) (v : Val) (rest : ℕ) → vs ≡ values m a args → c j vs mid ≡ Got v rest → v ≡ cast s (m j (values m a args))
call_worth fs m c o a j s args None at takes vs mid v rest e h = absurd (false≢true takes)
call_worth fs m c o a j s args (Some f) at takes vs mid v rest e h =
    let q = and_parts (sort_eq s f.result) _ takes in
    let are = subst (AreOf f.params) (sym e) (arguments_are m a args f.params q.1) in
    let got = o.worth j f vs mid v rest at are h in
    sym got.1 ∙ ap (λ r. cast r v) (sym (sort_eq_is s f.result q.0)) ∙ ap (cast s) (got.0 ∙ ap (m j) e)

-- what follows the parts
abbrev un_next : UnOp → Val → Course Val
un_next op v = given (checked (un_value op (val_sort v) v))

abbrev bin_next : BinOp → Val → Val → Course Val
bin_next op v w = given (checked (bin_value op (val_sort v) v w))

abbrev ite_next : Val → Val → Val → Course Val
ite_next x v w = give (if truth x then v else w)

abbrev put_next : Val → Val → Val → Course Val
put_next v z n = give (put_value v z n)

abbrev put_dword_next : Val → Val → Val → Course Val
put_dword_next v z n = give (put_dword_value v z n)

abbrev clmul_next : ℕ → Val → Val → Course Val
clmul_next n v w = give (clmul_value v w n)

abbrev shift_next : CountedOp → ℕ → Val → Course Val
shift_next op n v = give (counted_value op n v)

abbrev all_next : Evaluations → Known → List ℕ → Tm → Val → Val → Course Val
all_next c k text body v w = between (λ z. evaluate c (knowing text sort.Int (Whole z) k) body) (whole v) (whole w)

mutual
  pub evaluate_worth : (fs : List Function) (m : Functions) (c : Evaluations) → Sound fs m c → (p : List ℕ → Sort → Bool) (k : Known) (a : Assignment) → Agreeing p k a → (t : Tm) → well_sorted fs t ≡ true → free_all p t ≡ true → (left : ℕ) (v : Val) (rest : ℕ) → evaluate c k t left ≡ Got v rest → v ≡ value m a t
  evaluate_worth fs m c o p k a g (Name text s) w f left v rest h =
      let n = entering_got {A = Val} (given (known_value (k text s))) left v rest h in
      g.agrees text s v f (known_got (k text s) v n.n rest n.gave)
  evaluate_worth fs m c o p k a g (Int z) w f left v rest h =
      let n = entering_got {A = Val} (give (Whole z)) left v rest h in give_got (Whole z) v n.n rest n.gave
  evaluate_worth fs m c o p k a g (W64 b) w f left v rest h =
      let n = entering_got {A = Val} (give (Word (b % T))) left v rest h in give_got (Word (b % T)) v n.n rest n.gave
  evaluate_worth fs m c o p k a g (W128 b) w f left v rest h =
      let n = entering_got {A = Val} (give (Wide (b % T128))) left v rest h in give_got (Wide (b % T128)) v n.n rest n.gave
  evaluate_worth fs m c o p k a g (TruthTerm b) w f left v rest h =
      let n = entering_got {A = Val} (give (Truth b)) left v rest h in give_got (Truth b) v n.n rest n.gave
  evaluate_worth fs m c o p k a g (Un op t) w f left v rest h =
      let n = entering_got {A = Val} (after (evaluate c k t) (un_next op)) left v rest h in
      let q = after_got {A = Val} {B = Val} (evaluate c k t) (un_next op) n.n v rest n.gave in
      let first = evaluate_worth fs m c o p k a g t (and_parts (un_takes op (tm_sort t)) _ w).1 f n.n q.x q.mid q.first_gave in
      checked_got (un_value op (val_sort q.x) q.x) v q.mid rest q.next_gave
      ∙ ap (λ y. un_value op (val_sort y) y) first
      ∙ ap (λ s. un_value op s (value m a t)) (value_sort m a t)
  evaluate_worth fs m c o p k a g (Bin op t u) w f left v rest h =
      let n = entering_got {A = Val} (two (evaluate c k t) (evaluate c k u) (bin_next op)) left v rest h in
      let q = two_got {A = Val} {B = Val} {C = Val} (evaluate c k t) (evaluate c k u) (bin_next op) n.n v rest n.gave in
      let ws = and_parts (well_sorted fs t) _ (and_parts (bin_takes op (tm_sort t) (tm_sort u)) _ w).1 in
      let fr = and_parts (free_all p t) _ f in
      let first = evaluate_worth fs m c o p k a g t ws.0 fr.0 n.n q.x q.mid q.first_gave in
      let second = evaluate_worth fs m c o p k a g u ws.1 fr.1 q.mid q.y q.last q.second_gave in
      checked_got (bin_value op (val_sort q.x) q.x q.y) v q.last rest q.next_gave
      ∙ ap2 (λ x y. bin_value op (val_sort x) x y) first second
      ∙ ap (λ s. bin_value op s (value m a t) (value m a u)) (value_sort m a t)
  evaluate_worth fs m c o p k a g (Ite b t u) w f left v rest h =
      let n = entering_got {A = Val} (three (evaluate c k b) (evaluate c k t) (evaluate c k u) ite_next) left v rest h in
      let q = three_got {A = Val} {B = Val} {C = Val} {D = Val} (evaluate c k b) (evaluate c k t) (evaluate c k u) ite_next n.n v rest n.gave in
      let takes = and_parts (ite_takes (tm_sort b) (tm_sort t) (tm_sort u)) _ w in
      let ws = and_parts (well_sorted fs b) _ takes.1 in
      let ws2 = and_parts (well_sorted fs t) _ ws.1 in
      let fr = and_parts (free_all p b) _ f in
      let fr2 = and_parts (free_all p t) _ fr.1 in
      let first = evaluate_worth fs m c o p k a g b ws.0 fr.0 n.n q.x q.mid q.first_gave in
      let second = evaluate_worth fs m c o p k a g t ws2.0 fr2.0 q.mid q.y q.later q.second_gave in
      let third = evaluate_worth fs m c o p k a g u ws2.1 fr2.1 q.later q.z q.last q.third_gave in
      let same = sort_eq_is (tm_sort u) (tm_sort t) (and_parts (sort_eq (tm_sort b) sort.Bool) _ takes.0).1 in
      let kept : cast (tm_sort t) (value m a u) ≡ value m a u = ap (λ s. cast s (value m a u)) (sym same) ∙ value-sorted m a u in
      give_got (if truth q.x then q.y else q.z) v q.last rest q.next_gave
      ∙ ap3 (λ x y z. if truth x then y else z) first second third
      ∙ ap (λ z. if truth (value m a b) then value m a t else z) (sym kept)
  evaluate_worth fs m c o p k a g (Put x i u) w f left v rest h =
      let n = entering_got {A = Val} (three (evaluate c k x) (evaluate c k i) (evaluate c k u) put_next) left v rest h in
      let q = three_got {A = Val} {B = Val} {C = Val} {D = Val} (evaluate c k x) (evaluate c k i) (evaluate c k u) put_next n.n v rest n.gave in
      let ws = and_parts (well_sorted fs x) _ (and_parts (put_takes (tm_sort x) (tm_sort i) (tm_sort u)) _ w).1 in
      let ws2 = and_parts (well_sorted fs i) _ ws.1 in
      let fr = and_parts (free_all p x) _ f in
      let fr2 = and_parts (free_all p i) _ fr.1 in
      let first = evaluate_worth fs m c o p k a g x ws.0 fr.0 n.n q.x q.mid q.first_gave in
      let second = evaluate_worth fs m c o p k a g i ws2.0 fr2.0 q.mid q.y q.later q.second_gave in
      let third = evaluate_worth fs m c o p k a g u ws2.1 fr2.1 q.later q.z q.last q.third_gave in
      give_got (put_value q.x q.y q.z) v q.last rest q.next_gave ∙ ap3 put_value first second third
  evaluate_worth fs m c o p k a g (PutDword x i u) w f left v rest h =
      let n = entering_got {A = Val} (three (evaluate c k x) (evaluate c k i) (evaluate c k u) put_dword_next) left v rest h in
      let q = three_got {A = Val} {B = Val} {C = Val} {D = Val} (evaluate c k x) (evaluate c k i) (evaluate c k u) put_dword_next n.n v rest n.gave in
      let ws = and_parts (well_sorted fs x) _ (and_parts (put_takes (tm_sort x) (tm_sort i) (tm_sort u)) _ w).1 in
      let ws2 = and_parts (well_sorted fs i) _ ws.1 in
      let fr = and_parts (free_all p x) _ f in
      let fr2 = and_parts (free_all p i) _ fr.1 in
      let first = evaluate_worth fs m c o p k a g x ws.0 fr.0 n.n q.x q.mid q.first_gave in
      let second = evaluate_worth fs m c o p k a g i ws2.0 fr2.0 q.mid q.y q.later q.second_gave in
      let third = evaluate_worth fs m c o p k a g u ws2.1 fr2.1 q.later q.z q.last q.third_gave in
      give_got (put_dword_value q.x q.y q.z) v q.last rest q.next_gave ∙ ap3 put_dword_value first second third
  evaluate_worth fs m c o p k a g (Clmul t u b) w f left v rest h =
      let n = entering_got {A = Val} (two (evaluate c k t) (evaluate c k u) (clmul_next b)) left v rest h in
      let q = two_got {A = Val} {B = Val} {C = Val} (evaluate c k t) (evaluate c k u) (clmul_next b) n.n v rest n.gave in
      let ws = and_parts (well_sorted fs t) _ (and_parts (both_are sort.W128 (tm_sort t) (tm_sort u)) _ w).1 in
      let fr = and_parts (free_all p t) _ f in
      let first = evaluate_worth fs m c o p k a g t ws.0 fr.0 n.n q.x q.mid q.first_gave in
      let second = evaluate_worth fs m c o p k a g u ws.1 fr.1 q.mid q.y q.last q.second_gave in
      give_got (clmul_value q.x q.y b) v q.last rest q.next_gave ∙ ap2 (λ x y. clmul_value x y b) first second
  evaluate_worth fs m c o p k a g (Shift op b t) w f left v rest h =
      let n = entering_got {A = Val} (after (evaluate c k t) (shift_next op b)) left v rest h in
      let q = after_got {A = Val} {B = Val} (evaluate c k t) (shift_next op b) n.n v rest n.gave in
      let first = evaluate_worth fs m c o p k a g t (and_parts (counted_takes op b (tm_sort t)) _ w).1 f n.n q.x q.mid q.first_gave in
      give_got (counted_value op b q.x) v q.mid rest q.next_gave ∙ ap (counted_value op b) first
  evaluate_worth fs m c o p k a g (Call j s args) w f left v rest h =
      let n = entering_got {A = Val} (after (evaluate_all c k [] args) (c j)) left v rest h in
      let q = after_got {A = List Val} {B = Val} (evaluate_all c k [] args) (c j) n.n v rest n.gave in
      let ws = and_parts (fun_takes (slice_get fs j) s (tms_sorts args)) _ w in
      let all = all_worth fs m c o p k a g args ws.1 f [] n.n q.x q.mid q.first_gave in
      call_worth fs m c o a j s args (slice_get fs j) refl ws.0 q.x q.mid v rest all q.next_gave
  evaluate_worth fs m c o p k a g (All text low high body) w f left v rest h =
      let n = entering_got {A = Val} (two (evaluate c k low) (evaluate c k high) (all_next c k text body)) left v rest h in
      let q = two_got {A = Val} {B = Val} {C = Val} (evaluate c k low) (evaluate c k high) (all_next c k text body) n.n v rest n.gave in
      let ws = and_parts (well_sorted fs low) _ (and_parts (all_takes (tm_sort low) (tm_sort high) (tm_sort body)) _ w).1 in
      let ws2 = and_parts (well_sorted fs high) _ ws.1 in
      let fr = and_parts (free_all p low) _ f in
      let fr2 = and_parts (free_all p high) _ fr.1 in
      let first = evaluate_worth fs m c o p k a g low ws.0 fr.0 n.n q.x q.mid q.first_gave in
      let second = evaluate_worth fs m c o p k a g high ws2.0 fr2.0 q.mid q.y q.last q.second_gave in
      let inside : (z : ℤ) (l : ℕ) (x : Val) (e : ℕ) → evaluate c (knowing text sort.Int (Whole z) k) body l ≡ Got x e → x ≡ value m (bound text z a) body =
      λ z l x e i. evaluate_worth fs m c o (λ name s. is_bound text name s || p name s) (knowing text sort.Int (Whole z) k) (bound text z a) (agrees_bound p k a text z g) body ws2.1 fr2.1 l x e i in
      between_worth (λ z. evaluate c (knowing text sort.Int (Whole z) k) body) (λ z. value m (bound text z a) body) inside (whole q.x) (whole q.y) q.last v rest q.next_gave
      ∙ ap2 (λ x y. Truth (all_between (whole x) (whole y) (λ z. truth (value m (bound text z a) body)))) first second

  all_worth : (fs : List Function) (m : Functions) (c : Evaluations) → Sound fs m c → (p : List ℕ → Sort → Bool) (k : Known) (a : Assignment) → Agreeing p k a → (ts : Tms) → all_well_sorted fs ts ≡ true → all_free_all p ts ≡ true → (before : List Val) (left : ℕ) (vs : List Val) (rest : ℕ) → evaluate_all c k before ts left ≡ Got vs rest → vs ≡ before ++ values m a ts
  all_worth fs m c o p k a g no_tms w f before left vs rest h = give_got before vs left rest h ∙ sym (append-nil before)
  all_worth fs m c o p k a g (more_tms t ts) w f before left vs rest h =
      let q = after_got {A = Val} {B = List Val} (evaluate c k t) (λ x. evaluate_all c k (before ++ x ∷ []) ts) left vs rest h in
      let ws = and_parts (well_sorted fs t) _ w in
      let fr = and_parts (free_all p t) _ f in
      let first = evaluate_worth fs m c o p k a g t ws.0 fr.0 left q.x q.mid q.first_gave in
      all_worth fs m c o p k a g ts ws.1 fr.1 (before ++ q.x ∷ []) q.mid vs rest q.next_gave
      ∙ append_assoc before (q.x ∷ []) (values m a ts)
      ∙ ap (λ x. before ++ x ∷ values m a ts) first
