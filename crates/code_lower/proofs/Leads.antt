-- How the machine goes from one position of a program to another.
use Rattle.std.proofs.Common.{◌≡◌, ℕ, suc, ◌+◌, ◌-◌, ◌≤◌, Bool, true, false, not, List, [], ◌∷◌, ◌++◌, refl, sym, ap, ◌∙◌, subst, arith, ◌⊎◌, inl, inr}
use Rattle.std.specs.Prelude.{Option, Some, None, slice_get, position, if◌then◌else◌}
use Rattle.std.specs.List.{find}
use Rattle.std.proofs.lemmas.Bool.{eqb-true, eq-eqb, false≢true}
use Rattle.x64_syntax.specs.declared.places.Reg.{Reg as GeneralReg}
use Rattle.x64_syntax.specs.declared.operands.Opr.{Opr}
use Rattle.x64_syntax.specs.declared.conditions.Cmp.{Cmp}
use Rattle.x64_syntax.specs.declared.conditions.Cond.{Cond}
use Rattle.x64_syntax.specs.declared.instructions.Ins.{Ins}
use Rattle.x64_syntax.specs.declared.items.Item.{Item}
use Rattle.x64_syntax.specs.declared.items.Item.TheVariants as item
use Rattle.x64_syntax.specs.Instructions.{cond_flags}
use Rattle.x64_meaning.specs.declared.machine.Obs.TheVariants.{Branch}
use Rattle.x64_meaning.specs.State.{State, flag}
use Rattle.x64_meaning.specs.Exp.{no_words}
use Rattle.x64_meaning.specs.Run.{Way, next_way, Outcome, does, after, follow, ins_step, label_step, branch_step, item_step, is_label, is_undefined, cond_holds, run, Running, StandAt}
use Rattle.x64_meaning.specs.Run as machine
use Rattle.code_lower.specs.Lowered.{compare, when, unless}
use Rattle.code_lower.specs.Guarded.{Course, Ended, Faulted, OutOfTurns, then_, guarded_step, goes_on, stays, way_past, way_of_jump, test_course, test}
use Rattle.code_lower.specs.Keeps.{LabelsDiffer}
use Rattle.code_lower.proofs.Flags.{Four, LeavesFour, does_four}
use Rattle.code_lower.proofs.First.{Passes, Fails, first, position_is}
use Rattle.code_lower.proofs.Comparisons.{Compared, compared, all_defined, taken, not_taken}

-- these items stand in the program between two positions
abbrev pub Between : List Item → ℕ → List Item → ℕ → Type 0
Between items at [] end = at ≡ end
Between items at (i ∷ is) end = (slice_get items at ≡ Some i) × Between items (at + 1) is end

pub between : (items : List Item) (at : ℕ) (xs ys : List Item) (end : ℕ) → Between items at (xs ++ ys) end → (mid : ℕ) × Between items at xs mid × Between items mid ys end
between items at [] ys end h = (at, refl, h)
between items at (x ∷ xs) ys end h =
    let rest = between items (at + 1) xs ys end h.1 in
    (rest.0, (h.0, rest.1), rest.2)

pub to_end : (items : List Item) (at : ℕ) (xs : List Item) → StandAt items at xs → (end : ℕ) × Between items at xs end
to_end items at [] h = (at, refl)
to_end items at (x ∷ xs) h = let rest = to_end items (at + 1) xs h.1 in (rest.0, (h.0, rest.1))

pub label_is : (l : ℕ) (i : Item) → is_label l i ≡ true → i ≡ item.Label l
label_is l (item.Label m) h = ap item.Label (sym (eqb-true l m h))
label_is l (item.Ins i) h = absurd (false≢true h)
label_is l (item.Jmp m) h = absurd (false≢true h)
label_is l (item.Jcc c m) h = absurd (false≢true h)
label_is l (item.Entry name) h = absurd (false≢true h)
label_is l item.Ret h = absurd (false≢true h)

-- a label is found where it stands
pub found : (items : List Item) → LabelsDiffer items → (l at : ℕ) → slice_get items at ≡ Some (item.Label l) → position (is_label l) items ≡ Some at
found items differ l at h = by_first (first (is_label l) items)
  where
    by_first : Passes (is_label l) items ⊎ Fails (is_label l) items → position (is_label l) items ≡ Some at
    by_first (inl f) = position_is (is_label l) items f ∙ ap Some (differ l f.at at (f.here ∙ ap Some (label_is l f.item f.passes)) h)
    by_first (inr f) = absurd (false≢true (sym (f.each at (item.Label l) h) ∙ eq-eqb l l refl))

-- what a test's jumps go by
pub record Decided (c : Cmp) (b : Bool) (s : State) : Type 0 where
  pub defined : (d : Cond) → find (λ f. is_undefined (flag s f)) (cond_flags d) ≡ None
  pub when_ : cond_holds (when c) s ≡ b
  pub unless_ : cond_holds (unless c) s ≡ not b

module _ (items : List Item) where
  -- from here the machine comes to there
  pub record Leads (pos : ℕ) (w : Way) (q : ℕ) (v : Way) : Type 0 where
    pub taking : ℕ
    pub goes : (k : ℕ) → run items (k + taking) pos w ≡ run items k q v
    pub steps : v.steps ≡ w.steps + taking

  -- it still runs after at least so many steps
  pub record StillRuns (n pos : ℕ) (w : Way) : Type 0 where
    pub more : ℕ
    pub at : ℕ
    pub way : Way
    pub runs : run items (n + more) pos w ≡ Running at way

  abbrev pub Led : ℕ → ℕ → Way → ℕ → Course → Type 0
  Led n pos w q (Ended v) = Leads pos w q v × Four v.state
  Led n pos w q Faulted = Unit {0}
  Led n pos w q OutOfTurns = StillRuns n pos w

  pub stays_here : (pos : ℕ) (w : Way) → Leads pos w pos w
  stays_here pos w = record {
    taking = 0;
    goes = λ k. ap (λ n. run items n pos w) (let e : k + 0 ≡ k = omega arith in e);
    steps = omega arith;
  }

  pub one_step : (pos : ℕ) (w : Way) (q : ℕ) (v : Way) → ((k : ℕ) → run items (suc k) pos w ≡ run items k q v) → v.steps ≡ w.steps + 1 → Leads pos w q v
  one_step pos w q v goes steps = record {
    taking = 1;
    goes = λ k. ap (λ n. run items n pos w) (let e : k + 1 ≡ suc k = omega arith in e) ∙ goes k;
    steps = steps;
  }

  pub leads_on : (pos : ℕ) (w : Way) (mid : ℕ) (u : Way) (q : ℕ) (v : Way) → Leads pos w mid u → Leads mid u q v → Leads pos w q v
  leads_on pos w mid u q v a b = record {
    taking = b.taking + a.taking;
    goes = λ k.
        ap (λ n. run items n pos w) (let e : k + (b.taking + a.taking) ≡ k + b.taking + a.taking = omega arith in e)
        ∙ a.goes (k + b.taking) ∙ b.goes k;
    steps = let x = a.steps in let y = b.steps in omega (arith, x, y);
  }

  -- what is known from a position on is known from one before it
  pub before : (n pos : ℕ) (w : Way) (mid : ℕ) (u : Way) (q : ℕ) (c : Course) → Leads pos w mid u → Led n mid u q c → Led n pos w q c
  before n pos w mid u q (Ended v) a b = (leads_on pos w mid u q v a b.0, b.1)
  before n pos w mid u q Faulted a b = tt
  before n pos w mid u q OutOfTurns a b = record {
    more = b.more + a.taking;
    at = b.at;
    way = b.way;
    runs =
        ap (λ m. run items m pos w) (let e : n + (b.more + a.taking) ≡ n + b.more + a.taking = omega arith in e)
        ∙ a.goes (n + b.more) ∙ b.runs;
  }

  pub led_on : (n pos : ℕ) (w : Way) (mid q : ℕ) (c : Course) (next : Way → Course) → Led n pos w mid c → ((v : Way) → Four v.state → Led n mid v q (next v)) → Led n pos w q (then_ c next)
  led_on n pos w mid q (Ended v) next a rest = before n pos w mid v q (next v) a.0 (rest v a.1)
  led_on n pos w mid q Faulted next a rest = tt
  led_on n pos w mid q OutOfTurns next a rest = a

  -- fewer turns are as well
  pub fewer : (m n pos : ℕ) (w : Way) (q : ℕ) (c : Course) → m ≤ n → Led n pos w q c → Led m pos w q c
  fewer m n pos w q (Ended v) le h = h
  fewer m n pos w q Faulted le h = tt
  fewer m n pos w q OutOfTurns le h = record {
    more = (n - m) + h.more;
    at = h.at;
    way = h.way;
    runs = ap (λ k. run items k pos w) (let e : m + (n - m + h.more) ≡ n + h.more = omega (arith, le) in e) ∙ h.runs;
  }

  -- an item that does nothing, and a jump
  pub pass_label : (pos l : ℕ) (w : Way) → slice_get items pos ≡ Some (item.Label l) → Leads pos w (pos + 1) (way_past w)
  pass_label pos l w h = one_step pos w (pos + 1) (way_past w) (λ k. ap (λ o. follow w (item_step items o pos w.state) (run items k)) h) refl

  pub pass_entry : (pos : ℕ) (name : List ℕ) (w : Way) → slice_get items pos ≡ Some (item.Entry name) → Leads pos w (pos + 1) (way_past w)
  pass_entry pos name w h = one_step pos w (pos + 1) (way_past w) (λ k. ap (λ o. follow w (item_step items o pos w.state) (run items k)) h) refl

  pub jump : (pos l q : ℕ) (w : Way) → slice_get items pos ≡ Some (item.Jmp l) → position (is_label l) items ≡ Some q → Leads pos w q (way_past w)
  jump pos l q w h there =
      one_step pos w q (way_past w) (λ k. ap (λ o. follow w (item_step items o pos w.state) (run items k)) h ∙ ap (λ o. follow w (label_step o w.state []) (run items k)) there) refl

  -- a conditional jump whose flags are defined
  pub branch_taken : (pos l q : ℕ) (c : Cond) (w : Way) → slice_get items pos ≡ Some (item.Jcc c l) → find (λ f. is_undefined (flag w.state f)) (cond_flags c) ≡ None → cond_holds c w.state ≡ true → position (is_label l) items ≡ Some q → Leads pos w q (way_of_jump true w)
  branch_taken pos l q c w h none holds there =
      one_step pos w q (way_of_jump true w) (λ k.
      ap (λ o. follow w (item_step items o pos w.state) (run items k)) h
      ∙ ap (λ o. follow w (branch_step o (cond_holds c w.state) (position (is_label l) items) pos w.state) (run items k)) none
      ∙ ap (λ b. follow w (branch_step None b (position (is_label l) items) pos w.state) (run items k)) holds
      ∙ ap (λ o. follow w (label_step o w.state (Branch true ∷ [])) (run items k)) there) refl

  pub branch_not_taken : (pos l : ℕ) (c : Cond) (w : Way) → slice_get items pos ≡ Some (item.Jcc c l) → find (λ f. is_undefined (flag w.state f)) (cond_flags c) ≡ None → cond_holds c w.state ≡ false → Leads pos w (pos + 1) (way_of_jump false w)
  branch_not_taken pos l c w h none holds =
      one_step pos w (pos + 1) (way_of_jump false w) (λ k.
      ap (λ o. follow w (item_step items o pos w.state) (run items k)) h
      ∙ ap (λ o. follow w (branch_step o (cond_holds c w.state) (position (is_label l) items) pos w.state) (run items k)) none
      ∙ ap (λ b. follow w (branch_step None b (position (is_label l) items) pos w.state) (run items k)) holds) refl

  -- an instruction that is done
  pub does_ins : (pos : ℕ) (i : Ins) (w : Way) (t : State) (seen : List _) → slice_get items pos ≡ Some (item.Ins i) → does i w.state ≡ machine.Done t seen → Leads pos w (pos + 1) (next_way w t seen)
  does_ins pos i w t seen h done =
      one_step pos w (pos + 1) (next_way w t seen) (λ k.
      ap (λ o. follow w (item_step items o pos w.state) (run items k)) h ∙ ap (λ o. follow w (ins_step o pos) (run items k)) done) refl

  pub step_led : (n pos stack : ℕ) (i : Ins) (block : Option ℕ) (w : Way) → slice_get items pos ≡ Some (item.Ins i) → Four w.state → Led n pos w (pos + 1) (guarded_step stack i block w)
  step_led n pos stack i block w h four = by_stays (stays stack w.state i block)
    where
      by_outcome : (o : Outcome) → does i w.state ≡ o → LeavesFour o → Led n pos w (pos + 1) (goes_on o w)
      by_outcome (machine.Done t seen) e f = (does_ins pos i w t seen h e, f)
      by_outcome (machine.Faulted x) e f = tt

      by_stays : (b : Bool) → Led n pos w (pos + 1) (if b then goes_on (does i w.state) w else Faulted)
      by_stays true = by_outcome (does i w.state) refl (does_four i w.state four)
      by_stays false = tt

  -- a comparison, and what follows it by whether the test holds
  pub test_led : (n pos q stack : ℕ) (c : Cmp) (l : GeneralReg) (r : Opr) (next : Bool → Way → Course) (w : Way) → slice_get items pos ≡ Some (item.Ins (compare l r)) → Four w.state → ((b : Bool) (v : Way) → Four v.state → Decided c b v.state → Led n (pos + 1) v q (next b v)) → Led n pos w q (test_course stack c l r next w)
  test_led n pos q stack c l r next w h four rest = by_stays (stays stack w.state (compare l r) None) refl
    where
      t : State
      t = after w.state no_words (compare l r)

      b : Bool
      b = test c l r w.state

      done_led : Compared w.state t l r → Led n pos w q (then_ (goes_on (does (compare l r) w.state) w) (next b))
      done_led d =
          let v = next_way w t [] in
          let four_t : Four t = subst LeavesFour d.done (does_four (compare l r) w.state four) in
          let decided : Decided c b t = record {
            defined = all_defined t _ _ d.tell;
            when_ = taken t _ _ d.tell c;
            unless_ = not_taken t _ _ d.tell c;
          } in
          subst (λ o. Led n pos w q (then_ (goes_on o w) (next b))) (sym d.done)
          (before n pos w (pos + 1) v q (next b v) (does_ins pos (compare l r) w t [] h d.done) (rest b v four_t decided))

      by_stays : (x : Bool) → stays stack w.state (compare l r) None ≡ x → Led n pos w q (then_ (if x then goes_on (does (compare l r) w.state) w else Faulted) (next b))
      by_stays true e = done_led (compared stack w.state l r four e)
      by_stays false e = tt
