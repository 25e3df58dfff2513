-- Lowering keeps the runs of code.
use Rattle.std.proofs.Common.{◌≡◌, ℕ, zero, suc, ◌+◌, ◌≤◌, Bool, true, false, List, [], ◌∷◌, length, refl, sym, ap, ◌∙◌, subst, arith, append-nil}
use Rattle.std.specs.Prelude.{◌≢◌, Some, slice_get}
use Rattle.x64_syntax.specs.declared.places.Reg.{Reg as GeneralReg}
use Rattle.x64_syntax.specs.declared.operands.Opr.{Opr}
use Rattle.x64_syntax.specs.declared.conditions.Cmp.{Cmp}
use Rattle.x64_syntax.specs.declared.items.Item.{Item}
use Rattle.x64_syntax.specs.declared.items.Item.TheVariants as item
use Rattle.x64_syntax.specs.Code.{Prog, Done, Step, If, Loop}
use Rattle.term_core.specs.Value.{Functions}
use Rattle.x64_meaning.specs.State.{State, IsState}
use Rattle.x64_meaning.specs.Run.{Way, start, next_way, follow, item_step, run, Running, StandAt}
use Rattle.x64_meaning.specs.Run as machine
use Rattle.x64_meaning.specs.Contract.{Contract, Meets}
use Rattle.code_lower.specs.Lowered.{compare, when, unless, labels, code_items, export_items}
use Rattle.code_lower.specs.Guarded.{Course, Ended, Faulted, OutOfTurns, then_, way_past, way_of_jump, test_course, arms, back, turns, guarded_run}
use Rattle.code_lower.specs.Keeps.{LabelsDiffer, later, CodeMeets}
use Rattle.code_lower.proofs.Flags.{Four}
use Rattle.code_lower.proofs.Bounds.{shifted, guarded_later}
use Rattle.code_lower.proofs.Leads.{Between, between, to_end, found, Leads, Led, stays_here, leads_on, before, led_on, fewer, pass_label, pass_entry, jump, branch_taken, branch_not_taken, step_led, test_led, Decided}

module _ (items : List Item) (differ : LabelsDiffer items) where
  -- a label passed while turns are left
  one_turn : (m pos l : ℕ) (w : Way) (q : ℕ) (c : Course) → slice_get items pos ≡ Some (item.Label l) → Led items m (pos + 1) (way_past w) q c → Led items (suc m) pos w q c
  one_turn m pos l w q (Ended v) h a = before items m pos w (pos + 1) (way_past w) q (Ended v) (pass_label items pos l w h) a
  one_turn m pos l w q Faulted h a = tt
  one_turn m pos l w q OutOfTurns h a = record {
    more = a.more;
    at = a.at;
    way = a.way;
    runs =
        ap (λ k. run items k pos w) (let e : suc m + a.more ≡ suc (m + a.more) = omega arith in e)
        ∙ ap (λ o. follow w (item_step items o pos w.state) (run items (m + a.more))) h ∙ a.runs;
  }

  -- the turns of a loop, from the label of its test on
  module _ (n stack k at_body at_test end test_label : ℕ) (c : Cmp) (l : GeneralReg) (r : Opr) (body : Way → Course) where
    record Loops : Type 0 where
      body_label : slice_get items at_body ≡ Some (item.Label k)
      test_label_is : slice_get items at_test ≡ Some (item.Label test_label)
      compares : slice_get items (at_test + 1) ≡ Some (item.Ins (compare l r))
      jumps : slice_get items (at_test + 1 + 1) ≡ Some (item.Jcc (when c) k)
      ends : at_test + 1 + 1 + 1 ≡ end
      turn : (w : Way) → Four w.state → Led items n (at_body + 1) w at_test (body w)

    module _ (loops : Loops) where
      after_test : (m : ℕ) (again : Way → Course) → ((v : Way) → Four v.state → Led items m at_body v end (again v)) → (w : Way) → Four w.state → Led items m (at_test + 1) w end (test_course stack c l r (back again) w)
      after_test m again led w four = test_led items m (at_test + 1) end stack c l r (back again) w loops.compares four by_test
        where
          by_test : (b : Bool) (v : Way) → Four v.state → Decided c b v.state → Led items m (at_test + 1 + 1) v end (back again b v)
          by_test true v f d =
              before items m (at_test + 1 + 1) v at_body (way_of_jump true v) end (again (way_of_jump true v))
              (branch_taken items (at_test + 1 + 1) k at_body (when c) v loops.jumps (d.defined (when c)) d.when_ (found items differ k at_body loops.body_label))
              (led (way_of_jump true v) f)
          by_test false v f d = (
            subst (λ q. Leads items (at_test + 1 + 1) v q (way_of_jump false v)) loops.ends
                (branch_not_taken items (at_test + 1 + 1) k (when c) v loops.jumps (d.defined (when c)) d.when_),
            f,
          )

      turns_led : (m : ℕ) → m ≤ n → (w : Way) → Four w.state → Led items m at_test w end (turns (test_course stack c l r) body m w)
      turns_led zero le w four =
          before items 0 at_test w (at_test + 1) (way_past w) end _ (pass_label items at_test test_label w loops.test_label_is)
          (after_test 0 (λ v. OutOfTurns) (λ v f. record { more = 0; at = at_body; way = v; runs = refl }) (way_past w) four)
      turns_led (suc m) le w four =
          one_turn m at_test test_label w end _ loops.test_label_is
          (after_test m (λ v. then_ (body (way_past v)) (turns (test_course stack c l r) body m))
          (λ v f.
          before items m at_body v (at_body + 1) (way_past v) end _ (pass_label items at_body k v loops.body_label)
          (led_on items m (at_body + 1) (way_past v) at_test end _ _ (fewer items m n (at_body + 1) (way_past v) at_test _ (omega (arith, le)) (loops.turn (way_past v) f))
          (λ u g. turns_led m (omega (arith, le)) u g)))
          (way_past w) four)

  -- an `if` whose arms lead to their ends
  module _ (n stack k at one two mid last : ℕ) (c : Cmp) (l : GeneralReg) (r : Opr) (first second : Way → Course) where
    record Branches : Type 0 where
      compares : slice_get items at ≡ Some (item.Ins (compare l r))
      jumps : slice_get items (at + 1) ≡ Some (item.Jcc (unless c) one)
      first_led : (w : Way) → Four w.state → Led items n (at + 1 + 1) w mid (first w)
      over : slice_get items mid ≡ Some (item.Jmp two)
      label_one : slice_get items (mid + 1) ≡ Some (item.Label one)
      second_led : (w : Way) → Four w.state → Led items n (mid + 1 + 1) w last (second w)
      label_two : slice_get items last ≡ Some (item.Label two)

    arms_led : Branches → (w : Way) → Four w.state → Led items n at w (last + 1) (test_course stack c l r (arms first second) w)
    arms_led b w four = test_led items n at (last + 1) stack c l r (arms first second) w b.compares four by_arm
      where
        by_arm : (x : Bool) (v : Way) → Four v.state → Decided c x v.state → Led items n (at + 1) v (last + 1) (arms first second x v)
        by_arm true v f d =
            before items n (at + 1) v (at + 1 + 1) (way_of_jump false v) (last + 1) _
            (branch_not_taken items (at + 1) one (unless c) v b.jumps (d.defined (unless c)) d.unless_)
            (led_on items n (at + 1 + 1) (way_of_jump false v) mid (last + 1) _ _ (b.first_led (way_of_jump false v) f)
            (λ u g. (
              leads_on items mid u last (way_past u) (last + 1) (way_past (way_past u))
                  (jump items mid two last u b.over (found items differ two last b.label_two))
                  (pass_label items last two (way_past u) b.label_two),
              g,
            )))
        by_arm false v f d =
            before items n (at + 1) v (mid + 1) (way_of_jump true v) (last + 1) _
            (branch_taken items (at + 1) one (mid + 1) (unless c) v b.jumps (d.defined (unless c)) d.unless_ (found items differ one (mid + 1) b.label_one))
            (before items n (mid + 1) (way_of_jump true v) (mid + 1 + 1) (way_past (way_of_jump true v)) (last + 1) _
            (pass_label items (mid + 1) one (way_of_jump true v) b.label_one)
            (led_on items n (mid + 1 + 1) (way_past (way_of_jump true v)) last (last + 1) _ _ (b.second_led (way_past (way_of_jump true v)) f)
            (λ u g. (pass_label items last two u b.label_two, g))))

  guarded_led : (p : Prog) (k at end stack n : ℕ) → Between items at (code_items k p) end → (w : Way) → Four w.state → Led items n at w end (guarded_run stack n p w)
  guarded_led Done k at end stack n h w four = (subst (λ q. Leads items at w q w) h (stays_here items at w), four)
  guarded_led (Step i b p) k at end stack n h w four =
      led_on items n at w (at + 1) end _ (guarded_run stack n p) (step_led items n at stack i b w h.0 four)
      (λ v f. guarded_led p k (at + 1) end stack n h.1 v f)
  guarded_led (If c l r first second p) k at end stack n h w four =
      let one = k + labels first in
      let two = one + 1 + labels second in
      let a = between items (at + 1 + 1) (code_items k first) _ end h.1.1 in
      let b = between items (a.0 + 1 + 1) (code_items (one + 1) second) _ end a.2.1.1 in
      led_on items n at w (b.0 + 1) end _ (guarded_run stack n p)
      (arms_led n stack k at one two a.0 b.0 c l r (guarded_run stack n first) (guarded_run stack n second)
      (record {
        compares = h.0;
        jumps = h.1.0;
        first_led = λ u f. guarded_led first k (at + 1 + 1) a.0 stack n a.1 u f;
        over = a.2.0;
        label_one = a.2.1.0;
        second_led = λ u f. guarded_led second (one + 1) (a.0 + 1 + 1) b.0 stack n b.1 u f;
        label_two = b.2.0;
      })
      w four)
      (λ v f. guarded_led p (two + 1) (b.0 + 1) end stack n b.2.1 v f)
  guarded_led (Loop c l r body p) k at end stack n h w four =
      let test = k + 1 + labels body in
      let b = between items (at + 1 + 1) (code_items (k + 1) body) _ end h.1.1 in
      let last = b.0 + 1 + 1 + 1 in
      led_on items n at w last end _ (guarded_run stack n p)
      (before items n at w b.0 (way_past w) last _ (jump items at test b.0 w h.0 (found items differ test b.0 b.2.0))
      (turns_led n stack k (at + 1) b.0 last test c l r (guarded_run stack n body)
      (record {
        body_label = h.1.0;
        test_label_is = b.2.0;
        compares = b.2.1.0;
        jumps = b.2.1.1.0;
        ends = refl;
        turn = λ u f. guarded_led body (k + 1) (at + 1 + 1) b.0 stack n b.1 u f;
      })
      n (omega arith) (way_past w) four))
      (λ v f. guarded_led p (test + 1) last end stack n b.2.1.1.1 v f)

  -- a run that ended is the same with more steps
  module _ (next further : ℕ → Way → machine.End) (v : Way) (goes : (q : ℕ) (u : Way) → next q u ≡ machine.Ended v → further q u ≡ machine.Ended v) where
    further_on : (x : machine.Step) (w : Way) → follow w x next ≡ machine.Ended v → follow w x further ≡ machine.Ended v
    further_on (machine.GoesOn pos s seen) w h = goes pos _ h
    further_on machine.Ends w h = h
    further_on (machine.Stops f) w h = absurd cc
    further_on machine.Leaves w h = absurd cc

  ended_later : (m d pos : ℕ) (w v : Way) → run items m pos w ≡ machine.Ended v → run items (m + d) pos w ≡ machine.Ended v
  ended_later zero d pos w v h = absurd cc
  ended_later (suc m) d pos w v h =
      ap (λ k. run items k pos w) (let e : suc m + d ≡ suc (m + d) = omega arith in e)
      ∙ further_on (run items m) (run items (m + d)) v (λ q u g. ended_later m d q u v g) (machine.step items pos w.state) w h

  -- where an export stands: its code between its entry and `ret`
  record Placed (pos k : ℕ) (name : List ℕ) (p : Prog) : Type 0 where
    entry : slice_get items pos ≡ Some (item.Entry name)
    last : ℕ
    code : Between items (pos + 1) (code_items k p) last
    ret : slice_get items last ≡ Some item.Ret

  placed : (pos k : ℕ) (name : List ℕ) (p : Prog) → StandAt items pos (export_items k name p) → Placed pos k name p
  placed pos k name p h =
      let e = to_end items pos (export_items k name p) h in
      let b = between items (pos + 1) (code_items k p) (item.Ret ∷ []) e.0 e.1.1 in
      record { entry = e.1.0; last = b.0; code = b.1; ret = b.2.0 }

  module _ (stack k pos : ℕ) (p : Prog) (name : List ℕ) (s : State) (stands : StandAt items pos (export_items k name p)) (ok : IsState s) where
    -- what the guarded run from the start tells of the items behind the entry
    from_entry : (n : ℕ) → Led items n (pos + 1) (later 1 (start s)) (placed pos k name p stands).last (shifted (guarded_run stack n p (start s)))
    from_entry n =
        let at = placed pos k name p stands in
        subst (λ c. Led items n (pos + 1) (later 1 (start s)) at.last c) (guarded_later stack n p (start s))
        (guarded_led p k (pos + 1) at.last stack n at.code (later 1 (start s)) ok.flags)

    pub keeps_ends : (n : ℕ) (v : Way) → guarded_run stack n p (start s) ≡ Ended v → run items (v.steps + 2) pos (start s) ≡ machine.Ended (later 2 v)
    keeps_ends n v h =
        let at = placed pos k name p stands in
        let led = subst (λ c. Led items n (pos + 1) (later 1 (start s)) at.last (shifted c)) h (from_entry n) in
        let all = leads_on items pos (start s) (pos + 1) (later 1 (start s)) at.last (later 1 v) (pass_entry items pos name (start s) at.entry) led.0 in
        let steps = all.steps in
        let count : v.steps + 2 ≡ 1 + all.taking = omega (arith, steps) in
        let two : v.steps + 1 + 1 ≡ v.steps + 2 = omega arith in
        let same : ◌≡◌ {A = Way} (next_way (later 1 v) v.state []) (later 2 v) =
        ap (λ seen. record { state = v.state; seen = seen; steps = v.steps + 1 + 1 }) (append-nil v.seen)
        ∙ ap (λ steps. record { state = v.state; seen = v.seen; steps = steps }) two in
        ap (λ m. run items m pos (start s)) count ∙ all.goes 1
        ∙ ap (λ o. follow (later 1 v) (item_step items o at.last v.state) (run items 0)) at.ret ∙ ap machine.Ended same

    never_both : (w : Way) (q : ℕ) (u : Way) → machine.Ended w ≡ Running q u → ⊥
    never_both w q u h = absurd cc

    pub keeps_conversely : (m : ℕ) (w : Way) → ((n : ℕ) → guarded_run stack n p (start s) ≢ Faulted) → run items m pos (start s) ≡ machine.Ended w → (n : ℕ) × (v : Way) × (guarded_run stack n p (start s) ≡ Ended v)
    keeps_conversely m w never h = by_course (guarded_run stack m p (start s)) refl
      where
        by_course : (c : Course) → guarded_run stack m p (start s) ≡ c → (n : ℕ) × (v : Way) × (guarded_run stack n p (start s) ≡ Ended v)
        by_course (Ended v) e = (m, v, e)
        by_course Faulted e = absurd (never m e)
        by_course OutOfTurns e =
            let at = placed pos k name p stands in
            let still = subst (λ c. Led items m (pos + 1) (later 1 (start s)) at.last (shifted c)) e (from_entry m) in
            let all = before items m pos (start s) (pos + 1) (later 1 (start s)) at.last OutOfTurns (pass_entry items pos name (start s) at.entry) still in
            absurd (never_both w all.at all.way (sym (ended_later m all.more pos (start s) w h) ∙ all.runs))

  pub keeps_meets : (m : Functions) (k pos : ℕ) (p : Prog) (name : List ℕ) (c : Contract) → StandAt items pos (export_items k name p) → CodeMeets m c p → Meets m c items pos
  keeps_meets m k pos p name c stands meets ghosts s ok pre =
      let r = meets ghosts s ok pre in
      (r.1.steps + 2, later 2 r.1, keeps_ends (length c.blocks) k pos p name s stands ok r.0 r.1 r.2, r.3, r.4)
