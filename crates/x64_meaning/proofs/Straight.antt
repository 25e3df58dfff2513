-- Straight code: an assignment makes all its equations true and names its end.
use Rattle.std.proofs.Common.{◌≡◌, ℕ, zero, suc, ◌+◌, ◌<◌, ◌≤◌, ◌^◌, Bool, true, false, not, List, [], ◌∷◌, ◌++◌, length, refl, sym, ap, ◌∙◌, subst, arith, ◌||◌, cond}
use Rattle.std.specs.Prelude.{map, Option, Some, None, is_none, if◌then◌else◌}
use Rattle.std.specs.List.{AllByRecursion, list_all}
use Rattle.std.proofs.lemmas.Bool.{not-true, and_parts, false≢true}
use Rattle.x64_syntax.specs.declared.places.Reg.TheVariants.{Rsp}
use Rattle.x64_syntax.specs.declared.places.FlagName.TheVariants.{Cf, Zf, Sf, Of}
use Rattle.x64_syntax.specs.declared.places.MachinePlace.{MachinePlace}
use Rattle.x64_syntax.specs.declared.places.MachinePlace.TheVariants.{Reg, Flag}
use Rattle.x64_syntax.proofs.PlaceLemmas.{place_eq_is}
use Rattle.x64_syntax.specs.declared.operands.Mem.{Mem}
use Rattle.x64_syntax.specs.declared.instructions.Ins.{Ins}
use Rattle.x64_syntax.specs.declared.instructions.Ins.TheVariants.{Push, Pop}
use Rattle.x64_syntax.specs.Instructions.{or_else, loads_from, stores_to, accesses, halves_differ}
use Rattle.x64_syntax.specs.declared.items.Item.{Item}
use Rattle.x64_syntax.specs.declared.items.Item.TheVariants as item
use Rattle.x64_syntax.specs.declared.type_words.Sort.{Sort}
use Rattle.term_core.specs.Value.{Val, Word, Truth, cast, val_eq, Functions, Assignment, value, Holds, True}
use Rattle.x64_blocks.specs.Memory.{block_at}
use Rattle.x64_meaning.specs.State.{State, IsState, place_sort, read, reg}
use Rattle.x64_meaning.specs.Exp.{Exp, no_words, exp_value, exp_term, among}
use Rattle.x64_meaning.specs.Table.{Equation, equations, writes, reads, apply, in_order}
use Rattle.x64_meaning.specs.Run.{access, operand_access, after_stack, first_undefined, with_access, with_flags, does, Done, Way, start, next_way, Ended, follow, ins_step, item_step, run, StandAt}
use Rattle.x64_syntax.specs.Places.{place_eq, place_name}
use Rattle.x64_syntax.specs.Instructions.{is_among}
use Rattle.term_core.specs.Terms.{Name}
use Rattle.x64_meaning.specs.Contract.{Contract, entry_name, seen, saved_places, extent, Post, Frame, Meets, SameRuns}
use Rattle.x64_meaning.specs.Condition.{no_terms, no_functions, uses_stack, Versions, version, version_name, next_versions, hypothesis, hypotheses, end_versions, first_versions, straight_hyps, straight_goal, is_plain, keeps_place, straight_items, Worth, contract_term, StraightFits, Names, IsNamed}
use Rattle.term_core.proofs.Values.{val_eq_same}
use Rattle.x64_meaning.proofs.Reading.{read-sorted}
use Rattle.x64_meaning.proofs.Standing.{stands_behind}
use Rattle.x64_meaning.proofs.Exps.{exp_term-value, exp_value-same, exp_value-all}
use Rattle.x64_meaning.proofs.Apply.{apply-other, apply-IsState, apply-blocks, apply-equations, Equal, order_of, places, among_head, among_tail}
use Rattle.x64_meaning.proofs.Ordered.{equations-in_order}
use Rattle.x64_meaning.proofs.Named.{read_now, read_at_entry}
use Rattle.x64_meaning.proofs.Names.{place_in, version_in, place_in-version_name, version_in-version_name}

-- the state after an instruction that loads nothing
abbrev next : State → Ins → State
next s i = apply s no_words (equations i) s

-- the state after straight code
abbrev pub end_of : State → List Ins → State
end_of s [] = s
end_of s (i ∷ is) = end_of (next s i) is

next-IsState : (s : State) (i : Ins) → IsState s → IsState (next s i)
next-IsState s i ok = apply-IsState s no_words (equations i) s ok

-- what a place holds at the version that comes so many writes later
value_at : List Ins → State → MachinePlace → ℕ → Val
value_at [] s p k = read s p
value_at (i ∷ is) s p zero = read s p
value_at (i ∷ is) s p (suc k) = if among (writes i) p then value_at is (next s i) p k else value_at is (next s i) p (suc k)

value_at-zero : (is : List Ins) (s : State) (p : MachinePlace) → value_at is s p 0 ≡ read s p
unfolding value_at
value_at-zero [] s p = refl
value_at-zero (i ∷ is) s p = refl

chosen_sorted : (s : Sort) (b : Bool) (v w : Val) → cast s v ≡ v → cast s w ≡ w → cast s (cond b v w) ≡ cond b v w
chosen_sorted s true v w h k = h
chosen_sorted s false v w h k = k

value_at-sorted : (is : List Ins) (s : State) (p : MachinePlace) (k : ℕ) → IsState s → cast (place_sort p) (value_at is s p k) ≡ value_at is s p k
unfolding value_at
value_at-sorted [] s p k ok = read-sorted s p ok
value_at-sorted (i ∷ is) s p zero ok = read-sorted s p ok
value_at-sorted (i ∷ is) s p (suc k) ok =
    let ok' = next-IsState s i ok in
    chosen_sorted (place_sort p) (among (writes i) p) _ _ (value_at-sorted is (next s i) p k ok') (value_at-sorted is (next s i) p (suc k) ok')

-- the assignment gives the versions the values of a run of the code
record Follows (a : Assignment) (v : Versions) (is : List Ins) (s : State) : Type 0 where
  names : (p : MachinePlace) (j : ℕ) → j ≤ length is → value no_functions a (version p (v p + j)) ≡ value_at is s p j

follows-next : (a : Assignment) (v : Versions) (i : Ins) (is : List Ins) (s : State) → Follows a v (i ∷ is) s → Follows a (next_versions v (writes i)) is (next s i)
unfolding value_at
follows-next a v i is s f = record { names = λ p j le. either p j le (among (writes i) p) refl }
  where
    either : (p : MachinePlace) (j : ℕ) → j ≤ length is → (b : Bool) → among (writes i) p ≡ b → value no_functions a (version p (cond b (v p + 1) (v p) + j)) ≡ value_at is (next s i) p j
    either p j le true w =
        let e : v p + 1 + j ≡ v p + suc j = omega arith in
        ap (λ n. value no_functions a (version p n)) e ∙ f.names p (suc j) (omega arith) ∙ ap (λ b. cond b (value_at is (next s i) p j) (value_at is (next s i) p (suc j))) w
    either p zero le false w =
        f.names p 0 (omega arith) ∙ sym (apply-other s no_words (equations i) s p w) ∙ sym (value_at-zero is (next s i) p)
    either p (suc j) le false w =
        f.names p (suc j) (omega arith) ∙ ap (λ b. cond b (value_at is (next s i) p j) (value_at is (next s i) p (suc j))) w

-- the present versions and the next ones
follows-now : (a : Assignment) (v : Versions) (is : List Ins) (s : State) → Follows a v is s → (p : MachinePlace) → value no_functions a (version p (v p)) ≡ read s p
follows-now a v is s f p =
    let e : v p ≡ v p + 0 = omega arith in
    ap (λ n. value no_functions a (version p n)) e ∙ f.names p 0 (omega arith) ∙ value_at-zero is s p

follows-written : (a : Assignment) (v : Versions) (i : Ins) (is : List Ins) (s : State) → Follows a v (i ∷ is) s → (p : MachinePlace) → among (writes i) p ≡ true → value no_functions a (version p (v p + 1)) ≡ read (next s i) p
unfolding value_at
follows-written a v i is s f p w =
    f.names p 1 (omega arith) ∙ ap (λ b. cond b (value_at is (next s i) p 0) (value_at is (next s i) p 1)) w ∙ value_at-zero is (next s i) p

equal_holds : (v w : Val) → v ≡ w → Truth (val_eq v w) ≡ Truth true
equal_holds v w h = ap Truth (ap (val_eq v) (sym h) ∙ val_eq_same v)

-- the equations of one instruction hold under an assignment that follows a run
equations_hold : (a : Assignment) (v : Versions) (s t : State) → ((p : MachinePlace) → value no_functions a (version p (v p)) ≡ read s p) → (done : List MachinePlace) (es : List Equation) → in_order done es ≡ true → ((p : MachinePlace) → among done p ≡ true → value no_functions a (version p (v p + 1)) ≡ read t p) → ((p : MachinePlace) → among (places es) p ≡ true → value no_functions a (version p (v p + 1)) ≡ read t p) → AllByRecursion (Equal (read s) (read t) no_words) es → AllByRecursion (Holds no_functions a) (map (hypothesis v) es)
equations_hold a v s t now done [] h in_done in_es eq = tt
equations_hold a v s t now done (e ∷ es) h in_done in_es eq =
    let o = order_of done e es h in
    let term = exp_term-value (λ p. version p (v p)) (λ p. version p (v p + 1)) no_terms (λ p. refl) (λ p. refl) (λ k. refl) no_functions a e.right in
    let same = exp_value-same (λ p. value no_functions a (version p (v p))) (read s) (λ p. value no_functions a (version p (v p + 1))) (read t) no_words done now in_done e.right o.taken in
    let right : value no_functions a (exp_term (λ p. version p (v p)) (λ p. version p (v p + 1)) no_terms e.right) ≡ exp_value (read s) (read t) no_words e.right = term ∙ same in (
      equal_holds _ _ (in_es e.place (among_head (places es) e.place) ∙ eq.0 ∙ sym right),
      equations_hold a v s t now (e.place ∷ done) es o.rest (either e.place done in_done (in_es e.place (among_head (places es) e.place))) (λ p d. in_es p (among_tail (places es) p e.place d)) eq.1,
    )
  where
    either : (q : MachinePlace) (ps : List MachinePlace) → ((p : MachinePlace) → among ps p ≡ true → value no_functions a (version p (v p + 1)) ≡ read t p) → value no_functions a (version q (v q + 1)) ≡ read t q → (p : MachinePlace) → among (q ∷ ps) p ≡ true → value no_functions a (version p (v p + 1)) ≡ read t p
    either q ps rest here p d = by_test (place_eq p q) refl d
      where
        by_test : (b : Bool) → place_eq p q ≡ b → (b || among ps p) ≡ true → value no_functions a (version p (v p + 1)) ≡ read t p
        by_test true e d = subst (λ r. value no_functions a (version r (v r + 1)) ≡ read t r) (sym (place_eq_is p q e)) here
        by_test false e d = rest p d

all_append : {A : Type 0} (P : A → Type 0) (xs ys : List A) → AllByRecursion P xs → AllByRecursion P ys → AllByRecursion P (xs ++ ys)
all_append P [] ys h k = k
all_append P (x ∷ xs) ys h k = (h.0, all_append P xs ys h.1 k)

plain_halves : (i : Ins) → is_plain i ≡ true → halves_differ i ≡ true
plain_halves i h =
    let p4 = and_parts _ _ h in
    let p3 = and_parts _ _ p4.0 in
    let p2 = and_parts _ _ p3.0 in
    let p1 = and_parts _ _ p2.0 in
    (and_parts (halves_differ i) _ p1.0).0

-- all equations hold under it
hypotheses_hold : (a : Assignment) (v : Versions) (is : List Ins) (s : State) → IsState s → list_all is_plain is ≡ true → Follows a v is s → AllByRecursion (Holds no_functions a) (hypotheses v is)
hypotheses_hold a v [] s ok plain f = tt
hypotheses_hold a v (i ∷ is) s ok plain f =
    let p = and_parts (is_plain i) (list_all is_plain is) plain in
    let ordered = equations-in_order i (plain_halves i p.0) in
    all_append (Holds no_functions a) (map (hypothesis v) (equations i)) (hypotheses (next_versions v (writes i)) is)
    (equations_hold a v s (next s i) (follows-now a v (i ∷ is) s f) [] (equations i) ordered
    (λ p d. absurd (false≢true d)) (follows-written a v i is s f)
    (apply-equations s no_words ok (λ k. refl) [] (equations i) s ok ordered))
    (hypotheses_hold a (next_versions v (writes i)) is (next s i) (next-IsState s i ok) p.1 (follows-next a v i is s f))

-- it names the end
follows_end : (a : Assignment) (v : Versions) (is : List Ins) (s : State) → Follows a v is s → (p : MachinePlace) → value no_functions a (version p (end_versions v is p)) ≡ read (end_of s is) p
follows_end a v [] s f p = follows-now a v [] s f p
follows_end a v (i ∷ is) s f p = follows_end a (next_versions v (writes i)) is (next s i) (follows-next a v i is s f) p

-- the assignment of a run
assignment : List Ins → State → Assignment
assignment is s name sort = value_at is s (place_in name) (version_in name)

assignment-follows : (is : List Ins) (s : State) → IsState s → length is < 2 ^ 64 → Follows (assignment is s) first_versions is s
unfolding assignment
assignment-follows is s ok small = record { names = λ p j le. name p j le }
  where
    name : (p : MachinePlace) (j : ℕ) → j ≤ length is → value no_functions (assignment is s) (version p (first_versions p + j)) ≡ value_at is s p j
    name p j le =
        let e : first_versions p + j ≡ j = omega arith in
        ap (λ n. value no_functions (assignment is s) (version p n)) e
        ∙ ap (λ q. cast (place_sort p) (value_at is s q (version_in (version_name p j)))) (place_in-version_name p j)
        ∙ ap (λ k. cast (place_sort p) (value_at is s p k)) (version_in-version_name p j (omega arith))
        ∙ value_at-sorted is s p j ok

-- What follows from the equations is true of a run.
goal_true : (is : List Ins) (e : Exp) (s : State) → IsState s → list_all is_plain is ≡ true → length is < 2 ^ 64 → True no_functions (straight_hyps is) (straight_goal is e) → Worth (read s) (read (end_of s is)) e
goal_true is e s ok plain small h =
    let a = assignment is s in
    let f = assignment-follows is s ok small in
    let first : (p : MachinePlace) → value no_functions a (version p 0) ≡ read s p = follows-now a first_versions is s f in
    let last : (p : MachinePlace) → value no_functions a (version p (end_versions first_versions is p)) ≡ read (end_of s is) p = follows_end a first_versions is s f in
    let term = exp_term-value (λ p. version p 0) (λ p. version p (end_versions first_versions is p)) no_terms (λ p. refl) (λ p. refl) (λ k. refl) no_functions a e in
    let holds = h a (hypotheses_hold a first_versions is s ok plain f) in
    sym (exp_value-all _ _ _ _ no_words first last e) ∙ sym term ∙ holds

-- what a plain instruction does
no_access : (o p : Option Mem) → is_none (or_else o p) ≡ true → (o ≡ None) × (p ≡ None)
no_access None None h = (refl, refl)
no_access None (Some m) h = absurd (false≢true h)
no_access (Some m) p h = absurd (false≢true h)

operand_alone : (s : State) (i : Ins) → uses_stack i ≡ false → access s i ≡ operand_access s i (loads_from i) (stores_to i)
operand_alone s (Push r) h = absurd (false≢true (sym h))
operand_alone s (Pop d) h = absurd (false≢true (sym h))
operand_alone s _ h = refl

not_moved : (i : Ins) (s : State) → uses_stack i ≡ false → after_stack i s ≡ s
not_moved (Push r) s h = absurd (false≢true (sym h))
not_moved (Pop d) s h = absurd (false≢true (sym h))
not_moved _ s h = refl

-- no flag is read that is undefined
plain_does : (i : Ins) (s : State) → is_plain i ≡ true → does i s ≡ Done (next s i) []
plain_does i s h =
    let p4 = and_parts _ _ h in
    let p3 = and_parts _ _ p4.0 in
    let p2 = and_parts _ _ p3.0 in
    let p1 = and_parts _ _ p2.0 in
    let p0 = and_parts _ _ p1.0 in
    let stack = not-true (uses_stack i) (and_parts (is_none (accesses i)) _ p0.1).1 in
    let none = no_access (loads_from i) (stores_to i) (and_parts (is_none (accesses i)) _ p0.1).0 in
    let cf : reads i (Flag Cf) ≡ false = not-true _ p1.1 in
    let zf : reads i (Flag Zf) ≡ false = not-true _ p2.1 in
    let sf : reads i (Flag Sf) ≡ false = not-true _ p3.1 in
    let of : reads i (Flag Of) ≡ false = not-true _ p4.1 in
    let flags : first_undefined (λ f. reads i (Flag f)) s ≡ None = rw (cf, zf, sf, of) refl in
    ap (with_flags s i) flags
    ∙ ap (with_access s i) (operand_alone s i stack ∙ ap (λ o. operand_access s i o (stores_to i)) none.0 ∙ ap (operand_access s i None) none.1)
    ∙ ap (λ t. Done t []) (not_moved i (next s i) stack)

-- straight code runs to its end
run_straight : (items : List Item) (is : List Ins) (at : ℕ) (w : Way) → list_all is_plain is ≡ true → StandAt items at (map item.Ins is ++ item.Ret ∷ []) → (n : ℕ) × (w' : Way) × (run items n at w ≡ Ended w') × (w'.state ≡ end_of w.state is)
run_straight items [] at w plain has = (1, next_way w w.state [], ap (λ o. follow w (item_step items o at w.state) (run items 0)) has.0, refl)
run_straight items (i ∷ is) at w plain has =
    let p = and_parts (is_plain i) (list_all is_plain is) plain in
    let w1 = next_way w (next w.state i) [] in
    let rest = run_straight items is (at + 1) w1 p.1 has.1 in
    let step : run items (suc rest.0) at w ≡ run items rest.0 (at + 1) w1 =
    ap (λ o. follow w (item_step items o at w.state) (run items rest.0)) has.0 ∙ ap (λ d. follow w (ins_step d at) (run items rest.0)) (plain_does i w.state p.0) in
    (suc rest.0, rest.1, step ∙ rest.2, rest.3)

-- a place that isn't written is as it was
unwritten_same : (is : List Ins) (s : State) (p : MachinePlace) → keeps_place is p ≡ true → read (end_of s is) p ≡ read s p
unwritten_same [] s p h = refl
unwritten_same (i ∷ is) s p h =
    let b = and_parts (not (among (writes i) p)) (keeps_place is p) h in
    unwritten_same is (next s i) p b.1 ∙ apply-other s no_words (equations i) s p (not-true _ b.0)

blocks_same : (is : List Ins) (s : State) → (end_of s is).blocks ≡ s.blocks
blocks_same [] s = refl
blocks_same (i ∷ is) s = blocks_same is (next s i) ∙ apply-blocks s no_words (equations i) s

end-IsState : (is : List Ins) (s : State) → IsState s → IsState (end_of s is)
end-IsState [] s ok = ok
end-IsState (i ∷ is) s ok = end-IsState is (next s i) (next-IsState s i ok)

word_same : (m n : ℕ) → Word m ≡ Word n → m ≡ n
word_same m n h = cc

-- a contract's term of an expression that is true holds
holds_as_worth : (m : Functions) (c : Contract) (ghosts : Assignment) (s t : State) → IsState s → IsState t → (e : Exp) → Worth (read s) (read t) e → Holds m (seen c ghosts s t) (contract_term e)
holds_as_worth m c ghosts s t oks okt e worth =
    let a = seen c ghosts s t in
    let term = exp_term-value (λ p. Name (entry_name (place_name p)) (place_sort p)) (λ p. Name (place_name p) (place_sort p)) no_terms (λ p. refl) (λ p. refl) (λ k. refl) m a e in
    term ∙ exp_value-all _ _ _ _ no_words (λ p. read_at_entry m c ghosts s t p oks) (λ p. read_now m c ghosts s t p okt) e ∙ worth

promises_hold : (m : Functions) (c : Contract) (ghosts : Assignment) (es : List Exp) (is : List Ins) (s : State) → IsState s → list_all is_plain is ≡ true → length is < 2 ^ 64 → AllByRecursion (λ e. True no_functions (straight_hyps is) (straight_goal is e)) es → AllByRecursion (Holds m (seen c ghosts s (end_of s is))) (map contract_term es)
promises_hold m c ghosts [] is s ok plain small h = tt
promises_hold m c ghosts (e ∷ es) is s ok plain small h = (
  holds_as_worth m c ghosts s (end_of s is) ok (end-IsState is s ok) e (goal_true is e s ok plain small h.0),
  promises_hold m c ghosts es is s ok plain small h.1,
)

pub straight_named : (name : List ℕ) (is : List Ins) → list_all is_plain is ≡ true → length is < 2 ^ 64 → IsNamed is (straight_items name is) 0
straight_named name is plain small s ok =
    let has = stands_behind (item.Entry name ∷ []) (map item.Ins is ++ item.Ret ∷ []) in
    let r = run_straight (straight_items name is) is 1 (next_way (start s) s []) plain has in
    let f = assignment-follows is s ok small in
    let names : Names is s (end_of s is) = record {
      assignment = assignment is s;
      holds = hypotheses_hold (assignment is s) first_versions is s ok plain f;
      first = follows-now (assignment is s) first_versions is s f;
      last = follows_end (assignment is s) first_versions is s f;
    } in
    (suc r.0, r.1, r.2, subst (Names is s) (sym r.3) names)

pub straight_meets : (m : Functions) (name : List ℕ) (is : List Ins) (c : Contract) → StraightFits is c → Meets m c (straight_items name is) 0
straight_meets m name is c fits ghosts s ok pre =
    let items = straight_items name is in
    let t = end_of s is in
    let w0 = next_way (start s) s [] in
    let body = map item.Ins is ++ item.Ret ∷ [] in
    let has = stands_behind (item.Entry name ∷ []) body in
    let r = run_straight items is 1 w0 fits.plain has in
    let same : r.1.state ≡ t = r.3 in
    let entry : run items (suc r.0) 0 (start s) ≡ run items r.0 1 w0 = refl in
    let promises = promises_hold m c ghosts fits.promises is s ok fits.plain fits.short fits.proved in
    let holds = subst (AllByRecursion (Holds m (seen c ghosts s t))) (sym fits.promised) promises in
    let places : (p : MachinePlace) → c.modifies p ≡ false → read t p ≡ read s p = λ p h. unwritten_same is s p (fits.declared p h) in
    let rsp : reg t Rsp ≡ reg s Rsp = word_same _ _ (places (Reg Rsp) fits.rsp) in
    let none : saved_places c.abi ≡ [] = ap saved_places fits.abi in
    let saved : (p : MachinePlace) → is_among (saved_places c.abi) p ≡ true → read t p ≡ read s p = λ p h. absurd (false≢true (subst (λ ps. is_among ps p ≡ true) none h)) in
    let post : Post m c ghosts s t = record { holds = holds; rsp = rsp; saved = saved } in
    let blocks = blocks_same is s in
    let frame : Frame c s t = record {
      extents = ap (map extent) blocks;
      places = places;
      contents = λ k h. ap (λ bs. (block_at bs k).bytes) blocks;
    } in
    (suc r.0, r.1, entry ∙ r.2, subst (Post m c ghosts s) (sym same) post, subst (Frame c s) (sym same) frame)

ended_is : (v w : Way) → Ended v ≡ Ended w → v ≡ w
ended_is v w h = cc

-- what is alike of two runs: the steps that they made, and what was seen
record Alike (v w : Way) : Type 0 where
  steps : w.steps ≡ v.steps
  seen : w.seen ≡ v.seen

one_more : (v w : Way) (s t : State) → Alike v w → Alike (next_way v s []) (next_way w t [])
one_more v w s t a = record { steps = ap (λ n. n + 1) a.steps; seen = ap (λ l. l ++ []) a.seen }

alike_runs : (items : List Item) (is : List Ins) (at n : ℕ) (v w v' : Way) → list_all is_plain is ≡ true → StandAt items at (map item.Ins is ++ item.Ret ∷ []) → Alike v w → run items n at v ≡ Ended v' → (w' : Way) × (run items n at w ≡ Ended w') × Alike v' w'
alike_runs items is at zero v w v' plain has a h = absurd cc
alike_runs items [] at (suc n) v w v' plain has a h =
    let ends : (u : Way) → run items (suc n) at u ≡ Ended (next_way u u.state []) = λ u. ap (λ o. follow u (item_step items o at u.state) (run items n)) has.0 in
    let same = ended_is _ _ (sym (ends v) ∙ h) in
    (next_way w w.state [], ends w, subst (λ u. Alike u (next_way w w.state [])) same (one_more v w v.state w.state a))
alike_runs items (i ∷ is) at (suc n) v w v' plain has a h =
    let p = and_parts (is_plain i) (list_all is_plain is) plain in
    let goes_on : (u : Way) → run items (suc n) at u ≡ run items n (at + 1) (next_way u (next u.state i) []) = λ u.
    ap (λ o. follow u (item_step items o at u.state) (run items n)) has.0 ∙ ap (λ d. follow u (ins_step d at) (run items n)) (plain_does i u.state p.0) in
    let rest = alike_runs items is (at + 1) n (next_way v (next v.state i) []) (next_way w (next w.state i) []) v' p.1 has.1 (one_more v w (next v.state i) (next w.state i) a) (sym (goes_on v) ∙ h) in
    (rest.0, goes_on w ∙ rest.1, rest.2)

pub straight_runs : (m : Functions) (name : List ℕ) (is : List Ins) (c : Contract) → StraightFits is c → SameRuns m c (straight_items name is) 0
straight_runs m name is c fits g k s t oks okt pres pret agree zero v h = absurd cc
straight_runs m name is c fits g k s t oks okt pres pret agree (suc n) v h =
    let items = straight_items name is in
    let has = stands_behind (item.Entry name ∷ []) (map item.Ins is ++ item.Ret ∷ []) in
    let begun : Alike (next_way (start s) s []) (next_way (start t) t []) = record { steps = refl; seen = refl } in
    let r = alike_runs items is 1 n (next_way (start s) s []) (next_way (start t) t []) v fits.plain has begun h in
    (r.0, r.1, r.2.steps, r.2.seen)
