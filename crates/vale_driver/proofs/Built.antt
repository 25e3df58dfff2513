-- What is built meets its contract and reads as its code.
use Rattle.std.proofs.Common.{◌≡◌, ℕ, ◌-◌, ◌^◌, ◌<◌, ℤ, pos, negsuc, ◌≤ℤ◌, ◌<ℤ◌, None, Bool, true, false, not, List, [], ◌∷◌, ◌++◌, map, Option, length, refl, sym, ap, ◌∙◌, subst, arith}
use Rattle.std.specs.Prelude.{◌||◌, IfSome, Some, is_ok, option_and_then}
use Rattle.std.specs.List.{list_all, AllByRecursion}
use Rattle.std.proofs.lemmas.Bool.{and_from, false≢true, lt-ltb, not_from_false}
use Rattle.std.proofs.lemmas.List.{append-nil}
use Rattle.std.proofs.lemmas.Int.{ints}
use Rattle.x64_syntax.specs.declared.places.Reg.{Reg as GeneralReg}
use Rattle.x64_syntax.specs.declared.places.Reg.TheVariants.{Rsp}
use Rattle.x64_syntax.specs.declared.places.FlagName.{FlagName}
use Rattle.x64_syntax.specs.declared.places.MachinePlace.{MachinePlace}
use Rattle.x64_syntax.specs.declared.places.MachinePlace.TheVariants.{Reg, Xmm, Flag}
use Rattle.x64_syntax.specs.declared.operands.Opr.TheVariants.{R, Imm, M}
use Rattle.x64_syntax.specs.declared.instructions.AluOp.TheVariants.{Add}
use Rattle.x64_syntax.specs.declared.instructions.Ins.{Ins}
use Rattle.x64_syntax.specs.declared.instructions.Ins.TheVariants.{Mov, Alu}
use Rattle.x64_syntax.specs.declared.items.Item.TheVariants as item
use Rattle.x64_syntax.specs.Instructions.{form_of, accesses}
use Rattle.x64_syntax.specs.declared.code.Node.{Node-F, fold-roll-Node}
use Rattle.x64_syntax.specs.declared.code.Node.TheVariants as node
use Rattle.x64_syntax.specs.Code.{Prog, Step, has_block, are_forms, nodes, slots_after, none_left, slots}
use Rattle.x64_syntax.specs.inner.Nodes.{prog, node_tree, node_layer}
use Rattle.x64_syntax.specs.Programs.{program_ok}
use Rattle.x64_syntax.specs.Places.{reg_eq}
use Rattle.x64_syntax.proofs.PlaceLemmas.{reg_eq_is}
use Rattle.x64_meaning.specs.Condition.{no_functions, is_plain, keeps_place, straight_items, StraightFits}
use Rattle.x64_meaning.specs.Contract.{Meets, SameRuns}
use Rattle.x64_meaning.specs.Exp.{among}
use Rattle.x64_meaning.specs.Table.{writes}
use Rattle.x64_meaning.proofs.Straight.{straight_meets, straight_runs}
use Rattle.code_lower.specs.Lowered.{labels, code_items, export_items}
use Rattle.code_lower.specs.Keeps.{AreExports}
use Rattle.code_lower.proofs.Program.{is_program}
use Rattle.gas_text.specs.Gas.{gas_text}
use Rattle.gas_text.specs.Text.{ReadsAs}
use Rattle.asm_lines.proofs.Assembled.{size, around_zero}
use Rattle.gas_text.proofs.Once.{one_list}
use Rattle.straight_line.specs.declared.form.StraightLine.{StraightLine}
use Rattle.straight_line.specs.Form.{has}
use Rattle.straight_line.specs.inner.Fits.{IsInstruction, IsStraight}
use Rattle.vale_driver.specs.Certificate.{Pair, Proves}
use Rattle.vale_driver.specs.Ring.{ring_closes}
use Rattle.vale_driver.specs.inner.ConditionTerms.{is_built}
use Rattle.vale_driver.specs.Build.{promise_exp, contract_of, changes_place, condition_hyps, condition_goal, straight_code, exports_of, lowered_code}
use Rattle.vale_driver.specs.Words.{BuildWords}
use Rattle.vale_driver.specs.Builds.{BuildFiles, BuildHolds, Accepted, IsBuilt}
use Rattle.vale_driver.specs.inner.Stops.{SourcesSpell, FileHolds}
use Rattle.vale_driver.proofs.RingSound.{ring_sound}

module _ (rs : List GeneralReg) where
  plain : (i : Ins) → IsInstruction rs i → is_plain i ≡ true
  plain (Mov d (R s)) h = refl
  plain (Mov d (Imm z)) h = refl
  plain (Mov d (M m)) h = absurd h.1
  plain (Alu Add d (R s)) h = refl
  plain (Alu Add d (Imm z)) h = refl
  plain (Alu Add d (M m)) h = absurd h.1
  plain _ h = absurd h

  has_condition : (i : Ins) → IsInstruction rs i → is_built i ≡ true
  has_condition (Mov d s) h = refl
  has_condition (Alu Add d s) h = refl
  has_condition _ h = absurd h

  pub all_have_conditions : (is : List Ins) → AllByRecursion (IsInstruction rs) is → list_all is_built is ≡ true
  all_have_conditions [] h = refl
  all_have_conditions (i ∷ is) h = and_from _ _ (has_condition i h.0) (all_have_conditions is h.1)

  pub all_plain : (is : List Ins) → AllByRecursion (IsInstruction rs) is → list_all is_plain is ≡ true
  all_plain [] h = refl
  all_plain (i ∷ is) h = and_from _ _ (plain i h.0) (all_plain is h.1)

  -- a register of the list isn't one that isn't
  told_apart : (d q : GeneralReg) → has rs d ≡ true → has rs q ≡ false → reg_eq q d ≡ false
  told_apart d q h k = by_test (reg_eq q d) refl where
    by_test : (b : Bool) → reg_eq q d ≡ b → b ≡ false
    by_test true e = absurd (false≢true (sym k ∙ ap (has rs) (reg_eq_is q d e) ∙ h))
    by_test false e = refl

  -- no place that isn't declared is written
  unwritten_by : (i : Ins) (q : MachinePlace) → IsInstruction rs i → (c : MachinePlace → Bool) → ((r : GeneralReg) → c (Reg r) ≡ has rs r) → ((f : FlagName) → c (Flag f) ≡ true) → c q ≡ false → not (among (writes i) q) ≡ true
  unwritten_by (Mov d s) (Reg r) h c cr cf out = not_from_false _ (ap (λ b. b || false) (told_apart d r h.0 (sym (cr r) ∙ out)))
  unwritten_by (Mov d s) (Xmm x) h c cr cf out = refl
  unwritten_by (Mov d s) (Flag f) h c cr cf out = refl
  unwritten_by (Alu Add d s) (Reg r) h c cr cf out = not_from_false _ (ap (λ b. b || false) (told_apart d r h.0 (sym (cr r) ∙ out)))
  unwritten_by (Alu Add d s) (Xmm x) h c cr cf out = refl
  unwritten_by (Alu Add d s) (Flag f) h c cr cf out = absurd (false≢true (sym out ∙ cf f))
  unwritten_by _ q h c cr cf out = absurd h

  constant : (n : ℕ) (z : ℤ) → 0 < n → negsuc (n - 1) ≤ℤ z → z <ℤ pos n → size z < n
  constant n (pos m) some low high = omega (arith, ints, some)
  constant n (negsuc m) some low high = omega (arith, ints, some)

  -- each instruction is one of the machine's
  formed : (i : Ins) → has rs Rsp ≡ false → IsInstruction rs i → is_ok (form_of i) ≡ true
  formed (Mov d (R s)) k h = rw (told_apart s Rsp h.1 k, told_apart d Rsp h.0 k) refl
  formed (Mov d (Imm z)) k h = rw (around_zero (2 ^ 63) z (constant (2 ^ 63) z (omega arith) h.1.0 h.1.1), told_apart d Rsp h.0 k) refl
  formed (Mov d (M m)) k h = absurd h.1
  formed (Alu Add d (R s)) k h = rw (told_apart s Rsp h.1 k, told_apart d Rsp h.0 k) refl
  formed (Alu Add d (Imm z)) k h = rw (around_zero (2 ^ 31) z (constant (2 ^ 31) z (omega arith) h.1.0 h.1.1), told_apart d Rsp h.0 k) refl
  formed (Alu Add d (M m)) k h = absurd h.1
  formed _ k h = absurd h

  -- their code is the machine's
  forms : (is : List Ins) → has rs Rsp ≡ false → AllByRecursion (IsInstruction rs) is → are_forms (straight_code is) ≡ true
  forms [] k h = refl
  forms (i ∷ is) k h = and_from _ _ (and_from _ _ (formed i k h.0) (no_block i h.0)) (forms is k h.1)
    where
      no_block : (i : Ins) → IsInstruction rs i → has_block None (accesses i) ≡ true
      no_block (Mov d (R s)) h = refl
      no_block (Mov d (Imm z)) h = refl
      no_block (Mov d (M m)) h = absurd h.1
      no_block (Alu Add d (R s)) h = refl
      no_block (Alu Add d (Imm z)) h = refl
      no_block (Alu Add d (M m)) h = absurd h.1
      no_block _ h = absurd h

  no_slots : (is : List Ins) → AllByRecursion (IsInstruction rs) is → slots (straight_code is) 0 ≡ Some 0
  no_slots [] h = refl
  no_slots (i ∷ is) h = ap (λ o. option_and_then (slots (straight_code is)) o) (none_pushed i h.0) ∙ no_slots is h.1
    where
      none_pushed : (i : Ins) → IsInstruction rs i → slots_after i 0 ≡ Some 0
      none_pushed (Mov d s) h = refl
      none_pushed (Alu Add d s) h = refl
      none_pushed _ h = absurd h

-- as many nodes as instructions, and no labels
node_count : (is : List Ins) → nodes (straight_code is) ≡ length is
node_count [] = refl
node_count (i ∷ is) = let e = node_count is in omega (arith, e)

pub no_labels : (is : List Ins) → labels (straight_code is) ≡ 0
no_labels [] = refl
no_labels (i ∷ is) = no_labels is

pub code_is : (k : ℕ) (is : List Ins) → code_items k (straight_code is) ≡ map item.Ins is
code_is k [] = refl
code_is k (i ∷ is) = ap (λ l. item.Ins i ∷ l) (code_is k is)

-- the code of nodes that are instructions without a block
pub nodes_are : (is : List Ins) → prog (map (λ i. node.Ins i None) is) ≡ straight_code is
nodes_are [] = refl
nodes_are (i ∷ is) =
    ap (λ n. node_tree n (prog (map (λ j. node.Ins j None) is))) (sym (node.rolls-Ins i None))
    ∙ ap (λ f. f (prog (map (λ j. node.Ins j None) is))) (fold-roll-Node (Prog → Prog) node_layer (Node-F.Ins i None))
    ∙ ap (Step i None) (nodes_are is)

-- straight code as it is lowered
pub straight_lowered : (p : StraightLine) → lowered_code p ≡ straight_items p.export p.instructions
straight_lowered p =
    append-nil (export_items 0 p.export (straight_code p.instructions))
    ∙ ap (λ l. item.Entry p.export ∷ (l ++ item.Ret ∷ [])) (code_is 0 p.instructions)

declared : (p : StraightLine) (is : List Ins) (q : MachinePlace) → AllByRecursion (IsInstruction p.registers) is → changes_place p q ≡ false → keeps_place is q ≡ true
declared p [] q h out = refl
declared p (i ∷ is) q h out = and_from _ _ (unwritten_by p.registers i q h.0 (changes_place p) (λ r. refl) (λ f. refl) out) (declared p is q h.1 out)

fits : (p : StraightLine) (ps : List Pair) → IsStraight p → ring_closes (condition_hyps p) (condition_goal p) ps ≡ true → StraightFits p.instructions (contract_of p)
fits p ps ok closes = record {
  plain = all_plain p.registers p.instructions ok.each;
  short = omega (arith, ok.few);
  declared = λ q out. declared p p.instructions q ok.each out;
  rsp = ok.rsp;
  abi = refl;
  promises = promise_exp p.promise ∷ [];
  promised = refl;
  proved = ((λ a holds. ring_sound no_functions a (condition_hyps p) (condition_goal p) ps closes holds), tt);
}

exports : (p : StraightLine) → IsStraight p → AreExports (exports_of p)
exports p ok =
    let few = ok.few in
    let count = node_count p.instructions in
    let none = no_labels p.instructions in
    let small = lt-ltb (nodes (straight_code p.instructions)) (2 ^ 32) (omega (arith, count, few)) in
    let pushed = ap none_left (no_slots p.registers p.instructions ok.each) in
    record {
      names = and_from _ _ ok.export refl;
      differ = refl;
      codes = and_from _ _ (and_from _ _ (forms p.registers p.instructions ok.rsp ok.each) (and_from _ _ small pushed)) refl;
      few = omega (arith, none);
    }

pub program : (p : StraightLine) → IsStraight p → program_ok (lowered_code p) ≡ true
program p ok = is_program (exports_of p) (exports p ok)

pub built : (tells : List ℕ → Option (List ℕ)) (b : BuildWords) (h : BuildFiles) (p : StraightLine) (ps : List Pair) (text : List ℕ) → IsStraight p → BuildHolds tells b h → Accepted b h p ps → text ≡ gas_text (lowered_code p) → IsBuilt tells b text
built tells b h p ps text ok holds accepted e =
    let reads : ReadsAs text (lowered_code p) = record { program = program p ok; is = sym e } in
    let closed = fits p ps ok accepted.closes in
    record {
      held = h;
      holds = holds;
      program = p;
      steps = ps;
      accepted = accepted;
      right = record {
        reads = reads;
        reads_only = λ items k. one_list text items (lowered_code p) k reads;
        meets = subst (λ l. Meets no_functions (contract_of p) l 0) (sym (straight_lowered p)) (straight_meets no_functions p.export p.instructions (contract_of p) closed);
        same_runs = subst (λ l. SameRuns no_functions (contract_of p) l 0) (sym (straight_lowered p)) (straight_runs no_functions p.export p.instructions (contract_of p) closed);
      };
    }

pub built_from : (tells : List ℕ → Option (List ℕ)) (told : Option (List ℕ)) (cert : List ℕ) (files : List (List ℕ)) (p : StraightLine) (ps : List Pair) (text : List ℕ) → IsStraight p → SourcesSpell tells files p → told ≡ tells cert → FileHolds told (λ c. Proves c p.name ps) → ring_closes (condition_hyps p) (condition_goal p) ps ≡ true → text ≡ gas_text (lowered_code p) → IsBuilt tells (record { cert = cert; files = files }) text
built_from tells told cert files p ps text ok h same c closes e =
    built tells (record { cert = cert; files = files }) (record { sources = h.contents; cert = c.held }) p ps text ok
    record { sources = h.holds; cert = subst (λ o. IfSome o (λ t. c.held ≡ t)) same c.holds }
    record { short = h.short; spells = h.spells; proves = c.reads; closes = closes } e
