-- What a procedure without branches means: its contract, its condition and its code.
use Rattle.std.specs.Prelude.{ℕ, Bool, true, false, List, [], ◌∷◌, None}
use Rattle.x64_syntax.specs.declared.places.MachinePlace.{MachinePlace}
use Rattle.x64_syntax.specs.declared.places.MachinePlace.TheVariants.{Reg, Xmm, Flag}
use Rattle.x64_syntax.specs.declared.instructions.Ins.{Ins}
use Rattle.x64_syntax.specs.declared.items.Item.{Item}
use Rattle.x64_syntax.specs.Code.{Prog, Done, Step}
use Rattle.term_core.specs.declared.operator.BinOp.TheVariants as bin
use Rattle.term_core.specs.Terms.{Tm}
use Rattle.x64_meaning.specs.Exp.{Exp, Before, After, W64, Bin}
use Rattle.x64_meaning.specs.Contract.{Contract}
use Rattle.x64_meaning.specs.Condition.{contract_term, straight_hyps, straight_goal}
use Rattle.code_lower.specs.Lowered.{lowered_items}
use Rattle.straight_line.specs.declared.form.Promise.{Promise}
use Rattle.straight_line.specs.declared.form.Promise.TheVariants.{Constant, Old, Sum}
use Rattle.straight_line.specs.declared.form.StraightLine.{StraightLine}
use Rattle.straight_line.specs.Form.{has}

-- what a register holds at the end: a constant, what a register held at the start, or that and a constant more
abbrev pub promise_exp : Promise → Exp
promise_exp (Constant r k) = Bin bin.Eq (After (Reg r)) (W64 k)
promise_exp (Old r q) = Bin bin.Eq (After (Reg r)) (Before (Reg q))
promise_exp (Sum r q k) = Bin bin.Eq (After (Reg r)) (Bin bin.Add (Before (Reg q)) (W64 k))

-- it reads its registers, and changes them and the flags
abbrev pub reads_place : StraightLine → MachinePlace → Bool
reads_place p (Reg q) = has p.registers q
reads_place p _ = false

abbrev pub changes_place : StraightLine → MachinePlace → Bool
changes_place p (Reg q) = has p.registers q
changes_place p (Xmm x) = false
changes_place p (Flag f) = true

abbrev pub contract_of : StraightLine → Contract
contract_of p = record {
  reads = reads_place p;
  secret = λ q. false;
  modifies = changes_place p;
  blocks = [];
  ghosts = [];
  requires_ = [];
  ensures_ = contract_term (promise_exp p.promise) ∷ [];
  stack = 0;
  abi = None;
}

-- the condition: the instructions' equations, and the promise as the goal
abbrev pub condition_hyps : StraightLine → List Tm
condition_hyps p = straight_hyps p.instructions

abbrev pub condition_goal : StraightLine → Tm
condition_goal p = straight_goal p.instructions (promise_exp p.promise)

-- its code: instructions one after another, none of which accesses memory
abbrev pub straight_code : List Ins → Prog
straight_code [] = Done
straight_code (i ∷ is) = Step i None (straight_code is)

-- its exports, each a name and its code
abbrev pub exports_of : StraightLine → List (List ℕ × Prog)
exports_of p = (p.export, straight_code p.instructions) ∷ []

abbrev pub lowered_code : StraightLine → List Item
lowered_code p = lowered_items (exports_of p)
