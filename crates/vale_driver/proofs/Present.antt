-- The versions that the checker keeps are those of the condition, and its terms the condition's.
use Rattle.std.proofs.Common.{◌≡◌, ℕ, ◌+◌, ◌≤◌, Bool, true, false, cond, List, [], ◌∷◌, ◌++◌, map, refl, sym, ap, ◌∙◌, arith, append_assoc, lit≤, subst}
use Rattle.std.proofs.Math.Path.{fun_ext}
use Rattle.std.specs.List.{list_all}
use Rattle.std.proofs.lemmas.Bool.{and_parts, false≢true}
use Rattle.x64_syntax.specs.declared.places.Reg.{Reg as GeneralReg}
use Rattle.x64_syntax.specs.declared.places.FlagName.TheVariants.{Cf, Zf, Sf, Of}
use Rattle.x64_syntax.specs.declared.places.MachinePlace.{MachinePlace}
use Rattle.x64_syntax.specs.declared.places.MachinePlace.TheVariants.{Reg, Xmm, Flag}
use Rattle.x64_syntax.specs.declared.operands.Opr.{Opr}
use Rattle.x64_syntax.specs.declared.instructions.AluOp.{AluOp}
use Rattle.x64_syntax.specs.declared.instructions.AluOp.TheVariants.{Add}
use Rattle.x64_syntax.specs.declared.instructions.Ins.{Ins}
use Rattle.x64_syntax.specs.declared.instructions.Ins.TheVariants.{Mov, Alu}
use Rattle.term_core.specs.Terms.{Tm}
use Rattle.x64_meaning.specs.Exp.{among}
use Rattle.x64_meaning.specs.Table.{equations, writes}
use Rattle.x64_meaning.specs.Condition.{Versions, next_versions, hypothesis, hypotheses, straight_hyps, first_versions, end_versions}
use Rattle.straight_line.specs.declared.form.StraightLine.{StraightLine}
use Rattle.vale_driver.specs.inner.ConditionTerms.{is_built, versions_of, move_term, sum_term, carry_term, zero_term, sign_term, overflow_term, addition_terms, promise_term}
use Rattle.vale_driver.specs.Build.{condition_goal}
use Rattle.vale_driver.proofs.Going.{Hypotheses}

-- the terms that are built are the equations of the table
pub pushed_move : (v : Versions) (d : GeneralReg) (s : Opr) (old : List Tm) (t : Tm) → t ≡ move_term v d s → old ++ t ∷ [] ≡ old ++ map (hypothesis v) (equations (Mov d s))
unfolding move_term
pushed_move v d s old t h = ap (λ x. old ++ x ∷ []) h

pub addition_built : (v : Versions) (op : AluOp) (d : GeneralReg) (s : Opr) → is_built (Alu op d s) ≡ true → addition_terms v d s ≡ map (hypothesis v) (equations (Alu op d s))
unfolding sum_term carry_term zero_term sign_term overflow_term
addition_built v Add d s h = refl
addition_built v _ d s h = absurd (false≢true h)

-- one more write of a register, and one of all flags
pub passed_move : (old new : Versions) (d : GeneralReg) (s : Opr) → new ≡ next_versions old (Reg d ∷ []) → new ≡ next_versions old (writes (Mov d s))
passed_move old new d s h = h

pub passed_addition : (registers : List ℕ) (flags : ℕ) (old : Versions) (op : AluOp) (d : GeneralReg) (s : Opr) → is_built (Alu op d s) ≡ true → versions_of registers flags ≡ next_versions old (Reg d ∷ []) → versions_of registers (flags + 1) ≡ next_versions old (writes (Alu op d s))
passed_addition registers flags old Add d s built h = fun_ext at_place where
  at_place : (p : MachinePlace) → versions_of registers (flags + 1) p ≡ next_versions old (writes (Alu Add d s)) p
  at_place (Reg q) = ap (λ v. v (Reg q)) h
  at_place (Xmm x) = ap (λ v. v (Xmm x)) h
  at_place (Flag Cf) = ap (λ v. v (Flag Cf) + 1) h
  at_place (Flag Zf) = ap (λ v. v (Flag Zf) + 1) h
  at_place (Flag Sf) = ap (λ v. v (Flag Sf) + 1) h
  at_place (Flag Of) = ap (λ v. v (Flag Of) + 1) h
passed_addition registers flags old _ d s built h = absurd (false≢true built)

-- a place is written at most once
next_few : (v : Versions) (k : ℕ) (ws : List MachinePlace) → ((p : MachinePlace) → v p ≤ k) → (p : MachinePlace) → next_versions v ws p ≤ k + 1
next_few v k ws few p = by_test (among ws p) where
  by_test : (b : Bool) → cond b (v p + 1) (v p) ≤ k + 1
  by_test true = let h = few p in omega arith
  by_test false = let h = few p in omega arith

-- before the first instruction
pub none_yet : (old : List Tm) (v : Versions) (is : List Ins) → list_all is_built is ≡ true → v ≡ first_versions → Hypotheses old old v 0 is is
none_yet old v is built h = subst (λ w. Hypotheses old old w 0 is is) (sym h) record { hyps = refl; last = refl; few = λ p. lit≤ tt; built = built }

-- the next instruction has a condition
pub next_built : (i : Ins) (rest front : List Ins) → front ≡ i ∷ rest → list_all is_built front ≡ true → is_built i ≡ true
next_built i rest front split h = (and_parts (is_built i) (list_all is_built rest) (ap (list_all is_built) (sym split) ∙ h)).0

-- an instruction with a condition is one of the two
pub no_other : (i : Ins) → is_built i ≡ true → ((d : GeneralReg) (s : Opr) → i ≡ Mov d s → ⊥) → ((d : GeneralReg) (s : Opr) → i ≡ Alu Add d s → ⊥) → ⊥
no_other (Mov d s) h move sum = move d s refl
no_other (Alu Add d s) h move sum = sum d s refl
no_other _ h move sum = absurd (false≢true h)

-- behind one more
pub one_more : (old mid new : List Tm) (v w : Versions) (k : ℕ) (i : Ins) (rest front all : List Ins) → front ≡ i ∷ rest → Hypotheses old mid v k front all → new ≡ mid ++ map (hypothesis v) (equations i) → w ≡ next_versions v (writes i) → Hypotheses old new w (k + 1) rest all
one_more old mid new v w k i rest front all split h pushed next =
    let hyps : (mid ++ map (hypothesis v) (equations i)) ++ hypotheses (next_versions v (writes i)) rest ≡ old ++ straight_hyps all =
    append_assoc mid (map (hypothesis v) (equations i)) (hypotheses (next_versions v (writes i)) rest) ∙ ap (λ l. mid ++ hypotheses v l) (sym split) ∙ h.hyps in
    subst (λ x. Hypotheses old new x (k + 1) rest all) (sym next) record {
      hyps = ap (λ l. l ++ hypotheses (next_versions v (writes i)) rest) pushed ∙ hyps;
      last = ap (λ l. end_versions v l) (sym split) ∙ h.last;
      few = next_few v k (writes i) h.few;
      built = (and_parts (is_built i) (list_all is_built rest) (ap (list_all is_built) (sym split) ∙ h.built)).1;
    }

-- the promise over the last versions is the condition's goal
pub goal_built : (p : StraightLine) (last : Versions) → last ≡ end_versions first_versions p.instructions → promise_term last p.promise ≡ condition_goal p
unfolding promise_term
goal_built p last h = ap (λ v. promise_term v p.promise) h
