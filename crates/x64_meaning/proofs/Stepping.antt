-- What a step of the machine that runs leaves is what the table's equations give.
use Rattle.std.proofs.Common.{◌≡◌, ℕ, ◌+◌, ◌%◌, ◌<◌, Bool, true, false, [], ◌∷◌, map, Option, Some, None, refl, sym, ap, ◌∙◌, subst, arith, mod-eq_of_lt, ◌||◌}
use Rattle.std.specs.Prelude.{Result, Ok, Err}
use Rattle.std.proofs.lemmas.Nat.{mod_below}
use Rattle.x64_syntax.specs.declared.places.Reg.{Reg as GeneralReg}
use Rattle.x64_syntax.specs.declared.places.Reg.TheVariants.{Rax, Rdx, Rsp}
use Rattle.x64_syntax.specs.declared.places.Xmm.{Xmm as XmmReg}
use Rattle.x64_syntax.specs.declared.places.FlagName.{FlagName}
use Rattle.x64_syntax.specs.declared.places.FlagName.TheVariants.{Cf, Zf, Sf, Of}
use Rattle.x64_syntax.specs.declared.places.MachinePlace.{MachinePlace}
use Rattle.std.proofs.Math.Path.{fun_ext}
use Rattle.x64_syntax.specs.declared.places.MachinePlace.TheVariants.{Reg, Flag}
use Rattle.x64_syntax.specs.declared.operands.Mem.{Mem}
use Rattle.x64_syntax.specs.declared.instructions.AluOp.{AluOp}
use Rattle.x64_syntax.specs.declared.instructions.AluOp.TheVariants as alu
use Rattle.x64_syntax.specs.declared.instructions.Ins.{Ins}
use Rattle.x64_syntax.specs.declared.instructions.Ins.TheVariants.{Mov, Store, Load1, Load4, Store4, Lea, Cmov, Push, Pop, Alu, One, Shift, Imul, Mul, Mulx, Carry, XMov, XLoad, XStore, XBin, XShuf, XShift, XIns, XExt, XMovq, XClmul}
use Rattle.x64_syntax.specs.Instructions.{carry_flag, index_registers, read_places, is_among, accesses}
use Rattle.term_core.specs.Value.{T, Val, Word}
use Rattle.x64_meaning.specs.declared.machine.Obs.{Obs}
use Rattle.x64_meaning.specs.declared.machine.Fault.{Fault}
use Rattle.x64_meaning.specs.State.{State, reg, load}
use Rattle.x64_meaning.specs.Exp.{Before, After, Loaded, no_words}
use Rattle.x64_meaning.specs.Table.{source, equations, gets, sets, undefined_flag, lower, upper, alu_equations, product_equations, carry_equations, reads, memory_places, apply}
use Rattle.x64_meaning.specs.Run.{Outcome, Done, Faulted, No, address, access, with_access, with_loaded, with_flags, does, after, after_stack, word_in, first_undefined}
use Rattle.x64_meaning.specs.inner.Steps.{Acts, Steps, load_result, input_word, effect, flag_fault, set_reg, alu_effect, product_state, wide_product, halves, carry_state, Fits}
use Rattle.x64_meaning.proofs.Computes.{alu_leaves, imul_leaves, mul_leaves, mulx_leaves, carry_leaves, mov_leaves}
use Rattle.x64_meaning.proofs.Alone.{one_leaves, shift_leaves, lea_leaves, cmov_leaves}
use Rattle.x64_meaning.proofs.Sources.{fill, with_source, not_loaded, faults_alone, ok_is}
use Rattle.x64_meaning.proofs.XmmForms.{copy_leaves, combined_leaves, picked_leaves, shifted_leaves, inserted_leaves, extracted_leaves, moved_leaves, clmul_leaves}

-- an instruction without an access
alone : (s : State) (i : Ins) (b : ℕ) (seen : Option Obs) (new : State) → access s i ≡ No → after s no_words i ≡ new → ◌≡◌ {A = Result (ℕ × Option Obs) Fault} (Ok (0, None)) (Ok (b, seen)) → Acts (with_access s i (access s i)) s new (Ok seen)
alone s i b seen new none_there leaves from = subst (λ x. Acts (with_access s i x) s new (Ok seen)) (sym none_there) (ap Ok (sym (ok_is from).1), sym leaves)

popped : (s : State) (d : GeneralReg) (b : ℕ) (seen : Option Obs) → Fits s → b < T → (l : Option ℕ) → load_result (reg s Rsp) 8 l ≡ Ok (b, seen) → Acts (with_loaded s (Pop d) (reg s Rsp) 8 l) s (effect (Pop d) s b) (Ok seen)
popped s d b seen fits lt None h = absurd cc
popped s d b seen fits lt (Some n) h =
    let p = ok_is h in
    let t = set_reg d b s in
    let same : Word (n % T) ≡ Word b = ap (λ k. Word (k % T)) p.0 ∙ ap Word (mod-eq_of_lt lt) in
    let put = mov_leaves s (word_in n) d b fits lt same in
    let rsp = mod-eq_of_lt (mod_below (reg t Rsp + 8) T (omega arith)) in
    (ap Ok (sym p.1), sym (ap (after_stack (Pop d)) put ∙ ap (λ k. set_reg Rsp k t) rsp))

-- a word that is loaded into a register
loads : (s : State) (i : Ins) (d : GeneralReg) (a size b : ℕ) (seen : Option Obs) → Fits s → b < T → ((m : ℕ → Val) → after s m i ≡ apply s m (gets (Reg d) (Loaded 0) ∷ []) s) → (l : Option ℕ) → load_result a size l ≡ Ok (b, seen) → Acts (with_loaded s i a size l) s (set_reg d b s) (Ok seen)
loads s i d a size b seen fits lt moves None h = absurd cc
loads s i d a size b seen fits lt moves (Some n) h =
    let p = ok_is h in
    let same : Word (n % T) ≡ Word b = ap (λ k. Word (k % T)) p.0 ∙ ap Word (mod-eq_of_lt lt) in
    (ap Ok (sym p.1), sym (moves (word_in n) ∙ mov_leaves s (word_in n) d b fits lt same))

-- an instruction that stores nothing and loads no word of 128 bits
pub record Apart (i : Ins) : Type 0 where
  pub store : (m : Mem) (r : GeneralReg) → i ≡ Store m r → ⊥
  pub low : (m : Mem) (r : GeneralReg) → i ≡ Store4 m r → ⊥
  pub wide : (m : Mem) (x : XmmReg) → i ≡ XStore m x → ⊥
  pub load : (d : XmmReg) (m : Mem) → i ≡ XLoad d m → ⊥
  pub push : (r : GeneralReg) → i ≡ Push r → ⊥

-- An instruction that took its word in leaves what it computes from it.
pub act_does : (i : Ins) (s : State) (b : ℕ) (seen : Option Obs) → Fits s → b < T → Apart i → input_word s i ≡ Ok (b, seen) → Acts (with_access s i (access s i)) s (effect i s b) (Ok seen)
act_does (Store m r) s b seen fits lt apart from = absurd (apart.store m r refl)
act_does (Store4 m r) s b seen fits lt apart from = absurd (apart.low m r refl)
act_does (XStore m x) s b seen fits lt apart from = absurd (apart.wide m x refl)
act_does (XLoad d m) s b seen fits lt apart from = absurd (apart.load d m refl)
act_does (Push r) s b seen fits lt apart from = absurd (apart.push r refl)
act_does (Load1 d m) s b seen fits lt apart from = loads s (Load1 d m) d (address s m) 1 b seen fits lt (λ m. refl) (load s (address s m) 1) from
act_does (Load4 d m) s b seen fits lt apart from = loads s (Load4 d m) d (address s m) 4 b seen fits lt (λ m. refl) (load s (address s m) 4) from
act_does (XMov d x) s b seen fits lt apart from = alone s (XMov d x) b seen (effect (XMov d x) s b) refl (copy_leaves s no_words fits d x) from
act_does (XBin op d x) s b seen fits lt apart from = alone s (XBin op d x) b seen (effect (XBin op d x) s b) refl (combined_leaves s no_words fits d x op) from
act_does (XShuf d x n) s b seen fits lt apart from = alone s (XShuf d x n) b seen (effect (XShuf d x n) s b) refl (picked_leaves s no_words fits d x n) from
act_does (XShift op d n) s b seen fits lt apart from = alone s (XShift op d n) b seen (effect (XShift op d n) s b) refl (shifted_leaves s no_words fits d op n) from
act_does (XIns d r n) s b seen fits lt apart from = alone s (XIns d r n) b seen (effect (XIns d r n) s b) refl (inserted_leaves s no_words fits d r n) from
act_does (XExt d x n) s b seen fits lt apart from = alone s (XExt d x n) b seen (effect (XExt d x n) s b) refl (extracted_leaves s no_words fits d x n) from
act_does (XMovq d r) s b seen fits lt apart from = alone s (XMovq d r) b seen (effect (XMovq d r) s b) refl (moved_leaves s no_words fits d r) from
act_does (XClmul d x n) s b seen fits lt apart from = alone s (XClmul d x n) b seen (effect (XClmul d x n) s b) refl (clmul_leaves s no_words fits d x n) from
act_does (Mov d o) s b seen fits lt apart from =
    with_source s (Mov d o) o (gets (Reg d) (Loaded 0) ∷ []) (λ b. set_reg d b s) (record { accesses = λ s. refl; stays = λ s. refl; size = refl; equations_are = refl }) (λ m b lt h. mov_leaves s m d b fits lt h) b seen lt from
act_does (Lea d x) s b seen fits lt apart from = alone s (Lea d x) b seen (effect (Lea d x) s b) refl (lea_leaves s no_words d fits x) from
act_does (Cmov c d r) s b seen fits lt apart from = alone s (Cmov c d r) b seen (effect (Cmov c d r) s b) refl (cmov_leaves s no_words d fits c r) from
act_does (Pop d) s b seen fits lt apart from = popped s d b seen fits lt (load s (reg s Rsp) 8) from
act_does (Alu op d o) s b seen fits lt apart from =
    with_source s (Alu op d o) o (alu_equations op (Reg d) (Before (Reg d)) (Loaded 0) (After (Reg d))) (λ b. alu_effect op s d b) (record { accesses = λ s. refl; stays = λ s. refl; size = refl; equations_are = alu_filled op }) (λ m b lt h. alu_leaves s m d b fits lt h op) b seen lt from
  where
    alu_filled : (op : AluOp) → equations (Alu op d o) ≡ map (fill (source o)) (alu_equations op (Reg d) (Before (Reg d)) (Loaded 0) (After (Reg d)))
    alu_filled alu.Add = refl
    alu_filled alu.Adc = refl
    alu_filled alu.Sub = refl
    alu_filled alu.Sbb = refl
    alu_filled alu.Cmp = refl
    alu_filled alu.And = refl
    alu_filled alu.Or = refl
    alu_filled alu.Xor = refl
act_does (One op d) s b seen fits lt apart from = alone s (One op d) b seen (effect (One op d) s b) refl (one_leaves s no_words d fits op) from
act_does (Shift op d n) s b seen fits lt apart from = alone s (Shift op d n) b seen (effect (Shift op d n) s b) refl (shift_leaves s no_words d fits op n) from
act_does (Imul d o) s b seen fits lt apart from =
    with_source s (Imul d o) o (gets (Reg d) (lower (Before (Reg d)) (Loaded 0)) ∷ sets Cf undefined_flag ∷ sets Zf undefined_flag ∷ sets Sf undefined_flag ∷ sets Of undefined_flag ∷ []) (λ b. product_state s d b) (record { accesses = λ s. refl; stays = λ s. refl; size = refl; equations_are = refl }) (λ m b lt h. imul_leaves s m d b fits lt h) b seen lt from
act_does (Mul o) s b seen fits lt apart from =
    with_source s (Mul o) o (product_equations (Before (Reg Rax)) (Loaded 0)) (λ b. wide_product s b) (record { accesses = λ s. refl; stays = λ s. refl; size = refl; equations_are = refl }) (λ m b lt h. mul_leaves s m Rax b fits lt h) b seen lt from
act_does (Mulx x y o) s b seen fits lt apart from =
    with_source s (Mulx x y o) o (gets (Reg x) (upper (Before (Reg Rdx)) (Loaded 0)) ∷ gets (Reg y) (lower (Before (Reg Rdx)) (Loaded 0)) ∷ []) (λ b. halves s x y b) (record { accesses = λ s. refl; stays = λ s. refl; size = refl; equations_are = refl }) (λ m b lt h. mulx_leaves s m x b fits lt h y) b seen lt from
act_does (Carry op d o) s b seen fits lt apart from =
    with_source s (Carry op d o) o (carry_equations (carry_flag op) (Reg d) (Before (Reg d)) (Loaded 0)) (λ b. carry_state (carry_flag op) s d b) (record { accesses = λ s. refl; stays = λ s. refl; size = refl; equations_are = refl }) (λ m b lt h. carry_leaves s m d b fits lt h (carry_flag op)) b seen lt from

-- It faults where its word can't be read.
pub act_faults : (i : Ins) (s : State) (f : Fault) → input_word s i ≡ Err f → Acts (with_access s i (access s i)) s s (Err f)
act_faults (Mov d o) s f from = faults_alone s (Mov d o) o (λ s. refl) refl f from
act_faults (Pop d) s f from = not_loaded s (Pop d) (reg s Rsp) 8 f (load s (reg s Rsp) 8) from
act_faults (Load1 d m) s f from = not_loaded s (Load1 d m) (address s m) 1 f (load s (address s m) 1) from
act_faults (Load4 d m) s f from = not_loaded s (Load4 d m) (address s m) 4 f (load s (address s m) 4) from
act_faults (Alu op d o) s f from = faults_alone s (Alu op d o) o (λ s. refl) refl f from
act_faults (Imul d o) s f from = faults_alone s (Imul d o) o (λ s. refl) refl f from
act_faults (Mul o) s f from = faults_alone s (Mul o) o (λ s. refl) refl f from
act_faults (Mulx x y o) s f from = faults_alone s (Mulx x y o) o (λ s. refl) refl f from
act_faults (Carry op d o) s f from = faults_alone s (Carry op d o) o (λ s. refl) refl f from
act_faults _ s f from = absurd cc

ok_seen : {o q : Option Obs} → ◌≡◌ {A = Result (Option Obs) Fault} (Ok o) (Ok q) → o ≡ q
ok_seen {o = o} e = ap part e where
  part : Result (Option Obs) Fault → Option Obs
  part (Ok x) = x
  part (Err f) = o

-- what was done, with what is seen
pub steps_ok : (x : Outcome) (s new : State) (seen : Option Obs) → Acts x s new (Ok seen) → Steps x s new seen (Ok tt)
steps_ok (Done t os) s new seen h = (refl, h.1, ok_seen h.0)
steps_ok (Faulted f) s new seen h = absurd cc

pub steps_err : (x : Outcome) (s new : State) (f : Fault) → Acts x s new (Err f) → Steps x s new None (Err f)
steps_err (Done t os) s new f h = absurd cc
steps_err (Faulted g) s new f h = (same h.0, h.1, refl) where
  same : ◌≡◌ {A = Result (Option Obs) Fault} (Err f) (Err g) → ◌≡◌ {A = Result (Unit {0}) Fault} (Err f) (Err g)
  same e = ap part e where
    part : Result (Option Obs) Fault → Result (Unit {0}) Fault
    part (Ok x) = Err f
    part (Err g) = Err g

-- no register of an address is a flag
no_flag : (o : Option Mem) (f : FlagName) → is_among (memory_places o) (Flag f) ≡ false
no_flag None f = refl
no_flag (Some m) f = by_index m.index where
  by_index : (o : Option (GeneralReg × ℕ)) → is_among (map Reg (index_registers o)) (Flag f) ≡ false
  by_index None = refl
  by_index (Some i) = refl

or_false : (b : Bool) → (b || false) ≡ b
or_false true = refl
or_false false = refl

abbrev flags_named : Ins → FlagName → Bool
flags_named i f = is_among (read_places i) (Flag f)

abbrev flags_taken : Ins → FlagName → Bool
flags_taken i f = reads i (Flag f)

-- the flags that an instruction reads by its form are those that its equations take
flags_read : (i : Ins) → ((p : MachinePlace) → is_among (read_places i) p ≡ (reads i p || is_among (memory_places (accesses i)) p)) → flags_named i ≡ flags_taken i
flags_read i law = fun_ext (λ f. law (Flag f) ∙ ap (λ b. reads i (Flag f) || b) (no_flag (accesses i) f) ∙ or_false (reads i (Flag f)))

module _ (i : Ins) (s : State) (law : (p : MachinePlace) → is_among (read_places i) p ≡ (reads i p || is_among (memory_places (accesses i)) p)) where
  abbrev first : Option FlagName
  first = first_undefined (λ f. is_among (read_places i) (Flag f)) s

  does_is : does i s ≡ with_flags s i first
  does_is = ap (λ p. with_flags s i (first_undefined p s)) (sym (flags_read i law))

  -- a flag that is undefined
  pub step_open : (f : Fault) → flag_fault first ≡ Err f → Steps (does i s) s s None (Err f)
  step_open f h = subst (λ x. Steps x s s None (Err f)) (sym does_is) (by_flag first h)
    where
      by_flag : (o : Option FlagName) → flag_fault o ≡ Err f → Steps (with_flags s i o) s s None (Err f)
      by_flag None e = absurd cc
      by_flag (Some g) e = (sym e, refl, refl)

  -- the flags are defined
  pub step_done : (new : State) (seen : Option Obs) → flag_fault first ≡ Ok tt → Acts (with_access s i (access s i)) s new (Ok seen) → Steps (does i s) s new seen (Ok tt)
  step_done new seen h acts = subst (λ x. Steps x s new seen (Ok tt)) (sym does_is) (by_flag first h)
    where
      by_flag : (o : Option FlagName) → flag_fault o ≡ Ok tt → Steps (with_flags s i o) s new seen (Ok tt)
      by_flag None e = steps_ok (with_access s i (access s i)) s new seen acts
      by_flag (Some g) e = absurd cc

  pub step_fault : (new : State) (f : Fault) → flag_fault first ≡ Ok tt → Acts (with_access s i (access s i)) s new (Err f) → Steps (does i s) s new None (Err f)
  step_fault new f h acts = subst (λ x. Steps x s new None (Err f)) (sym does_is) (by_flag first h)
    where
      by_flag : (o : Option FlagName) → flag_fault o ≡ Ok tt → Steps (with_flags s i o) s new None (Err f)
      by_flag None e = steps_err (with_access s i (access s i)) s new f acts
      by_flag (Some g) e = absurd cc
