-- The equations of every instruction come in order.
use Rattle.std.proofs.Common.{◌≡◌, ℕ, zero, suc, Bool, true, false, not, [], ◌∷◌, Option, Some, None, refl, sym, ap, ◌∙◌}
use Rattle.std.proofs.lemmas.Bool.{not-true, false≢true}
use Rattle.x64_syntax.specs.declared.places.Reg.{Reg as GeneralReg}
use Rattle.x64_syntax.specs.declared.conditions.Cond.TheVariants as cond
use Rattle.x64_syntax.specs.declared.operands.Opr.TheVariants.{R, Imm, M}
use Rattle.x64_syntax.specs.declared.instructions.AluOp.TheVariants as alu
use Rattle.x64_syntax.specs.declared.instructions.OneOp.TheVariants as one
use Rattle.x64_syntax.specs.declared.instructions.ShiftOp.TheVariants as shift
use Rattle.x64_syntax.specs.declared.instructions.CarryOp.TheVariants as carry
use Rattle.x64_syntax.specs.declared.instructions.XBinOp.TheVariants as xbin
use Rattle.x64_syntax.specs.declared.instructions.XShiftOp.TheVariants as xshift
use Rattle.x64_syntax.specs.declared.instructions.Ins.{Ins}
use Rattle.x64_syntax.specs.declared.instructions.Ins.TheVariants.{Mov, Store, Load1, Load4, Store4, Lea, Cmov, Push, Pop, Alu, One, Shift, Imul, Mul, Mulx, Carry, XMov, XLoad, XStore, XBin, XShuf, XShift, XIns, XExt, XMovq, XClmul}
use Rattle.x64_syntax.specs.Instructions.{halves_differ}
use Rattle.x64_syntax.specs.Places.{reg_eq}
use Rattle.x64_syntax.proofs.PlaceLemmas.{reg_eq_is, reg_eq_same}
use Rattle.x64_meaning.specs.Table.{equations, gets, sum, scaled_of, in_order}
use Rattle.x64_meaning.specs.Exp.{Before, W64}
use Rattle.term_core.specs.Value.{word_of}
use Rattle.x64_syntax.specs.declared.places.MachinePlace.TheVariants.{Reg}

apart : (x y : GeneralReg) → not (reg_eq x y) ≡ true → reg_eq y x ≡ false
apart x y h = by_test (reg_eq y x) refl where
  by_test : (b : Bool) → reg_eq y x ≡ b → b ≡ false
  by_test false e = refl
  by_test true e = absurd (false≢true (sym (not-true _ h) ∙ ap (reg_eq x) (reg_eq_is y x e) ∙ reg_eq_same x))

pub equations-in_order : (i : Ins) → halves_differ i ≡ true → in_order [] (equations i) ≡ true
equations-in_order (Mov d (R r)) h = refl
equations-in_order (Mov d (Imm z)) h = refl
equations-in_order (Mov d (M m)) h = refl
equations-in_order (Store m s) h = refl
equations-in_order (Load1 d m) h = refl
equations-in_order (Load4 d m) h = refl
equations-in_order (Store4 m s) h = refl
equations-in_order (Lea d m) h = by_index m.index where
  by_index : (o : Option (GeneralReg × ℕ)) → in_order [] (gets (Reg d) (sum (scaled_of (Before (Reg m.base)) o) (W64 (word_of m.disp))) ∷ []) ≡ true
  by_index None = refl
  by_index (Some i) = refl
equations-in_order (Cmov cond.E d s) h = refl
equations-in_order (Cmov cond.Ne d s) h = refl
equations-in_order (Cmov cond.B d s) h = refl
equations-in_order (Cmov cond.Be d s) h = refl
equations-in_order (Cmov cond.A d s) h = refl
equations-in_order (Cmov cond.Ae d s) h = refl
equations-in_order (Push s) h = refl
equations-in_order (Pop d) h = refl
equations-in_order (Alu alu.Add d (R r)) h = rw (reg_eq_same d) refl
equations-in_order (Alu alu.Add d (Imm z)) h = rw (reg_eq_same d) refl
equations-in_order (Alu alu.Add d (M m)) h = rw (reg_eq_same d) refl
equations-in_order (Alu alu.Adc d (R r)) h = rw (reg_eq_same d) refl
equations-in_order (Alu alu.Adc d (Imm z)) h = rw (reg_eq_same d) refl
equations-in_order (Alu alu.Adc d (M m)) h = rw (reg_eq_same d) refl
equations-in_order (Alu alu.Sub d (R r)) h = rw (reg_eq_same d) refl
equations-in_order (Alu alu.Sub d (Imm z)) h = rw (reg_eq_same d) refl
equations-in_order (Alu alu.Sub d (M m)) h = rw (reg_eq_same d) refl
equations-in_order (Alu alu.Sbb d (R r)) h = rw (reg_eq_same d) refl
equations-in_order (Alu alu.Sbb d (Imm z)) h = rw (reg_eq_same d) refl
equations-in_order (Alu alu.Sbb d (M m)) h = rw (reg_eq_same d) refl
equations-in_order (Alu alu.Cmp d (R r)) h = refl
equations-in_order (Alu alu.Cmp d (Imm z)) h = refl
equations-in_order (Alu alu.Cmp d (M m)) h = refl
equations-in_order (Alu alu.And d (R r)) h = rw (reg_eq_same d) refl
equations-in_order (Alu alu.And d (Imm z)) h = rw (reg_eq_same d) refl
equations-in_order (Alu alu.And d (M m)) h = rw (reg_eq_same d) refl
equations-in_order (Alu alu.Or d (R r)) h = rw (reg_eq_same d) refl
equations-in_order (Alu alu.Or d (Imm z)) h = rw (reg_eq_same d) refl
equations-in_order (Alu alu.Or d (M m)) h = rw (reg_eq_same d) refl
equations-in_order (Alu alu.Xor d (R r)) h = rw (reg_eq_same d) refl
equations-in_order (Alu alu.Xor d (Imm z)) h = rw (reg_eq_same d) refl
equations-in_order (Alu alu.Xor d (M m)) h = rw (reg_eq_same d) refl
equations-in_order (One one.Neg d) h = rw (reg_eq_same d) refl
equations-in_order (One one.Not d) h = refl
equations-in_order (Shift shift.Shl d n) h = rw (reg_eq_same d) refl
equations-in_order (Shift shift.Shr d n) h = rw (reg_eq_same d) refl
equations-in_order (Shift shift.Rol d n) h = refl
equations-in_order (Shift shift.Ror d n) h = refl
equations-in_order (Imul d (R r)) h = refl
equations-in_order (Mul (R r)) h = refl
equations-in_order (Mulx x y (R r)) h = rw (apart x y h) refl
equations-in_order (Carry carry.Adcx d (R r)) h = refl
equations-in_order (Carry carry.Adox d (R r)) h = refl
equations-in_order (Imul d (Imm z)) h = refl
equations-in_order (Mul (Imm z)) h = refl
equations-in_order (Mulx x y (Imm z)) h = rw (apart x y h) refl
equations-in_order (Carry carry.Adcx d (Imm z)) h = refl
equations-in_order (Carry carry.Adox d (Imm z)) h = refl
equations-in_order (Imul d (M m)) h = refl
equations-in_order (Mul (M m)) h = refl
equations-in_order (Mulx x y (M m)) h = rw (apart x y h) refl
equations-in_order (Carry carry.Adcx d (M m)) h = refl
equations-in_order (Carry carry.Adox d (M m)) h = refl
equations-in_order (XMov d s) h = refl
equations-in_order (XLoad d m) h = refl
equations-in_order (XStore m s) h = refl
equations-in_order (XBin xbin.Pxor d s) h = refl
equations-in_order (XBin xbin.Pand d s) h = refl
equations-in_order (XBin xbin.Por d s) h = refl
equations-in_order (XBin xbin.Paddd d s) h = refl
equations-in_order (XBin xbin.Pshufb d s) h = refl
equations-in_order (XBin xbin.Paddq d s) h = refl
equations-in_order (XBin xbin.Punpcklqdq d s) h = refl
equations-in_order (XBin xbin.Punpckhqdq d s) h = refl
equations-in_order (XBin xbin.Aesenc d s) h = refl
equations-in_order (XBin xbin.Aesenclast d s) h = refl
equations-in_order (XShuf d s n) h = refl
equations-in_order (XShift xshift.Pslld d n) h = refl
equations-in_order (XShift xshift.Psrld d n) h = refl
equations-in_order (XShift xshift.Pslldq d n) h = refl
equations-in_order (XShift xshift.Psrldq d n) h = refl
equations-in_order (XIns d s zero) h = refl
equations-in_order (XIns d s (suc n)) h = refl
equations-in_order (XExt d s zero) h = refl
equations-in_order (XExt d s (suc n)) h = refl
equations-in_order (XMovq d s) h = refl
equations-in_order (XClmul d s n) h = refl
