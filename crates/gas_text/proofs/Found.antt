-- Items are found in their lines.
use Rattle.std.proofs.Common.{◌≡◌, ℕ, ◌-◌, ◌^◌, ◌<◌, true, List, ◌++◌, refl, ap, ◌∙◌, arith, Some, pos, decimal}
use Rattle.std.specs.Prelude.{codes, option_map, option_and_then, is_ok}
use Rattle.x64_syntax.specs.declared.operands.Opr.TheVariants.{R, Imm, M}
use Rattle.x64_syntax.specs.declared.conditions.Cond.{Cond}
use Rattle.x64_syntax.specs.declared.conditions.Cond.TheVariants as condition
use Rattle.x64_syntax.specs.declared.instructions.AluOp.TheVariants as alu
use Rattle.x64_syntax.specs.declared.instructions.OneOp.TheVariants as one
use Rattle.x64_syntax.specs.declared.instructions.ShiftOp.TheVariants as shift
use Rattle.x64_syntax.specs.declared.instructions.CarryOp.TheVariants as carry
use Rattle.x64_syntax.specs.declared.instructions.XBinOp.TheVariants as xbin
use Rattle.x64_syntax.specs.declared.instructions.XShiftOp.TheVariants as xshift
use Rattle.x64_syntax.specs.declared.instructions.Ins.{Ins}
use Rattle.x64_syntax.specs.declared.instructions.Ins.TheVariants.{Mov, Store, Load1, Load4, Store4, Lea, Cmov, Push, Pop, Alu, One as OneIns, Shift, Imul, Mul, Mulx, Carry, XMov, XLoad, XStore, XBin, XShuf, XShift, XIns, XExt, XMovq, XClmul}
use Rattle.x64_syntax.specs.declared.items.Item.TheVariants as item
use Rattle.x64_syntax.specs.declared.operations.Operation.{Operation}
use Rattle.x64_syntax.specs.declared.operations.Operation.TheVariants as op
use Rattle.x64_syntax.specs.Instructions.{form_of}
use Rattle.x64_syntax.specs.Operations.{spelling, operations}
use Rattle.asm_lines.specs.declared.lines.Syntax.TheVariants.{Gas}
use Rattle.asm_lines.specs.Operands.{operands, operation}
use Rattle.asm_lines.specs.inner.Assembled.{at_most}
use Rattle.asm_lines.proofs.Assembled.{at_most_back}
use Rattle.asm_lines.specs.Lines.{mnemonic}
use Rattle.gas_text.specs.Gas.{operands_text, ins_line, line}
use Rattle.gas_text.specs.inner.Apart.{operation_by_operands, mnemonic_operation, ins_of, label_of, item_of, item_of_sides, found_item}
use Rattle.gas_text.proofs.Cuts.{lacks, cut_at}
use Rattle.x64_syntax.proofs.Digits.{read_back}
use Rattle.gas_text.proofs.Operands.{parts_back}
use Rattle.gas_text.proofs.Built.{back}

-- what is found under an instruction's mnemonic
record Called (i : Ins) : Type 0 where
  pub unbroken : lacks 32 (mnemonic Gas i) ≡ true
  pub clean : lacks 10 (mnemonic Gas i) ≡ true
  pub base : Operation
  pub called : mnemonic_operation (mnemonic Gas i) ≡ Some base
  pub narrow : operation_by_operands base (operands i) ≡ operation i
  pub item : (text : List ℕ) → item_of (mnemonic Gas i) text ≡ option_map item.Ins (ins_of (mnemonic Gas i) text)

named : (i : Ins) → Called i
unfolding spelling operations
named (Mov d (R s)) = record { unbroken = refl; clean = refl; base = op.Mov; called = refl; narrow = refl; item = λ text. refl }
named (Mov d (Imm z)) = record { unbroken = refl; clean = refl; base = op.Mov; called = refl; narrow = refl; item = λ text. refl }
named (Mov d (M m)) = record { unbroken = refl; clean = refl; base = op.Mov; called = refl; narrow = refl; item = λ text. refl }
named (Store m s) = record { unbroken = refl; clean = refl; base = op.Mov; called = refl; narrow = refl; item = λ text. refl }
named (Load1 d m) = record { unbroken = refl; clean = refl; base = op.Load1; called = refl; narrow = refl; item = λ text. refl }
named (Load4 d m) = record { unbroken = refl; clean = refl; base = op.Load4; called = refl; narrow = refl; item = λ text. refl }
named (Store4 m s) = record { unbroken = refl; clean = refl; base = op.Load4; called = refl; narrow = refl; item = λ text. refl }
named (Lea d m) = record { unbroken = refl; clean = refl; base = op.Lea; called = refl; narrow = refl; item = λ text. refl }
named (Cmov condition.E d s) = record { unbroken = refl; clean = refl; base = op.Cmov condition.E; called = refl; narrow = refl; item = λ text. refl }
named (Cmov condition.Ne d s) = record { unbroken = refl; clean = refl; base = op.Cmov condition.Ne; called = refl; narrow = refl; item = λ text. refl }
named (Cmov condition.B d s) = record { unbroken = refl; clean = refl; base = op.Cmov condition.B; called = refl; narrow = refl; item = λ text. refl }
named (Cmov condition.Be d s) = record { unbroken = refl; clean = refl; base = op.Cmov condition.Be; called = refl; narrow = refl; item = λ text. refl }
named (Cmov condition.A d s) = record { unbroken = refl; clean = refl; base = op.Cmov condition.A; called = refl; narrow = refl; item = λ text. refl }
named (Cmov condition.Ae d s) = record { unbroken = refl; clean = refl; base = op.Cmov condition.Ae; called = refl; narrow = refl; item = λ text. refl }
named (Push s) = record { unbroken = refl; clean = refl; base = op.Push; called = refl; narrow = refl; item = λ text. refl }
named (Pop d) = record { unbroken = refl; clean = refl; base = op.Pop; called = refl; narrow = refl; item = λ text. refl }
named (Alu alu.Add d s) = record { unbroken = refl; clean = refl; base = op.Alu alu.Add; called = refl; narrow = refl; item = λ text. refl }
named (Alu alu.Adc d s) = record { unbroken = refl; clean = refl; base = op.Alu alu.Adc; called = refl; narrow = refl; item = λ text. refl }
named (Alu alu.Sub d s) = record { unbroken = refl; clean = refl; base = op.Alu alu.Sub; called = refl; narrow = refl; item = λ text. refl }
named (Alu alu.Sbb d s) = record { unbroken = refl; clean = refl; base = op.Alu alu.Sbb; called = refl; narrow = refl; item = λ text. refl }
named (Alu alu.Cmp d s) = record { unbroken = refl; clean = refl; base = op.Alu alu.Cmp; called = refl; narrow = refl; item = λ text. refl }
named (Alu alu.And d s) = record { unbroken = refl; clean = refl; base = op.Alu alu.And; called = refl; narrow = refl; item = λ text. refl }
named (Alu alu.Or d s) = record { unbroken = refl; clean = refl; base = op.Alu alu.Or; called = refl; narrow = refl; item = λ text. refl }
named (Alu alu.Xor d s) = record { unbroken = refl; clean = refl; base = op.Alu alu.Xor; called = refl; narrow = refl; item = λ text. refl }
named (OneIns one.Neg d) = record { unbroken = refl; clean = refl; base = op.One one.Neg; called = refl; narrow = refl; item = λ text. refl }
named (OneIns one.Not d) = record { unbroken = refl; clean = refl; base = op.One one.Not; called = refl; narrow = refl; item = λ text. refl }
named (Shift shift.Shl d n) = record { unbroken = refl; clean = refl; base = op.Shift shift.Shl; called = refl; narrow = refl; item = λ text. refl }
named (Shift shift.Shr d n) = record { unbroken = refl; clean = refl; base = op.Shift shift.Shr; called = refl; narrow = refl; item = λ text. refl }
named (Shift shift.Rol d n) = record { unbroken = refl; clean = refl; base = op.Shift shift.Rol; called = refl; narrow = refl; item = λ text. refl }
named (Shift shift.Ror d n) = record { unbroken = refl; clean = refl; base = op.Shift shift.Ror; called = refl; narrow = refl; item = λ text. refl }
named (Imul d s) = record { unbroken = refl; clean = refl; base = op.Imul; called = refl; narrow = refl; item = λ text. refl }
named (Mul s) = record { unbroken = refl; clean = refl; base = op.Mul; called = refl; narrow = refl; item = λ text. refl }
named (Mulx high low s) = record { unbroken = refl; clean = refl; base = op.Mulx; called = refl; narrow = refl; item = λ text. refl }
named (Carry carry.Adcx d s) = record { unbroken = refl; clean = refl; base = op.Carry carry.Adcx; called = refl; narrow = refl; item = λ text. refl }
named (Carry carry.Adox d s) = record { unbroken = refl; clean = refl; base = op.Carry carry.Adox; called = refl; narrow = refl; item = λ text. refl }
named (XMov d s) = record { unbroken = refl; clean = refl; base = op.Movdqu; called = refl; narrow = refl; item = λ text. refl }
named (XLoad d m) = record { unbroken = refl; clean = refl; base = op.Movdqu; called = refl; narrow = refl; item = λ text. refl }
named (XStore m s) = record { unbroken = refl; clean = refl; base = op.Movdqu; called = refl; narrow = refl; item = λ text. refl }
named (XBin xbin.Pxor d s) = record { unbroken = refl; clean = refl; base = op.XBin xbin.Pxor; called = refl; narrow = refl; item = λ text. refl }
named (XBin xbin.Pand d s) = record { unbroken = refl; clean = refl; base = op.XBin xbin.Pand; called = refl; narrow = refl; item = λ text. refl }
named (XBin xbin.Por d s) = record { unbroken = refl; clean = refl; base = op.XBin xbin.Por; called = refl; narrow = refl; item = λ text. refl }
named (XBin xbin.Paddd d s) = record { unbroken = refl; clean = refl; base = op.XBin xbin.Paddd; called = refl; narrow = refl; item = λ text. refl }
named (XBin xbin.Paddq d s) = record { unbroken = refl; clean = refl; base = op.XBin xbin.Paddq; called = refl; narrow = refl; item = λ text. refl }
named (XBin xbin.Pshufb d s) = record { unbroken = refl; clean = refl; base = op.XBin xbin.Pshufb; called = refl; narrow = refl; item = λ text. refl }
named (XBin xbin.Punpcklqdq d s) = record { unbroken = refl; clean = refl; base = op.XBin xbin.Punpcklqdq; called = refl; narrow = refl; item = λ text. refl }
named (XBin xbin.Punpckhqdq d s) = record { unbroken = refl; clean = refl; base = op.XBin xbin.Punpckhqdq; called = refl; narrow = refl; item = λ text. refl }
named (XBin xbin.Aesenc d s) = record { unbroken = refl; clean = refl; base = op.XBin xbin.Aesenc; called = refl; narrow = refl; item = λ text. refl }
named (XBin xbin.Aesenclast d s) = record { unbroken = refl; clean = refl; base = op.XBin xbin.Aesenclast; called = refl; narrow = refl; item = λ text. refl }
named (XShuf d s n) = record { unbroken = refl; clean = refl; base = op.XShuf; called = refl; narrow = refl; item = λ text. refl }
named (XShift xshift.Pslld d n) = record { unbroken = refl; clean = refl; base = op.XShift xshift.Pslld; called = refl; narrow = refl; item = λ text. refl }
named (XShift xshift.Psrld d n) = record { unbroken = refl; clean = refl; base = op.XShift xshift.Psrld; called = refl; narrow = refl; item = λ text. refl }
named (XShift xshift.Pslldq d n) = record { unbroken = refl; clean = refl; base = op.XShift xshift.Pslldq; called = refl; narrow = refl; item = λ text. refl }
named (XShift xshift.Psrldq d n) = record { unbroken = refl; clean = refl; base = op.XShift xshift.Psrldq; called = refl; narrow = refl; item = λ text. refl }
named (XIns d s n) = record { unbroken = refl; clean = refl; base = op.XIns; called = refl; narrow = refl; item = λ text. refl }
named (XExt d s n) = record { unbroken = refl; clean = refl; base = op.XExt; called = refl; narrow = refl; item = λ text. refl }
named (XMovq d s) = record { unbroken = refl; clean = refl; base = op.Mov; called = refl; narrow = refl; item = λ text. refl }
named (XClmul d s n) = record { unbroken = refl; clean = refl; base = op.XClmul; called = refl; narrow = refl; item = λ text. refl }

pub mnemonic_clean : (i : Ins) → lacks 10 (mnemonic Gas i) ≡ true
mnemonic_clean i = (named i).clean

ins_found : (i : Ins) → is_ok (form_of i) ≡ true → ins_of (mnemonic Gas i) (operands_text (operands i)) ≡ Some i
ins_found i h =
    let b = back i h in
    let n = named i in
    rw (parts_back (operands i) b.legible, n.called, n.narrow) b.same

pub found_ins : (i : Ins) → is_ok (form_of i) ≡ true → found_item (ins_line i) ≡ Some (item.Ins i)
found_ins i h =
    let n = named i in
    ap item_of_sides (cut_at 32 (mnemonic Gas i) (operands_text (operands i)) n.unbroken)
    ∙ n.item (operands_text (operands i))
    ∙ ap (λ o. option_map item.Ins o) (ins_found i h)

label_back : (l : ℕ) → l < 2 ^ 32 → label_of (codes "L" ++ decimal l) ≡ Some l
label_back l h =
    ap (λ o. option_and_then (λ n. at_most (2 ^ 32 - 1) (pos n)) o) (read_back l (omega (arith, h)))
    ∙ at_most_back (2 ^ 32 - 1) l (omega (arith, h))

pub found_jmp : (l : ℕ) → l < 2 ^ 32 → found_item (line (item.Jmp l)) ≡ Some (item.Jmp l)
found_jmp l h = ap (λ o. option_map item.Jmp o) (label_back l h)

pub found_jcc : (c : Cond) (l : ℕ) → l < 2 ^ 32 → found_item (line (item.Jcc c l)) ≡ Some (item.Jcc c l)
found_jcc condition.E l h = ap (λ o. option_map (item.Jcc condition.E) o) (label_back l h)
found_jcc condition.Ne l h = ap (λ o. option_map (item.Jcc condition.Ne) o) (label_back l h)
found_jcc condition.B l h = ap (λ o. option_map (item.Jcc condition.B) o) (label_back l h)
found_jcc condition.Be l h = ap (λ o. option_map (item.Jcc condition.Be) o) (label_back l h)
found_jcc condition.A l h = ap (λ o. option_map (item.Jcc condition.A) o) (label_back l h)
found_jcc condition.Ae l h = ap (λ o. option_map (item.Jcc condition.Ae) o) (label_back l h)

pub found_ret : found_item (line item.Ret) ≡ Some item.Ret
found_ret = refl
