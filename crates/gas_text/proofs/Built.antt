-- The operands of an instruction of the machine are read back, and make the instruction.
use Rattle.std.proofs.Common.{◌≡◌, ℕ, ◌^◌, ◌<◌, ◌≤◌, Bool, true, false, refl, sym, ap, ◌∙◌, arith, Option, None, Some, ℤ, pos, negsuc}
use Rattle.std.specs.Prelude.{◌&&◌, ◌||◌, ◌==◌, not, nat_le, IfSome, Ok, Err, is_ok, if◌then◌else◌}
use Rattle.std.proofs.lemmas.Bool.{and_parts, and_from, leb-true, le-leb, eqb-true, false≢true}
use Rattle.x64_syntax.specs.declared.places.Reg.{Reg as GeneralReg}
use Rattle.x64_syntax.specs.declared.operands.Mem.{Mem}
use Rattle.x64_syntax.specs.declared.operands.Opr.{Opr}
use Rattle.x64_syntax.specs.declared.operands.Opr.TheVariants.{R, Imm, M}
use Rattle.x64_syntax.specs.declared.instructions.Ins.{Ins}
use Rattle.x64_syntax.specs.declared.instructions.Ins.TheVariants.{Mov, Store, Load1, Load4, Store4, Lea, Cmov, Push, Pop, Alu, One as OneIns, Shift, Imul, Mul, Mulx, Carry, XMov, XLoad, XStore, XBin, XShuf, XShift, XIns, XExt, XMovq, XClmul}
use Rattle.x64_syntax.specs.declared.forms.FormFault.TheVariants.{Immediate, Count, Scale, Register, SameHighLow}
use Rattle.x64_syntax.specs.Numbers.{word_of}
use Rattle.x64_syntax.specs.Ranges.{is_around_zero, is_i32, is_u8}
use Rattle.x64_syntax.specs.Instructions.{constant_passes, no_constant, source_memory, or_else, displacement_fits, has_scale, is_scale, constant_fits, chooses_words, count_fits, addresses, names_rsp, halves_differ, form_of}
use Rattle.x64_syntax.specs.inner.Fields.{scale_fits, memory_fits, source_fits, FieldsFit}
use Rattle.asm_lines.specs.Operands.{source, move_source, operands, operation}
use Rattle.asm_lines.specs.inner.Assembled.{at_most, instruction}
use Rattle.asm_lines.proofs.Assembled.{size, size_below, around_zero, word_fits, at_most_back, made_again}
use Rattle.gas_text.proofs.Operands.{Readable, readable_pos, readable_neg, Addressable, Legible, AllLegible}

-- The fields of an instruction of the machine fit.

is_small : (n : ℕ) → (((n == 1) || (n == 2)) || ((n == 4) || (n == 8))) ≡ true → n ≤ 8
is_small n h = by_tests (n == 1) (n == 2) (n == 4) (n == 8) (eqb-true n 1) (eqb-true n 2) (eqb-true n 4) (eqb-true n 8) h where
  by_tests : (a b c d : Bool) → (a ≡ true → n ≡ 1) → (b ≡ true → n ≡ 2) → (c ≡ true → n ≡ 4) → (d ≡ true → n ≡ 8) → ((a || b) || (c || d)) ≡ true → n ≤ 8
  by_tests true b c d one two four eight h = let e = one refl in omega (arith, e)
  by_tests false true c d one two four eight h = let e = two refl in omega (arith, e)
  by_tests false false true d one two four eight h = let e = four refl in omega (arith, e)
  by_tests false false false true one two four eight h = let e = eight refl in omega (arith, e)
  by_tests false false false false one two four eight h = absurd (false≢true h)

memory_fit : (m : Mem) → displacement_fits (Some m) ≡ true → has_scale (Some m) ≡ true → memory_fits m ≡ true
memory_fit m d s = and_from (is_i32 m.disp) _ d (by_index m.index s) where
  by_index : (i : Option (GeneralReg × ℕ)) → is_scale i ≡ true → scale_fits i ≡ true
  by_index None h = refl
  by_index (Some i) h = let small = is_small i.1 h in le-leb i.1 255 (omega (arith, small))

byte_fit : (n high : ℕ) → high ≤ 255 → nat_le n high ≡ true → is_u8 n ≡ true
byte_fit n high le h = let below = leb-true n high h in le-leb n 255 (omega (arith, below, le))

choice_fit : (n : ℕ) → chooses_words n ≡ true → is_u8 n ≡ true
choice_fit n h = by_tests (n == 0) (n == 1) (n == 16) (n == 17) (eqb-true n 0) (eqb-true n 1) (eqb-true n 16) (eqb-true n 17) h where
  by_tests : (a b c d : Bool) → (a ≡ true → n ≡ 0) → (b ≡ true → n ≡ 1) → (c ≡ true → n ≡ 16) → (d ≡ true → n ≡ 17) → ((a || b) || (c || d)) ≡ true → is_u8 n ≡ true
  by_tests true b c d one two three four h = ap is_u8 (one refl)
  by_tests false true c d one two three four h = ap is_u8 (two refl)
  by_tests false false true d one two three four h = ap is_u8 (three refl)
  by_tests false false false true one two three four h = ap is_u8 (four refl)
  by_tests false false false false one two three four h = absurd (false≢true h)

-- what a form says of a source
source_fit : (n : ℕ) (s : Opr) → 0 < n → n ≤ 2 ^ 63 → constant_passes (is_around_zero n) s ≡ true → displacement_fits (source_memory s) ≡ true → has_scale (source_memory s) ≡ true → source_fits s ≡ true
source_fit n (R r) some le h d k = refl
source_fit n (Imm z) some le h d k = let small = size_below n z some h in around_zero (2 ^ 63) z (omega (arith, small, le))
source_fit n (M m) some le h d k = memory_fit m d k

unconstant_fit : (s : Opr) → no_constant s ≡ true → displacement_fits (source_memory s) ≡ true → has_scale (source_memory s) ≡ true → source_fits s ≡ true
unconstant_fit (R r) h d k = refl
unconstant_fit (Imm z) h d k = absurd (false≢true h)
unconstant_fit (M m) h d k = memory_fit m d k

record Formed (i : Ins) : Type 0 where
  pub constant : constant_fits i ≡ true
  pub displaced : displacement_fits (addresses i) ≡ true
  pub counted : count_fits i ≡ true
  pub scaled_ : has_scale (addresses i) ≡ true

formed : (i : Ins) → is_ok (form_of i) ≡ true → Formed i
formed i h = by_tests (constant_fits i) (displacement_fits (addresses i)) (count_fits i) (has_scale (addresses i)) refl refl refl refl h where
  by_tests : (k d c s : Bool) → constant_fits i ≡ k → displacement_fits (addresses i) ≡ d → count_fits i ≡ c → has_scale (addresses i) ≡ s
      → is_ok (if not (k && d) then Err Immediate else if not c then Err Count else if not s then Err Scale else if names_rsp i then Err Register else if not (halves_differ i) then Err SameHighLow else Ok (tt {0})) ≡ true
      → Formed i
  by_tests true true true true a b e f h = record { constant = a; displaced = b; counted = e; scaled_ = f }
  by_tests true true true false a b e f h = absurd (false≢true h)
  by_tests true true false s a b e f h = absurd (false≢true h)
  by_tests true false c s a b e f h = absurd (false≢true h)
  by_tests false d c s a b e f h = absurd (false≢true h)

or_none : (o : Option Mem) → or_else o None ≡ o
or_none None = refl
or_none (Some m) = refl

-- the memory operand of an instruction that loads from its source
loaded : (f : Option Mem → Bool) (s : Opr) → f (or_else (source_memory s) None) ≡ true → f (source_memory s) ≡ true
loaded f s h = ap f (sym (or_none (source_memory s))) ∙ h

pub fields_fit_of : (i : Ins) → is_ok (form_of i) ≡ true → FieldsFit i
fields_fit_of (Mov d s) h =
    let f = formed (Mov d s) h in
    source_fit (2 ^ 63) s (omega arith) (omega arith) f.constant (loaded displacement_fits s f.displaced) (loaded has_scale s f.scaled_)
fields_fit_of (Store m s) h = let f = formed (Store m s) h in memory_fit m f.displaced f.scaled_
fields_fit_of (Load1 d m) h = let f = formed (Load1 d m) h in memory_fit m f.displaced f.scaled_
fields_fit_of (Load4 d m) h = let f = formed (Load4 d m) h in memory_fit m f.displaced f.scaled_
fields_fit_of (Store4 m s) h = let f = formed (Store4 m s) h in memory_fit m f.displaced f.scaled_
fields_fit_of (Lea d m) h = let f = formed (Lea d m) h in memory_fit m f.displaced f.scaled_
fields_fit_of (Cmov c d s) h = refl
fields_fit_of (Push s) h = refl
fields_fit_of (Pop d) h = refl
fields_fit_of (Alu o d s) h =
    let f = formed (Alu o d s) h in
    source_fit (2 ^ 31) s (omega arith) (omega arith) f.constant (loaded displacement_fits s f.displaced) (loaded has_scale s f.scaled_)
fields_fit_of (OneIns o d) h = refl
fields_fit_of (Shift o d n) h = byte_fit n 63 (omega arith) (and_parts (nat_le 1 n) _ (formed (Shift o d n) h).counted).1
fields_fit_of (Imul d s) h =
    let f = formed (Imul d s) h in
    unconstant_fit s f.constant (loaded displacement_fits s f.displaced) (loaded has_scale s f.scaled_)
fields_fit_of (Mul s) h =
    let f = formed (Mul s) h in
    unconstant_fit s f.constant (loaded displacement_fits s f.displaced) (loaded has_scale s f.scaled_)
fields_fit_of (Mulx high low s) h =
    let f = formed (Mulx high low s) h in
    unconstant_fit s f.constant (loaded displacement_fits s f.displaced) (loaded has_scale s f.scaled_)
fields_fit_of (Carry o d s) h =
    let f = formed (Carry o d s) h in
    unconstant_fit s f.constant (loaded displacement_fits s f.displaced) (loaded has_scale s f.scaled_)
fields_fit_of (XMov d s) h = refl
fields_fit_of (XLoad d m) h = let f = formed (XLoad d m) h in memory_fit m f.displaced f.scaled_
fields_fit_of (XStore m s) h = let f = formed (XStore m s) h in memory_fit m f.displaced f.scaled_
fields_fit_of (XBin o d s) h = refl
fields_fit_of (XShuf d s n) h = (formed (XShuf d s n) h).counted
fields_fit_of (XShift o d n) h = (formed (XShift o d n) h).counted
fields_fit_of (XIns d s n) h = byte_fit n 1 (omega arith) (formed (XIns d s n) h).counted
fields_fit_of (XExt d s n) h = byte_fit n 1 (omega arith) (formed (XExt d s n) h).counted
fields_fit_of (XMovq d s) h = refl
fields_fit_of (XClmul d s n) h = choice_fit n (formed (XClmul d s n) h).counted

-- What fits is read back.

readable : (z : ℤ) → size z < 2 ^ 63 → Readable z
readable (pos n) h = readable_pos n (omega (arith, h))
readable (negsuc n) h = readable_neg n (omega (arith, h))

byte_readable : (n : ℕ) → is_u8 n ≡ true → Readable (pos n) × (at_most 255 (pos n) ≡ Some n)
byte_readable n h = let below = leb-true n 255 h in (readable_pos n (omega (arith, below)), at_most_back 255 n below)

addressable : (m : Mem) → memory_fits m ≡ true → Addressable m
addressable m h =
    let p = and_parts (is_i32 m.disp) _ h in
    let small = size_below (2 ^ 31) m.disp (omega arith) p.0 in
    record {
      disp = readable m.disp (omega (arith, small));
      short = ap (λ (t : Bool). if t then Some m.disp else None) p.0;
      scale = by_index m.index p.1;
    }
  where
    by_index : (i : Option (GeneralReg × ℕ)) → scale_fits i ≡ true → IfSome i (λ i. Readable (pos i.1) × (at_most 255 (pos i.1) ≡ Some i.1))
    by_index None h = tt
    by_index (Some i) h = byte_readable i.1 h

source_legible : (s : Opr) → source_fits s ≡ true → Legible (source s)
source_legible (R r) h = tt
source_legible (Imm z) h = readable z (size_below (2 ^ 63) z (omega arith) h)
source_legible (M m) h = addressable m h

move_source_legible : (s : Opr) → source_fits s ≡ true → Legible (move_source s)
move_source_legible (R r) h = tt
move_source_legible (Imm z) h = readable_pos (word_of z) (word_fits z (size_below (2 ^ 63) z (omega arith) h))
move_source_legible (M m) h = addressable m h

operands_legible : (i : Ins) → FieldsFit i → AllLegible (operands i)
operands_legible (Mov d s) h = (tt, move_source_legible s h)
operands_legible (Store m s) h = (addressable m h, tt)
operands_legible (Load1 d m) h = (tt, addressable m h)
operands_legible (Load4 d m) h = (tt, addressable m h)
operands_legible (Store4 m s) h = (addressable m h, tt)
operands_legible (Lea d m) h = (tt, addressable m h)
operands_legible (Cmov c d s) h = (tt, tt)
operands_legible (Push s) h = tt
operands_legible (Pop d) h = tt
operands_legible (Alu o d s) h = (tt, source_legible s h)
operands_legible (OneIns o d) h = tt
operands_legible (Shift o d n) h = (tt, (byte_readable n h).0)
operands_legible (Imul d s) h = (tt, source_legible s h)
operands_legible (Mul s) h = source_legible s h
operands_legible (Mulx high low s) h = (tt, (tt, source_legible s h))
operands_legible (Carry o d s) h = (tt, source_legible s h)
operands_legible (XMov d s) h = (tt, tt)
operands_legible (XLoad d m) h = (tt, addressable m h)
operands_legible (XStore m s) h = (addressable m h, tt)
operands_legible (XBin o d s) h = (tt, tt)
operands_legible (XShuf d s n) h = (tt, (tt, (byte_readable n h).0))
operands_legible (XShift o d n) h = (tt, (byte_readable n h).0)
operands_legible (XIns d s n) h = (tt, (tt, (byte_readable n h).0))
operands_legible (XExt d s n) h = (tt, (tt, (byte_readable n h).0))
operands_legible (XMovq d s) h = (tt, tt)
operands_legible (XClmul d s n) h = (tt, (tt, (byte_readable n h).0))

-- The operands of an instruction are read back, and make the instruction.
pub record Back (i : Ins) : Type 0 where
  pub legible : AllLegible (operands i)
  pub same : instruction (operation i) (operands i) ≡ Some i

pub back : (i : Ins) → is_ok (form_of i) ≡ true → Back i
back i h = let fit = fields_fit_of i h in record { legible = operands_legible i fit; same = made_again i fit }
