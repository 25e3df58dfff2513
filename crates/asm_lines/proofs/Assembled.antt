-- Instructions are made again of their names and operands.
use Rattle.std.proofs.Common.{◌≡◌, ℕ, ◌-◌, ◌^◌, ◌<◌, ◌≤◌, Bool, true, refl, sym, ap, ◌∙◌, arith, Some, None, ℤ, pos, negsuc, ◌≤ℤ◌, mod-eq_of_lt}
use Rattle.std.specs.Prelude.{int_le, option_map, if◌then◌else◌, FitsSigned}
use Rattle.std.specs.Int.{w64, cast_signed, cast_unsigned}
use Rattle.std.proofs.lemmas.Bool.{and_parts, and_from, le-leb}
use Rattle.std.proofs.lemmas.Int.{to_z-of_z, ints}
use Rattle.std.proofs.lemmas.Float.{T_from_true}
use Rattle.std.specs.Int.Signed.{le_z_yes}
use Rattle.x64_syntax.specs.declared.operands.Opr.{Opr}
use Rattle.x64_syntax.specs.declared.operands.Opr.TheVariants.{R, Imm, M}
use Rattle.x64_syntax.specs.declared.instructions.Ins.{Ins}
use Rattle.x64_syntax.specs.declared.instructions.Ins.TheVariants.{Mov, Store, Load1, Load4, Store4, Lea, Cmov, Push, Pop, Alu, One as OneIns, Shift, Imul, Mul, Mulx, Carry, XMov, XLoad, XStore, XBin, XShuf, XShift, XIns, XExt, XMovq, XClmul}
use Rattle.x64_syntax.specs.declared.operations.Operation.{Operation}
use Rattle.x64_syntax.specs.Numbers.{word_of}
use Rattle.x64_syntax.specs.Ranges.{is_around_zero, is_u8}
use Rattle.x64_syntax.specs.inner.Fields.{source_fits, FieldsFit}
use Rattle.asm_lines.specs.declared.forms.Parts.{Parts}
use Rattle.asm_lines.specs.Operands.{source, move_source, operands, operation}
use Rattle.asm_lines.specs.inner.Assembled.{at_most, of_source, of_move_source, instruction}

-- how far a number is from the middle of a range in two's complement
abbrev pub size : ℤ → ℕ
size (pos n) = n
size (negsuc n) = n

pub size_below : (n : ℕ) (z : ℤ) → 0 < n → is_around_zero n z ≡ true → size z < n
size_below n z some h =
    let p = and_parts (int_le (negsuc (n - 1)) z) _ h in
    by_sign z (le_z_yes (T_from_true _ p.0)) (le_z_yes (T_from_true _ p.1))
  where
    by_sign : (z : ℤ) → negsuc (n - 1) ≤ℤ z → z ≤ℤ pos (n - 1) → size z < n
    by_sign (pos m) low high = omega (arith, ints, some)
    by_sign (negsuc m) low high = omega (arith, ints, some)

pub around_zero : (n : ℕ) (z : ℤ) → size z < n → is_around_zero n z ≡ true
around_zero n (pos m) h = and_from _ _ refl (le-leb m (n - 1) (omega (arith, h)))
around_zero n (negsuc m) h = and_from _ _ (le-leb m (n - 1) (omega (arith, h))) refl

fits : (z : ℤ) → size z < 2 ^ 63 → FitsSigned w64 z
fits (pos n) h = record { sfits = h }
fits (negsuc n) h = record { sfits = h }

pub word_is : (z : ℤ) → size z < 2 ^ 63 → word_of z ≡ cast_unsigned w64 z
word_is (pos n) h = mod-eq_of_lt (omega (arith, h))
word_is (negsuc n) h = let small = mod-eq_of_lt {n = n} {m = 2 ^ 64} (omega (arith, h)) in omega (arith, small, h)

pub back_signed : (z : ℤ) → size z < 2 ^ 63 → cast_signed w64 (word_of z) ≡ z
back_signed z h = ap (cast_signed w64) (word_is z h) ∙ to_z-of_z w64 z (fits z h)

pub word_fits : (z : ℤ) → size z < 2 ^ 63 → word_of z < 2 ^ 64
word_fits (pos n) h = let small = mod-eq_of_lt {n = n} {m = 2 ^ 64} (omega (arith, h)) in omega (arith, small, h)
word_fits (negsuc n) h = let small = mod-eq_of_lt {n = n} {m = 2 ^ 64} (omega (arith, h)) in omega (arith, small, h)

pub at_most_back : (limit n : ℕ) → n ≤ limit → at_most limit (pos n) ≡ Some n
at_most_back limit n h = ap (λ (t : Bool). if t then Some n else None) (le-leb n limit h)

byte_back : (n : ℕ) → is_u8 n ≡ true → at_most 255 (pos n) ≡ Some n
byte_back n h = ap (λ (t : Bool). if t then Some n else None) h

source_back : (s : Opr) → source_fits s ≡ true → of_source (source s) ≡ Some s
source_back (R r) h = refl
source_back (Imm z) h = ap (λ (t : Bool). option_map Imm (if t then Some z else None)) h
source_back (M m) h = refl

move_source_back : (s : Opr) → source_fits s ≡ true → of_move_source (move_source s) ≡ Some s
move_source_back (R r) h = refl
move_source_back (Imm z) h =
    let small = size_below (2 ^ 63) z (omega arith) h in
    ap (λ o. option_map (λ n. Imm (cast_signed w64 n)) o) (at_most_back (2 ^ 64 - 1) (word_of z) (let lt = word_fits z small in omega (arith, lt)))
    ∙ ap (λ i. Some (Imm i)) (back_signed z small)
move_source_back (M m) h = refl

-- of its name and operands nothing but the instruction is made
pub made_again : (i : Ins) → FieldsFit i → instruction (operation i) (operands i) ≡ Some i
made_again (Mov d s) h = ap (λ o. option_map (Mov d) o) (move_source_back s h)
made_again (Store m s) h = refl
made_again (Load1 d m) h = refl
made_again (Load4 d m) h = refl
made_again (Store4 m s) h = refl
made_again (Lea d m) h = refl
made_again (Cmov c d s) h = refl
made_again (Push s) h = refl
made_again (Pop d) h = refl
made_again (Alu o d s) h = ap (λ x. option_map (Alu o d) x) (source_back s h)
made_again (OneIns o d) h = refl
made_again (Shift o d n) h = ap (λ x. option_map (Shift o d) x) (byte_back n h)
made_again (Imul d s) h = ap (λ x. option_map (Imul d) x) (source_back s h)
made_again (Mul s) h = ap (λ x. option_map Mul x) (source_back s h)
made_again (Mulx high low s) h = ap (λ x. option_map (Mulx high low) x) (source_back s h)
made_again (Carry o d s) h = ap (λ x. option_map (Carry o d) x) (source_back s h)
made_again (XMov d s) h = refl
made_again (XLoad d m) h = refl
made_again (XStore m s) h = refl
made_again (XBin o d s) h = refl
made_again (XShuf d s n) h = ap (λ x. option_map (XShuf d s) x) (byte_back n h)
made_again (XShift o d n) h = ap (λ x. option_map (XShift o d) x) (byte_back n h)
made_again (XIns d s n) h = ap (λ x. option_map (XIns d s) x) (byte_back n h)
made_again (XExt d s n) h = ap (λ x. option_map (XExt d s) x) (byte_back n h)
made_again (XMovq d s) h = refl
made_again (XClmul d s n) h = ap (λ x. option_map (XClmul d s) x) (byte_back n h)

pub only_instruction : (o : Operation) (ps : Parts) (i : Ins) → FieldsFit i → operation i ≡ o → operands i ≡ ps → instruction o ps ≡ Some i
only_instruction o ps i h e f = ap (λ x. instruction x ps) (sym e) ∙ ap (instruction (operation i)) (sym f) ∙ made_again i h
