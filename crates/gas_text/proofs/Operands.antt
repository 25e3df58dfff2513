-- Operands are read back from their text.
use Rattle.std.proofs.Common.{◌≡◌, ℕ, suc, ◌^◌, ◌<◌, Bool, true, false, List, [], ◌∷◌, ◌++◌, refl, sym, ap, ◌∙◌, subst, arith, length, Option, None, Some, inl, inr, ℤ, pos, negsuc, decimal}
use Rattle.std.specs.Prelude.{◌==◌, ◌||◌, codes, neg_ℤ, option_map, IfSome, if◌then◌else◌}
use Rattle.std.specs.Fmt.{signed_decimal}
use Rattle.std.specs.List.{list_all}
use Rattle.std.proofs.lemmas.Bool.{and_parts, and_from, eqb-true, false≢true}
use Rattle.std.proofs.lemmas.List.{append-nil, append_assoc}
use Rattle.std.proofs.lemmas.Fmt.{decimal_nonempty}
use Rattle.x64_syntax.specs.declared.places.Reg.{Reg as GeneralReg}
use Rattle.x64_syntax.specs.declared.operands.Mem.{Mem}
use Rattle.x64_syntax.specs.Places.{reg_name, low_name, xmm_name}
use Rattle.x64_syntax.specs.Words.{is_digit_byte}
use Rattle.asm_lines.specs.declared.forms.Part.{Part}
use Rattle.asm_lines.specs.declared.forms.Part.TheVariants.{General, Low, Wide, Number, Memory}
use Rattle.asm_lines.specs.declared.forms.Parts.{Parts}
use Rattle.asm_lines.specs.declared.forms.Parts.TheVariants.{One, Two, Three}
use Rattle.asm_lines.specs.inner.Assembled.{at_most}
use Rattle.gas_text.specs.Gas.{index_text, memory_text, part_text, operands_text}
use Rattle.x64_syntax.specs.inner.Digits.{number_of}
use Rattle.gas_text.specs.inner.Apart.{sides_of, number, displacement, index_of, address_of, memory, part_of, parts_of}
use Rattle.gas_text.proofs.Cuts.{is_plain, lacks, lacks_append, lacks_plain, cut_at, cut_none, differ, Ended, before_end}
use Rattle.x64_syntax.proofs.Digits.{are_digits, read_back}
use Rattle.x64_syntax.proofs.ReadBack.{reg_back, low_back, xmm_back}
use Rattle.gas_text.proofs.Names.{reg_plain, low_no_reg, low_plain, xmm_no_reg, xmm_no_low, xmm_plain}

digits_plain : (ds : List ℕ) → list_all is_digit_byte ds ≡ true → list_all is_plain ds ≡ true
digits_plain [] h = refl
digits_plain (d ∷ ds) h =
    let p = and_parts (is_digit_byte d) _ h in
    and_from _ _ (plain d p.0) (digits_plain ds p.1)
  where
    plain : (b : ℕ) → is_digit_byte b ≡ true → is_plain b ≡ true
    plain b e = by_letter _ _ e where
      by_letter : (l d : Bool) → d ≡ true → ((l || d) || (b == 45)) ≡ true
      by_letter true d e = refl
      by_letter false true e = refl
      by_letter false false e = absurd (false≢true e)

-- a number that is read back from its text
pub record Readable (z : ℤ) : Type 0 where
  pub back : number (signed_decimal z) ≡ Some z
  pub first : ℕ
  pub others : List ℕ
  pub text : signed_decimal z ≡ first ∷ others
  pub plain : list_all is_plain (signed_decimal z) ≡ true

pub readable_pos : (n : ℕ) → n < 2 ^ 64 → Readable (pos n)
readable_pos n h = by_text (decimal n) refl where
  by_text : (ds : List ℕ) → decimal n ≡ ds → Readable (pos n)
  by_text [] e = absurd (omega (arith, decimal_nonempty n h, ap length e))
  by_text (d ∷ ds) e =
      let digits = subst (λ t. list_all is_digit_byte t ≡ true) e (are_digits n h) in
      let digit = and_parts (is_digit_byte d) _ digits in
      let plain = digits_plain (decimal n) (are_digits n h) in
      let no_sign : (d == 45) ≡ false = no_dash d digit.0 in
      record {
        back =
            ap number e
            ∙ ap (λ (t : Bool). if t then option_map (λ n. neg_ℤ (pos n)) (number_of ds) else option_map pos (number_of (d ∷ ds))) no_sign
            ∙ ap (λ t. option_map pos (number_of t)) (sym e)
            ∙ ap (λ o. option_map pos o) (read_back n h);
        first = d;
        others = ds;
        text = e;
        plain = plain;
      }
    where
      no_dash : (b : ℕ) → is_digit_byte b ≡ true → (b == 45) ≡ false
      no_dash b digit = by_test (b == 45) refl where
        by_test : (t : Bool) → (b == 45) ≡ t → t ≡ false
        by_test true same = absurd (false≢true (ap is_digit_byte (sym (eqb-true b 45 same)) ∙ digit))
        by_test false same = refl

pub readable_neg : (n : ℕ) → suc n < 2 ^ 64 → Readable (negsuc n)
readable_neg n h = record {
  back = ap (λ o. option_map (λ n. neg_ℤ (pos n)) o) (read_back (suc n) h);
  first = 45;
  others = decimal (suc n);
  text = refl;
  plain = digits_plain (decimal (suc n)) (are_digits (suc n) h);
}

-- what a memory operand asks of its numbers
pub record Addressable (m : Mem) : Type 0 where
  pub disp : Readable m.disp
  pub short : displacement m.disp ≡ Some m.disp
  pub scale : IfSome m.index (λ i. Readable (pos i.1) × (at_most 255 (pos i.1) ≡ Some i.1))

-- and what an operand asks
abbrev pub Legible : Part → Type 0
Legible (Number z) = Readable z
Legible (Memory m) = Addressable m
Legible _ = Unit {0}

scaled_back : (r : GeneralReg) (n : ℕ) → Readable (pos n) → at_most 255 (pos n) ≡ Some n → index_of (codes "%" ++ (reg_name r ++ (codes "," ++ decimal n))) ≡ Some (r, n)
scaled_back r n h fits =
    let e : sides_of 44 (37 ∷ (reg_name r ++ 44 ∷ decimal n)) ≡ Some (37 ∷ reg_name r, decimal n) = cut_at 44 (37 ∷ reg_name r) (decimal n) (lacks_plain 44 (reg_name r) refl (reg_plain r)) in
    rw (e, reg_back r, h.back, fits) refl

addressed_back : (m : Mem) → Addressable m → address_of m.disp (codes "%" ++ (reg_name m.base ++ index_text m.index)) (sides_of 44 (codes "%" ++ (reg_name m.base ++ index_text m.index))) ≡ Some m
addressed_back m h = by_index m.index refl h.scale where
  by_index : (i : Option (GeneralReg × ℕ)) → m.index ≡ i → IfSome i (λ i. Readable (pos i.1) × (at_most 255 (pos i.1) ≡ Some i.1)) → address_of m.disp (codes "%" ++ (reg_name m.base ++ index_text i)) (sides_of 44 (codes "%" ++ (reg_name m.base ++ index_text i))) ≡ Some m
  by_index None e k =
      let none : sides_of 44 (37 ∷ (reg_name m.base ++ [])) ≡ None = ap (λ t. sides_of 44 (37 ∷ t)) (append-nil (reg_name m.base)) ∙ cut_none 44 (37 ∷ reg_name m.base) (lacks_plain 44 (reg_name m.base) refl (reg_plain m.base)) in
      rw (none, append-nil (reg_name m.base), reg_back m.base) (ap (λ i. Some (record { base = m.base; index = i; disp = m.disp })) (sym e))
  by_index (Some i) e k =
      let inner = codes "%" ++ (reg_name i.0 ++ (codes "," ++ decimal i.1)) in
      let some : sides_of 44 (37 ∷ (reg_name m.base ++ 44 ∷ inner)) ≡ Some (37 ∷ reg_name m.base, inner) = cut_at 44 (37 ∷ reg_name m.base) inner (lacks_plain 44 (reg_name m.base) refl (reg_plain m.base)) in
      rw (some, reg_back m.base, scaled_back i.0 i.1 k.0 k.1) (ap (λ j. Some (record { base = m.base; index = j; disp = m.disp })) (sym e))

-- an index lacks a byte that isn't one of its own
lacks_index : (b : ℕ) → is_plain b ≡ false → lacks b (codes ",") ≡ true → lacks b (codes ",%") ≡ true → (i : Option (GeneralReg × ℕ)) → IfSome i (λ i. Readable (pos i.1) × (at_most 255 (pos i.1) ≡ Some i.1)) → lacks b (index_text i) ≡ true
lacks_index b plain comma percent None k = refl
lacks_index b plain comma percent (Some i) k =
    lacks_append b (codes ",%") (reg_name i.0 ++ (codes "," ++ decimal i.1)) percent
    (lacks_append b (reg_name i.0) (codes "," ++ decimal i.1) (lacks_plain b (reg_name i.0) plain (reg_plain i.0))
    (lacks_append b (codes ",") (decimal i.1) comma (lacks_plain b (decimal i.1) plain k.0.plain)))

memory_split : (m : Mem) (end : List ℕ) → memory_text m ++ end ≡ signed_decimal m.disp ++ (codes "(" ++ ((codes "%" ++ (reg_name m.base ++ index_text m.index)) ++ (codes ")" ++ end)))
memory_split m end =
    let d = signed_decimal m.disp in
    let b = reg_name m.base in
    let i = index_text m.index in
    append_assoc d (codes "(%" ++ (b ++ (i ++ codes ")"))) end
    ∙ ap (λ t. d ++ 40 ∷ 37 ∷ t) (append_assoc b (i ++ codes ")") end ∙ ap (λ t. b ++ t) (append_assoc i (codes ")") end) ∙ sym (append_assoc b i (codes ")" ++ end)))

memory_back : (m : Mem) (end : List ℕ) → Addressable m → memory (memory_text m ++ end) ≡ Some m
memory_back m end h =
    let inner = codes "%" ++ (reg_name m.base ++ index_text m.index) in
    let opened : sides_of 40 (signed_decimal m.disp ++ 40 ∷ (inner ++ 41 ∷ end)) ≡ Some (signed_decimal m.disp, inner ++ 41 ∷ end) =
    cut_at 40 (signed_decimal m.disp) (inner ++ 41 ∷ end) (lacks_plain 40 (signed_decimal m.disp) refl h.disp.plain) in
    let closed : sides_of 41 (inner ++ 41 ∷ end) ≡ Some (inner, end) =
    cut_at 41 inner end (lacks_append 41 (reg_name m.base) (index_text m.index) (lacks_plain 41 (reg_name m.base) refl (reg_plain m.base)) (lacks_index 41 refl refl refl m.index h.scale)) in
    ap memory (memory_split m end) ∙ rw (opened, closed, h.disp.back, h.short) (addressed_back m h)

-- a text that begins as a number is a memory operand
starts_memory : (b : ℕ) (bs : List ℕ) → is_plain b ≡ true → part_of (b ∷ bs) ≡ option_map Memory (memory (b ∷ bs))
starts_memory b bs plain = rw (differ b 37 plain refl, differ b 36 plain refl) refl

pub part_back : (p : Part) (end : List ℕ) → Legible p → Ended end → part_of (part_text p ++ end) ≡ Some p
part_back (General r) end h e = rw (before_end (reg_name r) end (reg_plain r) e, reg_back r) refl
part_back (Low r) end h e = rw (before_end (low_name r) end (low_plain r) e, low_no_reg r, low_back r) refl
part_back (Wide x) end h e = rw (before_end (xmm_name x) end (xmm_plain x) e, xmm_no_reg x, xmm_no_low x, xmm_back x) refl
part_back (Number z) end h e = rw (before_end (signed_decimal z) end h.plain e, h.back) refl
part_back (Memory m) end h e =
    let text : memory_text m ++ end ≡ h.disp.first ∷ (h.disp.others ++ (codes "(" ++ ((codes "%" ++ (reg_name m.base ++ index_text m.index)) ++ (codes ")" ++ end)))) =
    memory_split m end ∙ ap (λ t. t ++ (codes "(" ++ ((codes "%" ++ (reg_name m.base ++ index_text m.index)) ++ (codes ")" ++ end)))) h.disp.text in
    let first = and_parts (is_plain h.disp.first) _ (subst (λ t. list_all is_plain t ≡ true) h.disp.text h.disp.plain) in
    ap part_of text ∙ starts_memory h.disp.first _ first.0 ∙ ap (λ t. option_map Memory (memory t)) (sym text) ∙ ap (λ o. option_map Memory o) (memory_back m end h)

-- a byte that no operand has
pub record Outside (b : ℕ) : Type 0 where
  plain : is_plain b ≡ false
  percent : lacks b (codes "%") ≡ true
  dollar : lacks b (codes "$") ≡ true
  opens : lacks b (codes "(%") ≡ true
  closes : lacks b (codes ")") ≡ true
  comma : lacks b (codes ",") ≡ true
  index : lacks b (codes ",%") ≡ true

pub blank_outside : Outside 32
blank_outside = record { plain = refl; percent = refl; dollar = refl; opens = refl; closes = refl; comma = refl; index = refl }

pub newline_outside : Outside 10
newline_outside = record { plain = refl; percent = refl; dollar = refl; opens = refl; closes = refl; comma = refl; index = refl }

pub part_lacks : (b : ℕ) → Outside b → (p : Part) → Legible p → lacks b (part_text p) ≡ true
part_lacks b o (General r) h = lacks_append b (codes "%") (reg_name r) o.percent (lacks_plain b (reg_name r) o.plain (reg_plain r))
part_lacks b o (Low r) h = lacks_append b (codes "%") (low_name r) o.percent (lacks_plain b (low_name r) o.plain (low_plain r))
part_lacks b o (Wide x) h = lacks_append b (codes "%") (xmm_name x) o.percent (lacks_plain b (xmm_name x) o.plain (xmm_plain x))
part_lacks b o (Number z) h = lacks_append b (codes "$") (signed_decimal z) o.dollar (lacks_plain b (signed_decimal z) o.plain h.plain)
part_lacks b o (Memory m) h =
    lacks_append b (signed_decimal m.disp) (codes "(%" ++ (reg_name m.base ++ (index_text m.index ++ codes ")"))) (lacks_plain b (signed_decimal m.disp) o.plain h.disp.plain)
    (lacks_append b (codes "(%") (reg_name m.base ++ (index_text m.index ++ codes ")")) o.opens
    (lacks_append b (reg_name m.base) (index_text m.index ++ codes ")") (lacks_plain b (reg_name m.base) o.plain (reg_plain m.base))
    (lacks_append b (index_text m.index) (codes ")") (lacks_index b o.plain o.comma o.index m.index h.scale) o.closes)))

-- the text behind an operand and its comma
next_part : (p : Part) (rest : List ℕ) → Legible p → sides_of 32 (part_text p ++ (codes ", " ++ rest)) ≡ Some (part_text p ++ codes ",", rest)
next_part p rest h =
    ap (sides_of 32) (sym (append_assoc (part_text p) (codes ",") (codes " " ++ rest)))
    ∙ cut_at 32 (part_text p ++ codes ",") rest (lacks_append 32 (part_text p) (codes ",") (part_lacks 32 blank_outside p h) refl)

last_part : (p : Part) → Legible p → part_of (part_text p) ≡ Some p
last_part p h = ap part_of (sym (append-nil (part_text p))) ∙ part_back p [] h (inl refl)

front_part : (p : Part) (rest : List ℕ) → Legible p → part_of (part_text p ++ (codes ", " ++ rest)) ≡ Some p
front_part p rest h = part_back p (codes ", " ++ rest) h (inr (codes " " ++ rest, refl))

abbrev pub AllLegible : Parts → Type 0
AllLegible (One a) = Legible a
AllLegible (Two a b) = Legible a × Legible b
AllLegible (Three a b c) = Legible a × (Legible b × Legible c)

pub parts_back : (ps : Parts) → AllLegible ps → parts_of (operands_text ps) ≡ Some ps
parts_back (One a) h = rw (last_part a h, cut_none 32 (part_text a) (part_lacks 32 blank_outside a h)) refl
parts_back (Two a b) h = rw (front_part b (part_text a) h.1, next_part b (part_text a) h.1, last_part a h.0, cut_none 32 (part_text a) (part_lacks 32 blank_outside a h.0)) refl
parts_back (Three a b c) h =
    rw (front_part c (part_text b ++ (codes ", " ++ part_text a)) h.1.1, next_part c (part_text b ++ (codes ", " ++ part_text a)) h.1.1, front_part b (part_text a) h.1.0, next_part b (part_text a) h.1.0, last_part a h.0) refl
