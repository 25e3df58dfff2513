-- What the equations of the table leave, in plain numbers.
use Rattle.std.proofs.Common.{◌≡◌, ℕ, ◌+◌, ◌-◌, ◌%◌, ◌<◌, ◌^◌, pos, false, not, List, [], ◌∷◌, length, refl, ap, ◌∙◌, subst, arith, mod-eq_of_lt}
use Rattle.std.specs.Prelude.{◌==◌, bit_and, bit_or, bit_xor, nat_le, nat_lt}
use Rattle.std.proofs.lemmas.List.{get_or-set_same, length-set}
use Rattle.x64_syntax.specs.declared.places.Reg.{Reg as GeneralReg}
use Rattle.x64_syntax.specs.declared.places.Reg.TheVariants.{Rax, Rdx}
use Rattle.x64_syntax.specs.declared.places.FlagName.{FlagName}
use Rattle.x64_syntax.specs.declared.places.FlagName.TheVariants.{Cf, Zf, Sf, Of}
use Rattle.x64_syntax.specs.declared.places.MachinePlace.TheVariants.{Reg}
use Rattle.x64_syntax.specs.declared.instructions.AluOp.{AluOp}
use Rattle.x64_syntax.specs.declared.instructions.AluOp.TheVariants as alu
use Rattle.x64_syntax.specs.Places.{reg_number}
use Rattle.x64_syntax.proofs.PlaceLemmas.{reg_number_lt}
use Rattle.word_ops.specs.Words.{bit}
use Rattle.word_ops.specs.Words as words
use Rattle.term_core.specs.declared.operator.UnOp.TheVariants as un
use Rattle.term_core.specs.declared.operator.BinOp.{BinOp}
use Rattle.term_core.specs.declared.operator.BinOp.TheVariants as bin
use Rattle.term_core.specs.Value.{T, Val, Word, word}
use Rattle.x64_meaning.specs.declared.machine.Flag.{Flag as FlagValue}
use Rattle.x64_meaning.specs.declared.machine.Flag.TheVariants.{Zero, Undefined}
use Rattle.x64_meaning.specs.State.{State, reg, flag, read}
use Rattle.x64_meaning.specs.Exp.{Exp, Before, After, Loaded, Int, W64, Un, Bin}
use Rattle.x64_meaning.specs.Table.{Equation, gets, sets, int_of, sum, difference, xor_of, sum_with, sum_with_reaches, reaches, one_if, zero_of, sign_of, flags_of, sum_overflow, difference_overflow, logic_equations, alu_equations, flag_in, lower, upper, undefined_flag, one_unless, product_equations, carry_equations, apply}
use Rattle.x64_meaning.specs.inner.Steps.{is_one, flag_if, negative, set_flag, set_reg, with_result, result_state, difference_overflows, alu_effect, product_state, halves, wide_product, carry_state, Fits}
use Rattle.x64_meaning.proofs.Numbers.{bit-lt, sum_in_two, plain_sum, plain_difference, difference_in_two}
use Rattle.x64_meaning.proofs.Parts.{IsWord, IsWhole, IsTruth, IsFlag, constant, sum_word, difference_word, and_word, or_word, xor_word, number, whole_sum, as_word, reached, below, equal, flag_where, flag_unless, product_word, upper_word}
use Rattle.x64_meaning.proofs.Parts as parts

-- the equation of a register whose right side is a word
pub one_reg : (s now : State) (m : ℕ → Val) (d : GeneralReg) (e : Exp) (n : ℕ) (es : List Equation) → IsWord (read s) (read now) m e n → apply s m (gets (Reg d) e ∷ es) now ≡ apply s m es (set_reg d n now)
one_reg s now m d e n es h = ap (λ k. apply s m es (set_reg d k now)) (ap word h.value ∙ mod-eq_of_lt h.small)

-- the equation of a flag
pub one_flag : (s now : State) (m : ℕ → Val) (f : FlagName) (e : Exp) (v : FlagValue) (es : List Equation) → IsFlag (read s) (read now) m e v → apply s m (sets f e ∷ es) now ≡ apply s m es (set_flag f v now)
one_flag s now m f e v es h = ap (λ w. apply s m es (set_flag f w now)) h.value

-- what a register holds that was set
pub got : (s : State) (d : GeneralReg) (n : ℕ) → Fits s → reg (set_reg d n s) d ≡ n
got s d n fits = get_or-set_same s.regs (reg_number d) n 0 (omega (arith, fits.regs, reg_number_lt d))

-- the flags of a result r whose expression is worth r at each state that keeps the registers
module _ (s : State) (m : ℕ → Val) (r : ℕ) (e : Exp) where
  abbrev Keeps : State → Type 0
  Keeps now = (flags : List FlagValue) → IsWord (read s) (read (record now { flags = flags })) m e r

  zero_is : (now : State) → IsWord (read s) (read now) m e r → IsFlag (read s) (read now) m (zero_of e) (flag_if (r == 0))
  zero_is now h = flag_where (read s) (read now) m _ _ (equal (read s) (read now) m e (W64 0) r 0 h (constant (read s) (read now) m 0 (omega arith)))

  sign_is : (now : State) → IsWord (read s) (read now) m e r → IsFlag (read s) (read now) m (sign_of e) (flag_if (negative r))
  sign_is now h = flag_where (read s) (read now) m _ _ (reached (read s) (read now) m (2 ^ 63) (int_of e) r (number (read s) (read now) m e r h))

  pub flags_are : (now : State) (c o : Exp) (carry overflow : FlagValue) → Keeps now → ((flags : List FlagValue) → IsFlag (read s) (read (record now { flags = flags })) m c carry) → ((flags : List FlagValue) → IsFlag (read s) (read (record now { flags = flags })) m o overflow) → apply s m (flags_of e c o) now ≡ with_result r carry overflow now
  flags_are now c o carry overflow keeps is_c is_o =
      let now1 = set_flag Cf carry now in
      let now2 = set_flag Zf (flag_if (r == 0)) now1 in
      let now3 = set_flag Sf (flag_if (negative r)) now2 in
      one_flag s now m Cf c carry (sets Zf (zero_of e) ∷ sets Sf (sign_of e) ∷ sets Of o ∷ []) (is_c now.flags)
      ∙ one_flag s now1 m Zf (zero_of e) (flag_if (r == 0)) (sets Sf (sign_of e) ∷ sets Of o ∷ []) (zero_is now1 (keeps now1.flags))
      ∙ one_flag s now2 m Sf (sign_of e) (flag_if (negative r)) (sets Of o ∷ []) (sign_is now2 (keeps now2.flags))
      ∙ one_flag s now3 m Of o overflow [] (is_o now3.flags)

-- a register's result and its flags
pub finishes : (s : State) (m : ℕ → Val) (d : GeneralReg) (e c o : Exp) (r : ℕ) (carry overflow : FlagValue) → Fits s → IsWord (read s) (read s) m e r → ((now : State) → reg now d ≡ r → IsFlag (read s) (read now) m c carry) → ((now : State) → reg now d ≡ r → IsFlag (read s) (read now) m o overflow) → apply s m (gets (Reg d) e ∷ flags_of (After (Reg d)) c o) s ≡ result_state d r carry overflow s
finishes s m d e c o r carry overflow fits is_r is_c is_o =
    let now = set_reg d r s in
    let here : reg now d ≡ r = got s d r fits in
    one_reg s s m d e r (flags_of (After (Reg d)) c o) is_r
    ∙ flags_are s m r (After (Reg d)) now c o carry overflow
    (λ flags. record { value = ap Word here; small = is_r.small; sort = refl })
    (λ flags. is_c (record now { flags = flags }) here)
    (λ flags. is_o (record now { flags = flags }) here)

-- the instructions of a register and a word b
module _ (s : State) (m : ℕ → Val) (d : GeneralReg) (b : ℕ) (fits : Fits s) (small : b < T) (first : m 0 ≡ Word b) where
  abbrev a : ℕ
  a = reg s d

  abbrev A : Exp
  A = Before (Reg d)

  abbrev B : Exp
  B = Loaded 0

  abbrev R : Exp
  R = After (Reg d)

  module _ (now : State) where
    abbrev IsW : Exp → ℕ → Type 0
    IsW e n = IsWord (read s) (read now) m e n

    abbrev IsZ : Exp → ℕ → Type 0
    IsZ e n = IsWhole (read s) (read now) m e (pos n)

    abbrev IsF : Exp → FlagValue → Type 0
    IsF e f = IsFlag (read s) (read now) m e f

    wa : IsW A a
    wa = record { value = refl; small = fits.each d; sort = refl }

    wb : IsW B b
    wb = record { value = first; small = small; sort = refl }

    wr : (r : ℕ) → r < T → reg now d ≡ r → IsW R r
    wr r lt h = record { value = ap Word h; small = lt; sort = refl }

    za : IsZ (int_of A) a
    za = number (read s) (read now) m A a wa

    zb : IsZ (int_of B) b
    zb = number (read s) (read now) m B b wb

    -- the flag as a number, and as a word
    zc : (f : FlagName) → IsZ (flag_in f) (bit (is_one (flag s f)))
    zc f = parts.flag_number (read s) (read now) m f (flag s f) refl

    wc : (f : FlagName) → IsW (Un un.Word (flag_in f)) (bit (is_one (flag s f)) % T)
    wc f = as_word (read s) (read now) m (flag_in f) (bit (is_one (flag s f))) (zc f) (bit-lt (is_one (flag s f)))

    -- a flag that says whether a word is negative
    high : (e : Exp) (n : ℕ) → IsW e n → IsF (reaches (2 ^ 63) (int_of e)) (flag_if (negative n))
    high e n h = flag_where (read s) (read now) m _ _ (reached (read s) (read now) m (2 ^ 63) (int_of e) n (number (read s) (read now) m e n h))

    sum_over : (r : ℕ) → r < T → reg now d ≡ r → IsF (sum_overflow A B R) (flag_if (negative (bit_and (bit_xor a r) (bit_xor b r))))
    sum_over r lt h =
        let left = xor_word (read s) (read now) m A R a r wa (wr r lt h) in
        let right = xor_word (read s) (read now) m B R b r wb (wr r lt h) in
        high _ _ (and_word (read s) (read now) m (xor_of A R) (xor_of B R) (bit_xor a r) (bit_xor b r) left right)

    difference_over : (e : Exp) (r : ℕ) → IsW e r → IsF (difference_overflow A B e) (difference_overflows a b r)
    difference_over e r h =
        let left = xor_word (read s) (read now) m A B a b wa wb in
        let right = xor_word (read s) (read now) m A e a r wa h in
        high _ _ (and_word (read s) (read now) m (xor_of A B) (xor_of A e) (bit_xor a b) (bit_xor a r) left right)

    -- a flag of a sum of three, and of two
    carries3 : (f : FlagName) → IsF (sum_with_reaches f A B) (flag_if (words.carries a b (is_one (flag s f))))
    carries3 f =
        let two = whole_sum (read s) (read now) m (int_of A) (int_of B) a b za zb in
        let three = whole_sum (read s) (read now) m (sum (int_of A) (int_of B)) (flag_in f) (a + b) (bit (is_one (flag s f))) two (zc f) in
        flag_where (read s) (read now) m _ _ (reached (read s) (read now) m T _ _ three)

    carries2 : IsF (reaches T (sum (int_of A) (int_of B))) (flag_if (words.carries a b false))
    carries2 =
        let two = whole_sum (read s) (read now) m (int_of A) (int_of B) a b za zb in
        let r = flag_where (read s) (read now) m _ _ (reached (read s) (read now) m T _ _ two) in
        record { value = r.value ∙ ap (λ n. flag_if (nat_le T n)) (let e : a + b ≡ a + b + 0 = omega arith in e) }

  -- what the equations of each operation leave
  abbrev does_alu : AluOp → State
  does_alu op = apply s m (alu_equations op (Reg d) A B R) s

  sum_leaves : (r : ℕ) (e c : Exp) (carry : FlagValue) → r < T → IsW s e r → ((now : State) → IsF now c carry) → apply s m (gets (Reg d) e ∷ flags_of R c (sum_overflow A B R)) s ≡ result_state d r carry (flag_if (negative (bit_and (bit_xor a r) (bit_xor b r)))) s
  sum_leaves r e c carry lt is_r is_c = finishes s m d e c (sum_overflow A B R) r carry _ fits is_r (λ now h. is_c now) (λ now h. sum_over now r lt h)

  difference_leaves : (r : ℕ) (e c : Exp) (carry : FlagValue) → r < T → IsW s e r → ((now : State) → IsF now c carry) → apply s m (gets (Reg d) e ∷ flags_of R c (difference_overflow A B R)) s ≡ result_state d r carry (difference_overflows a b r) s
  difference_leaves r e c carry lt is_r is_c = finishes s m d e c (difference_overflow A B R) r carry _ fits is_r (λ now h. is_c now) (λ now h. difference_over now R r (wr now r lt h))

  to_word : (e : Exp) (k n : ℕ) → k ≡ n → IsW s e k → IsW s e n
  to_word e k n same h = record { value = h.value ∙ ap Word same; small = subst (λ x. x < T) same h.small; sort = h.sort }

  add_leaves : does_alu alu.Add ≡ alu_effect alu.Add s d b
  add_leaves =
      let is_r = to_word (sum A B) ((a + b) % T) (words.sum a b false) (plain_sum a b) (sum_word (read s) (read s) m A B a b (wa s) (wb s)) in
      sum_leaves (words.sum a b false) _ _ _ is_r.small is_r (λ now. carries2 now)

  three_word : (f : FlagName) → IsW s (sum_with f A B) (words.sum a b (is_one (flag s f)))
  three_word f =
      let c = is_one (flag s f) in
      let two = sum_word (read s) (read s) m A B a b (wa s) (wb s) in
      let three = sum_word (read s) (read s) m (sum A B) (Un un.Word (flag_in f)) ((a + b) % T) (bit c % T) two (wc s f) in
      to_word (sum_with f A B) _ _ (sum_in_two a b c) three

  adc_leaves : does_alu alu.Adc ≡ alu_effect alu.Adc s d b
  adc_leaves = let is_r = three_word Cf in sum_leaves _ _ _ _ is_r.small is_r (λ now. carries3 now Cf)

  two_word : IsW s (difference A B) (words.difference a b false)
  two_word = to_word (difference A B) _ _ (plain_difference a b small) (difference_word (read s) (read s) m A B a b (wa s) (wb s))

  borrows2 : (now : State) → IsF now (one_if (Bin bin.Lt (int_of A) (int_of B))) (flag_if (words.borrows a b false))
  borrows2 now =
      let r = flag_where (read s) (read now) m _ _ (below (read s) (read now) m (int_of A) (int_of B) a b (za now) (zb now)) in
      record { value = r.value ∙ ap (λ n. flag_if (nat_lt a n)) (let e : b ≡ b + 0 = omega arith in e) }

  sub_leaves : does_alu alu.Sub ≡ alu_effect alu.Sub s d b
  sub_leaves = difference_leaves _ _ _ _ two_word.small two_word borrows2

  borrows3 : (now : State) → IsF now (one_if (Bin bin.Lt (int_of A) (sum (int_of B) (flag_in Cf)))) (flag_if (words.borrows a b (is_one (flag s Cf))))
  borrows3 now =
      let right = whole_sum (read s) (read now) m (int_of B) (flag_in Cf) b (bit (is_one (flag s Cf))) (zb now) (zc now Cf) in
      flag_where (read s) (read now) m _ _ (below (read s) (read now) m (int_of A) _ a _ (za now) right)

  sbb_word : IsW s (difference (difference A B) (Un un.Word (flag_in Cf))) (words.difference a b (is_one (flag s Cf)))
  sbb_word =
      let c = is_one (flag s Cf) in
      let two = difference_word (read s) (read s) m A B a b (wa s) (wb s) in
      let three = difference_word (read s) (read s) m (difference A B) (Un un.Word (flag_in Cf)) ((a + T - b) % T) (bit c % T) two (wc s Cf) in
      to_word _ _ _ (difference_in_two a b c small) three

  sbb_leaves : does_alu alu.Sbb ≡ alu_effect alu.Sbb s d b
  sbb_leaves = difference_leaves _ _ _ _ sbb_word.small sbb_word borrows3

  cmp_leaves : does_alu alu.Cmp ≡ alu_effect alu.Cmp s d b
  cmp_leaves =
      let r = words.difference a b false in
      let here : (now : State) → IsW now (difference A B) r = λ now. record { value = two_word.value; small = two_word.small; sort = refl } in
      flags_are s m r (difference A B) s _ _ _ (difference_overflows a b r)
      (λ flags. here (record s { flags = flags }))
      (λ flags. borrows2 (record s { flags = flags }))
      (λ flags. difference_over (record s { flags = flags }) (difference A B) r (here (record s { flags = flags })))

  zero_leaves : (now : State) → IsF now (Int (pos 0)) Zero
  zero_leaves now = record { value = refl }

  logic_leaves : (op : BinOp) (r : ℕ) → IsW s (Bin op A B) r → apply s m (logic_equations op (Reg d) A B R) s ≡ result_state d r Zero Zero s
  logic_leaves op r is_r = finishes s m d (Bin op A B) (Int (pos 0)) (Int (pos 0)) r Zero Zero fits is_r (λ now h. zero_leaves now) (λ now h. zero_leaves now)

  pub alu_leaves : (op : AluOp) → does_alu op ≡ alu_effect op s d b
  alu_leaves alu.Add = add_leaves
  alu_leaves alu.Adc = adc_leaves
  alu_leaves alu.Sub = sub_leaves
  alu_leaves alu.Sbb = sbb_leaves
  alu_leaves alu.Cmp = cmp_leaves
  alu_leaves alu.And = logic_leaves bin.And (bit_and a b) (and_word (read s) (read s) m A B a b (wa s) (wb s))
  alu_leaves alu.Or = logic_leaves bin.Or (bit_or a b) (or_word (read s) (read s) m A B a b (wa s) (wb s))
  alu_leaves alu.Xor = logic_leaves bin.Xor (bit_xor a b) (xor_word (read s) (read s) m A B a b (wa s) (wb s))

  -- a product's halves
  lower_word : (now : State) (e : Exp) (x : ℕ) → IsW now e x → IsW now (lower e B) (words.lower x b)
  lower_word now e x h = product_word (read s) (read now) m e B x b h (wb now)

  upper_half : (now : State) (e : Exp) (x : ℕ) → IsW now e x → IsW now (upper e B) (words.upper x b)
  upper_half now e x h = upper_word (read s) (read now) m e B x b h (wb now)

  before_word : (now : State) (r : GeneralReg) → IsW now (Before (Reg r)) (reg s r)
  before_word now r = record { value = refl; small = fits.each r; sort = refl }

  pub imul_leaves : apply s m (gets (Reg d) (lower A B) ∷ sets Cf undefined_flag ∷ sets Zf undefined_flag ∷ sets Sf undefined_flag ∷ sets Of undefined_flag ∷ []) s ≡ product_state s d b
  imul_leaves = one_reg s s m d (lower A B) (words.lower a b) (sets Cf undefined_flag ∷ sets Zf undefined_flag ∷ sets Sf undefined_flag ∷ sets Of undefined_flag ∷ []) (lower_word s A a (wa s))

  pub mulx_leaves : (l : GeneralReg) → apply s m (gets (Reg d) (upper (Before (Reg Rdx)) B) ∷ gets (Reg l) (lower (Before (Reg Rdx)) B) ∷ []) s ≡ halves s d l b
  mulx_leaves l =
      let x = reg s Rdx in
      let now = set_reg d (words.upper x b) s in
      one_reg s s m d (upper (Before (Reg Rdx)) B) (words.upper x b) (gets (Reg l) (lower (Before (Reg Rdx)) B) ∷ []) (upper_half s (Before (Reg Rdx)) x (before_word s Rdx))
      ∙ one_reg s now m l (lower (Before (Reg Rdx)) B) (words.lower x b) [] (lower_word now (Before (Reg Rdx)) x (before_word now Rdx))

  pub mul_leaves : apply s m (product_equations (Before (Reg Rax)) B) s ≡ wide_product s b
  mul_leaves =
      let x = reg s Rax in
      let high = words.upper x b in
      let over : Exp = one_unless (Bin bin.Eq (After (Reg Rdx)) (W64 0)) in
      let rest : List Equation = sets Cf over ∷ sets Zf undefined_flag ∷ sets Sf undefined_flag ∷ sets Of over ∷ [] in
      let now1 = set_reg Rax (words.lower x b) s in
      let now2 = set_reg Rdx high now1 in
      let now3 = set_flag Cf (flag_if (not (high == 0))) now2 in
      let now4 = set_flag Sf Undefined (set_flag Zf Undefined now3) in
      let len : length now1.regs ≡ 16 = length-set s.regs (reg_number Rax) (words.lower x b) ∙ fits.regs in
      let here : reg now2 Rdx ≡ high = get_or-set_same now1.regs (reg_number Rdx) high 0 (omega (arith, len, reg_number_lt Rdx)) in
      let small_high = (upper_half s (Before (Reg Rax)) x (before_word s Rax)).small in
      let is_over : (now : State) → reg now Rdx ≡ high → IsF now over (flag_if (not (high == 0))) = λ now h.
      flag_unless (read s) (read now) m _ _ (equal (read s) (read now) m (After (Reg Rdx)) (W64 0) high 0 (record { value = ap Word h; small = small_high; sort = refl }) (constant (read s) (read now) m 0 (omega arith))) in
      one_reg s s m Rax (lower (Before (Reg Rax)) B) (words.lower x b) (gets (Reg Rdx) (upper (Before (Reg Rax)) B) ∷ rest) (lower_word s (Before (Reg Rax)) x (before_word s Rax))
      ∙ one_reg s now1 m Rdx (upper (Before (Reg Rax)) B) high rest (upper_half now1 (Before (Reg Rax)) x (before_word now1 Rax))
      ∙ one_flag s now2 m Cf over (flag_if (not (high == 0))) (sets Zf undefined_flag ∷ sets Sf undefined_flag ∷ sets Of over ∷ []) (is_over now2 here)
      ∙ one_flag s now4 m Of over (flag_if (not (high == 0))) [] (is_over now4 here)

  pub carry_leaves : (f : FlagName) → apply s m (carry_equations f (Reg d) A B) s ≡ carry_state f s d b
  carry_leaves f =
      let r = words.sum a b (is_one (flag s f)) in
      one_reg s s m d (sum_with f A B) r (sets f (sum_with_reaches f A B) ∷ []) (three_word f)
      ∙ one_flag s (set_reg d r s) m f (sum_with_reaches f A B) (flag_if (words.carries a b (is_one (flag s f)))) [] (carries3 (set_reg d r s) f)

  pub mov_leaves : apply s m (gets (Reg d) B ∷ []) s ≡ set_reg d b s
  mov_leaves = one_reg s s m d B b [] (wb s)
