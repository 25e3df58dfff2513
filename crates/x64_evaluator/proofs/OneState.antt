-- A line of a state file sets one thing, so a state file has one first fault at most, and none where it is read.
use Rattle.std.proofs.Common.{◌≡◌, ℕ, ◌+◌, ◌^◌, ◌<◌, true, List, [], ◌∷◌, ◌++◌, length, map, Option, Some, None, option_map, refl, sym, ap, ◌∙◌, arith, decimal, append_assoc, codes}
use Rattle.std.specs.Str.Parse.{digits_value}
use Rattle.std.proofs.lemmas.Bool.{and_parts}
use Rattle.std.proofs.lemmas.Fmt.{decimal_is_IsNumeral_wide}
use Rattle.std.proofs.lemmas.List.{append-nil}
use Rattle.std.proofs.lemmas.Option.{same_Some}
use Rattle.hex.specs.Hex.{decode_of, IsBytes}
use Rattle.hex.proofs.HexLemmas.{decode_of-encode_lower}
use Rattle.x64_syntax.specs.declared.places.Reg.{Reg as GeneralReg}
use Rattle.x64_syntax.specs.declared.places.Reg.TheVariants.{Rax, Rbx, Rcx, Rdx, Rsi, Rdi, Rbp, Rsp, R8, R9, R10, R11, R12, R13, R14, R15}
use Rattle.x64_syntax.specs.declared.places.Xmm.{Xmm as XmmReg}
use Rattle.x64_syntax.specs.declared.places.Xmm.TheVariants.{Xmm0, Xmm1, Xmm2, Xmm3, Xmm4, Xmm5, Xmm6, Xmm7, Xmm8, Xmm9, Xmm10, Xmm11, Xmm12, Xmm13, Xmm14, Xmm15}
use Rattle.x64_syntax.specs.declared.places.FlagName.{FlagName}
use Rattle.x64_syntax.specs.declared.places.FlagName.TheVariants.{Cf, Zf, Sf, Of}
use Rattle.x64_syntax.specs.declared.places.MachinePlace.{MachinePlace}
use Rattle.x64_syntax.specs.declared.places.MachinePlace.TheVariants.{Reg, Xmm, Flag}
use Rattle.x64_syntax.specs.Places.{place_name, reg_name, xmm_name, flag_name, reg_of, xmm_of, flag_of}
use Rattle.x64_blocks.specs.Memory.{Range}
use Rattle.x64_meaning.specs.State.{State}
use Rattle.x64_syntax.proofs.Lists.{same_head, same_tail}
use Rattle.x64_evaluator.specs.StateFile.{Setting, Value, Block, setting_text, range_text, bytes_text, are_bytes, fits, may_follow, may_stand, IsStateOf, StopsAt}
use Rattle.x64_evaluator.proofs.PlaceNames.{no_block}
use Rattle.x64_evaluator.proofs.Texts.{cut_same, few_digits}
use Rattle.x64_evaluator.proofs.Taken.{small, some_items, same_ok, range_base, range_bytes, base_blankless}
use Rattle.x64_evaluator.proofs.Lines.{word_blankless, value_fits, range_fits}

abbrev or_else : Option MachinePlace → Option MachinePlace → Option MachinePlace
or_else (Some p) o = Some p
or_else None o = o

-- what a name names
abbrev place_of : List ℕ → Option MachinePlace
place_of name = or_else (option_map Reg (reg_of name)) (or_else (option_map Xmm (xmm_of name)) (option_map Flag (flag_of name)))

reg_back : (r : GeneralReg) → place_of (reg_name r) ≡ Some (Reg r)
reg_back Rax = refl
reg_back Rbx = refl
reg_back Rcx = refl
reg_back Rdx = refl
reg_back Rsi = refl
reg_back Rdi = refl
reg_back Rbp = refl
reg_back Rsp = refl
reg_back R8 = refl
reg_back R9 = refl
reg_back R10 = refl
reg_back R11 = refl
reg_back R12 = refl
reg_back R13 = refl
reg_back R14 = refl
reg_back R15 = refl

xmm_back : (x : XmmReg) → place_of (xmm_name x) ≡ Some (Xmm x)
xmm_back Xmm0 = refl
xmm_back Xmm1 = refl
xmm_back Xmm2 = refl
xmm_back Xmm3 = refl
xmm_back Xmm4 = refl
xmm_back Xmm5 = refl
xmm_back Xmm6 = refl
xmm_back Xmm7 = refl
xmm_back Xmm8 = refl
xmm_back Xmm9 = refl
xmm_back Xmm10 = refl
xmm_back Xmm11 = refl
xmm_back Xmm12 = refl
xmm_back Xmm13 = refl
xmm_back Xmm14 = refl
xmm_back Xmm15 = refl

flag_back : (f : FlagName) → place_of (flag_name f) ≡ Some (Flag f)
flag_back Cf = refl
flag_back Zf = refl
flag_back Sf = refl
flag_back Of = refl

named_back : (p : MachinePlace) → place_of (place_name p) ≡ Some p
named_back (Reg r) = reg_back r
named_back (Xmm x) = xmm_back x
named_back (Flag f) = flag_back f

same_place : (p q : MachinePlace) → place_name p ≡ place_name q → p ≡ q
same_place p q e = same_Some _ _ (sym (named_back p) ∙ ap place_of e ∙ named_back q)

same_number : (m n : ℕ) → m < 2 ^ 128 → n < 2 ^ 128 → decimal m ≡ decimal n → m ≡ n
same_number m n lt lt' e =
    sym (decimal_is_IsNumeral_wide m (few_digits m lt)).1 ∙ ap (digits_value 10) e ∙ (decimal_is_IsNumeral_wide n (few_digits n lt')).1

same_bytes : (xs ys : List ℕ) → IsBytes xs → IsBytes ys → bytes_text xs ≡ bytes_text ys → xs ≡ ys
same_bytes [] ys h k e = sym (some_items ys (sym e))
same_bytes (x ∷ xs) [] h k e = some_items (x ∷ xs) e
same_bytes (x ∷ xs) (y ∷ ys) h k e = same_ok (sym (decode_of-encode_lower (x ∷ xs) h) ∙ ap decode_of e ∙ decode_of-encode_lower (y ∷ ys) k)

same_range : (b c : Range) → are_bytes b ≡ true → are_bytes c ≡ true → range_text b ≡ range_text c → b ≡ c
same_range b c h k e =
    let parts = cut_same (decimal b.base) (bytes_text b.bytes) (decimal c.base) (bytes_text c.bytes) (base_blankless b h) (base_blankless c k) e in
    let wide = range_base b h in
    let wide' = range_base c k in
    let base = same_number b.base c.base (omega (arith, wide)) (omega (arith, wide')) parts.0 in
    let bytes = same_bytes b.bytes c.bytes (range_bytes b h) (range_bytes c k) parts.1 in
    ap (λ n. record { base = n; bytes = b.bytes }) base ∙ ap (λ l. record { base = c.base; bytes = l }) bytes

-- two settings with one text are one
same_setting : (s t : Setting) → fits s ≡ true → fits t ≡ true → setting_text s ≡ setting_text t → s ≡ t
same_setting (Value p n) (Value q m) h k e =
    let parts = cut_same (place_name p) (decimal n) (place_name q) (decimal m) (word_blankless (Value p n)) (word_blankless (Value q m)) e in
    ap (λ r. Value r n) (same_place p q parts.0)
    ∙ ap (Value q) (same_number n m (small p n (value_fits p n h)) (small q m (value_fits q m k)) parts.1)
same_setting (Value p n) (Block c) h k e =
    absurd (no_block p (sym (cut_same (place_name p) (decimal n) (codes "block") (range_text c) (word_blankless (Value p n)) (word_blankless (Block c)) e).0))
same_setting (Block b) (Value q m) h k e =
    absurd (no_block q (cut_same (codes "block") (range_text b) (place_name q) (decimal m) (word_blankless (Block b)) (word_blankless (Value q m)) e).0)
same_setting (Block b) (Block c) h k e =
    let parts = cut_same (codes "block") (range_text b) (codes "block") (range_text c) (word_blankless (Block b)) (word_blankless (Block c)) e in
    ap Block (same_range b c (range_fits b h) (range_fits c k) parts.1)

follows : (before : List Setting) (s : Setting) (ss : List Setting) → may_stand before (s ∷ ss) ≡ true → may_follow before s ≡ true
follows before s ss h = (and_parts (may_follow before s) _ h).0

fitting : (before : List Setting) (s : Setting) → may_follow before s ≡ true → fits s ≡ true
fitting before s h = (and_parts (fits s) _ h).0

-- nothing with this text may follow
abbrev NoneMay : List Setting → List ℕ → Type 0
NoneMay before line = (s : Setting) → setting_text s ≡ line → may_follow before s ≡ true → ⊥

nearer : (before : List Setting) (s : Setting) (ss : List Setting) (line : List ℕ) → NoneMay (before ++ s ∷ ss) line → NoneMay ((before ++ s ∷ []) ++ ss) line
nearer before s ss line none t is h = none t is (ap (λ l. may_follow l t) (sym (append_assoc before (s ∷ []) ss)) ∙ h)

module _ (l k : List ℕ) (ls ks : List (List ℕ)) where
  one_length : (before ss ts : List Setting) → may_stand before ss ≡ true → may_stand before ts ≡ true → map setting_text ss ++ l ∷ ls ≡ map setting_text ts ++ k ∷ ks → NoneMay (before ++ ss) l → NoneMay (before ++ ts) k → length ss ≡ length ts
  one_length before [] [] h g e none none' = refl
  one_length before [] (t ∷ ts) h g e none none' =
      absurd (none t (sym (same_head e)) (ap (λ b. may_follow b t) (append-nil before) ∙ follows before t ts g))
  one_length before (s ∷ ss) [] h g e none none' =
      absurd (none' s (same_head e) (ap (λ b. may_follow b s) (append-nil before) ∙ follows before s ss h))
  one_length before (s ∷ ss) (t ∷ ts) h g e none none' =
      let same = same_setting s t (fitting before s (follows before s ss h)) (fitting before t (follows before t ts g)) (same_head e) in
      let rest = one_length (before ++ s ∷ []) ss ts (and_parts (may_follow before s) _ h).1
      (ap (λ x. may_stand (before ++ x ∷ []) ts) same ∙ (and_parts (may_follow before t) _ g).1) (same_tail e)
      (nearer before s ss l none) (nearer before s ts k (λ u is f. none' u is (ap (λ x. may_follow (before ++ x ∷ ts) u) (sym same) ∙ f))) in
      omega (arith, rest)

  no_line : (before ss ts : List Setting) → may_stand before ss ≡ true → may_stand before ts ≡ true → map setting_text ss ≡ map setting_text ts ++ k ∷ ks → NoneMay (before ++ ts) k → ⊥
  no_line before [] [] h g e none = absurd cc
  no_line before [] (t ∷ ts) h g e none = absurd cc
  no_line before (s ∷ ss) [] h g e none = none s (same_head e) (ap (λ b. may_follow b s) (append-nil before) ∙ follows before s ss h)
  no_line before (s ∷ ss) (t ∷ ts) h g e none =
      let same = same_setting s t (fitting before s (follows before s ss h)) (fitting before t (follows before t ts g)) (same_head e) in
      no_line (before ++ s ∷ []) ss ts (and_parts (may_follow before s) _ h).1
      (ap (λ x. may_stand (before ++ x ∷ []) ts) same ∙ (and_parts (may_follow before t) _ g).1) (same_tail e)
      (nearer before s ts k (λ u is f. none u is (ap (λ x. may_follow (before ++ x ∷ ts) u) (sym same) ∙ f)))

pub one_stop : (lines : List (List ℕ)) (m n : ℕ) → StopsAt lines m → StopsAt lines n → m ≡ n
one_stop lines m n x y =
    let same = one_length x.line y.line x.behind y.behind [] x.settings y.settings x.allowed y.allowed (sym x.are ∙ y.are) x.none y.none in
    x.is ∙ ap (λ k. k + 1) same ∙ sym y.is

pub no_stop : (lines : List (List ℕ)) (s : State) (n : ℕ) → IsStateOf lines s → StopsAt lines n → ⊥
no_stop lines s n x y = no_line y.line y.line y.behind y.behind [] x.settings y.settings x.allowed y.allowed (sym x.are ∙ y.are) y.none
