-- The lines of a text: each without a newline of its own.
use Rattle.std.proofs.Common.{◌≡◌, ℕ, ◌+◌, Bool, true, false, List, [], ◌∷◌, ◌++◌, refl, sym, ap, ◌∙◌, arith, length, decimal, ◌^◌}
use Rattle.std.specs.Prelude.{◌||◌, ◌==◌, not, nat_lt, codes, Option, Some, None, is_ok, if◌then◌else◌}
use Rattle.std.specs.List.{list_all}
use Rattle.std.proofs.lemmas.Bool.{and_parts, and_from, false≢true, ltb-true}
use Rattle.std.proofs.lemmas.List.{append-nil, append_assoc}
use Rattle.x64_syntax.specs.declared.conditions.Cond.{Cond}
use Rattle.x64_syntax.specs.declared.conditions.Cond.TheVariants as condition
use Rattle.x64_syntax.specs.declared.instructions.Ins.{Ins}
use Rattle.x64_syntax.specs.declared.items.Item.{Item}
use Rattle.x64_syntax.specs.declared.items.Item.TheVariants as item
use Rattle.x64_syntax.specs.Words.{is_export_text, is_name_byte}
use Rattle.x64_syntax.specs.Instructions.{form_of}
use Rattle.x64_syntax.specs.Programs.{is_item}
use Rattle.asm_lines.specs.declared.forms.Part.{Part}
use Rattle.asm_lines.specs.declared.forms.Parts.{Parts}
use Rattle.asm_lines.specs.declared.forms.Parts.TheVariants.{One, Two, Three}
use Rattle.asm_lines.specs.declared.lines.Syntax.TheVariants.{Gas}
use Rattle.asm_lines.specs.Operands.{operands}
use Rattle.asm_lines.specs.Lines.{mnemonic}
use Rattle.gas_text.specs.Gas.{part_text, operands_text, line, lines, unlines, items_text}
use Rattle.gas_text.specs.Text.{newlines}
use Rattle.gas_text.specs.inner.Apart.{sides_of}
use Rattle.gas_text.proofs.Cuts.{is_plain, lacks, lacks_append, lacks_plain, cut_at}
use Rattle.gas_text.proofs.Operands.{readable_pos, Legible, AllLegible, part_lacks, newline_outside}
use Rattle.gas_text.proofs.Built.{back}
use Rattle.gas_text.proofs.Found.{mnemonic_clean}

part_clean : (p : Part) → Legible p → lacks 10 (part_text p) ≡ true
part_clean p h = part_lacks 10 newline_outside p h

operands_clean : (ps : Parts) → AllLegible ps → lacks 10 (operands_text ps) ≡ true
operands_clean (One a) h = part_clean a h
operands_clean (Two a b) h = lacks_append 10 (part_text b) (codes ", " ++ part_text a) (part_clean b h.1) (part_clean a h.0)
operands_clean (Three a b c) h =
    lacks_append 10 (part_text c) (codes ", " ++ (part_text b ++ (codes ", " ++ part_text a))) (part_clean c h.1.1) (lacks_append 10 (part_text b) (codes ", " ++ part_text a) (part_clean b h.1.0) (part_clean a h.0))

ins_clean : (i : Ins) → is_ok (form_of i) ≡ true → lacks 10 (line (item.Ins i)) ≡ true
ins_clean i h = lacks_append 10 (mnemonic Gas i) (codes " " ++ operands_text (operands i)) (mnemonic_clean i) (operands_clean (operands i) (back i h).legible)

label_clean : (l : ℕ) → nat_lt l (2 ^ 32) ≡ true → lacks 10 (decimal l) ≡ true
label_clean l h = lacks_plain 10 (decimal l) refl (readable_pos l (let lt = ltb-true l (2 ^ 32) h in omega (arith, lt))).plain

names_plain : (bs : List ℕ) → list_all is_name_byte bs ≡ true → list_all is_plain bs ≡ true
names_plain [] h = refl
names_plain (b ∷ bs) h = let p = and_parts (is_name_byte b) _ h in and_from _ _ (ap (λ t. t || (b == 45)) p.0) (names_plain bs p.1)

pub name_clean : (name : List ℕ) → is_item (item.Entry name) ≡ true → lacks 10 name ≡ true
unfolding is_export_text
name_clean name h = let p = and_parts _ _ h in let q = and_parts _ _ p.0 in let r = and_parts _ _ q.1 in lacks_plain 10 name refl (names_plain name r.1)

jump_clean : (c : Cond) (l : ℕ) → nat_lt l (2 ^ 32) ≡ true → lacks 10 (line (item.Jcc c l)) ≡ true
jump_clean condition.E l h = label_clean l h
jump_clean condition.Ne l h = label_clean l h
jump_clean condition.B l h = label_clean l h
jump_clean condition.Be l h = label_clean l h
jump_clean condition.A l h = label_clean l h
jump_clean condition.Ae l h = label_clean l h

pub line_clean : (i : Item) → is_item i ≡ true → lacks 10 (line i) ≡ true
line_clean (item.Ins i) h = ins_clean i h
line_clean (item.Label l) h = lacks_append 10 (decimal l) (codes ":") (label_clean l h) refl
line_clean (item.Jmp l) h = label_clean l h
line_clean (item.Jcc c l) h = jump_clean c l h
line_clean item.Ret h = refl
line_clean (item.Entry name) h = name_clean name h

pub lines_clean : (i : Item) → is_item i ≡ true → list_all (lacks 10) (lines i) ≡ true
lines_clean (item.Entry name) h = and_from _ _ (name_clean name h) (and_from _ _ (lacks_append 10 name (codes ":") (name_clean name h) refl) refl)
lines_clean (item.Ins i) h = and_from _ _ (line_clean (item.Ins i) h) refl
lines_clean (item.Label l) h = and_from _ _ (line_clean (item.Label l) h) refl
lines_clean (item.Jmp l) h = and_from _ _ (line_clean (item.Jmp l) h) refl
lines_clean (item.Jcc c l) h = and_from _ _ (line_clean (item.Jcc c l) h) refl
lines_clean item.Ret h = refl

-- the lines of items
abbrev pub all_lines : List Item → List (List ℕ)
all_lines [] = []
all_lines (i ∷ is) = lines i ++ all_lines is

pub unlines_append : (ls ks : List (List ℕ)) → unlines (ls ++ ks) ≡ unlines ls ++ unlines ks
unlines_append [] ks = refl
unlines_append (l ∷ ls) ks =
    ap (λ t. l ++ 10 ∷ t) (unlines_append ls ks) ∙ sym (append_assoc l (codes "\n" ++ unlines ls) (unlines ks))

pub text_lines : (is : List Item) → items_text is ≡ unlines (all_lines is)
unfolding items_text
text_lines [] = refl
text_lines (i ∷ is) = ap (λ t. unlines (lines i) ++ t) (text_lines is) ∙ sym (unlines_append (lines i) (all_lines is))

pub text_append : (is js : List Item) → items_text (is ++ js) ≡ items_text is ++ items_text js
unfolding items_text
text_append [] js = refl
text_append (i ∷ is) js = ap (λ t. unlines (lines i) ++ t) (text_append is js) ∙ sym (append_assoc (unlines (lines i)) (items_text is) (items_text js))

pub text_one : (i : Item) → items_text (i ∷ []) ≡ unlines (lines i)
unfolding items_text
text_one i = append-nil (unlines (lines i))

pub all_clean_append : (ls ks : List (List ℕ)) → list_all (lacks 10) ls ≡ true → list_all (lacks 10) ks ≡ true → list_all (lacks 10) (ls ++ ks) ≡ true
all_clean_append [] ks h k = k
all_clean_append (l ∷ ls) ks h k = let p = and_parts (lacks 10 l) _ h in and_from _ _ p.0 (all_clean_append ls ks p.1 k)

pub all_lines_clean : (is : List Item) → list_all is_item is ≡ true → list_all (lacks 10) (all_lines is) ≡ true
all_lines_clean [] h = refl
all_lines_clean (i ∷ is) h =
    let p = and_parts (is_item i) _ h in
    all_clean_append (lines i) (all_lines is) (lines_clean i p.0) (all_lines_clean is p.1)

-- a text of lines that begins with other lines has these first
pub record Front (ls ks : List (List ℕ)) (rest : List ℕ) : Type 0 where
  pub more : List (List ℕ)
  pub is : ks ≡ ls ++ more
  pub behind : rest ≡ unlines more

pub front_lines : (ls ks : List (List ℕ)) (rest : List ℕ) → list_all (lacks 10) ls ≡ true → list_all (lacks 10) ks ≡ true → unlines ks ≡ unlines ls ++ rest → Front ls ks rest
front_lines [] ks rest h k e = record { more = ks; is = refl; behind = sym e }
front_lines (l ∷ ls) [] rest h k e = absurd (nothing l e) where
  nothing : (l : List ℕ) → [] ≡ (l ++ 10 ∷ unlines ls) ++ rest → ⊥
  nothing [] e = cc
  nothing (b ∷ l) e = cc
front_lines (l ∷ ls) (m ∷ ks) rest h k e =
    let p = and_parts (lacks 10 l) _ h in
    let q = and_parts (lacks 10 m) _ k in
    let same : Some (m, unlines ks) ≡ Some (l, unlines ls ++ rest) =
    sym (cut_at 10 m (unlines ks) q.0) ∙ ap (sides_of 10) (e ∙ append_assoc l (codes "\n" ++ unlines ls) rest) ∙ cut_at 10 l (unlines ls ++ rest) p.0 in
    let line : m ≡ l = ap (λ o. first o) same in
    let after : unlines ks ≡ unlines ls ++ rest = ap (λ o. second o) same in
    let f = front_lines ls ks rest p.1 q.1 after in
    record { more = f.more; is = ap (λ x. x ∷ ks) line ∙ ap (λ x. l ∷ x) f.is; behind = f.behind }
  where
    first : Option (List ℕ × List ℕ) → List ℕ
    first None = []
    first (Some p) = p.0

    second : Option (List ℕ × List ℕ) → List ℕ
    second None = []
    second (Some p) = p.1

-- how many newlines there are

pub newlines_append : (xs ys : List ℕ) → newlines (xs ++ ys) ≡ newlines xs + newlines ys
newlines_append [] ys = omega arith
newlines_append (x ∷ xs) ys = by_test (x == 10) (newlines_append xs ys) where
  by_test : (t : Bool) → newlines (xs ++ ys) ≡ newlines xs + newlines ys → (if t then 1 + newlines (xs ++ ys) else newlines (xs ++ ys)) ≡ (if t then 1 + newlines xs else newlines xs) + newlines ys
  by_test true e = omega (arith, e)
  by_test false e = e

pub newlines_none : (xs : List ℕ) → lacks 10 xs ≡ true → newlines xs ≡ 0
newlines_none [] h = refl
newlines_none (x ∷ xs) h = let p = and_parts (not (x == 10)) _ h in by_test (x == 10) p.0 (newlines_none xs p.1) where
  by_test : (t : Bool) → not t ≡ true → newlines xs ≡ 0 → (if t then 1 + newlines xs else newlines xs) ≡ 0
  by_test true h e = absurd (false≢true h)
  by_test false h e = e

pub newlines_lines : (ls : List (List ℕ)) → list_all (lacks 10) ls ≡ true → newlines (unlines ls) ≡ length ls
newlines_lines [] h = refl
newlines_lines (l ∷ ls) h =
    let p = and_parts (lacks 10 l) _ h in
    let a = newlines_append l (codes "\n" ++ unlines ls) in
    let b = newlines_none l p.0 in
    let c = newlines_lines ls p.1 in
    omega (arith, a, b, c)
