-- No two lists of items have one text.
use Rattle.std.proofs.Common.{◌≡◌, ℕ, true, List, [], ◌∷◌, ◌++◌, refl, sym, ap, ◌∙◌, Option, None, Some, ◌⊎◌, inl, inr}
use Rattle.std.specs.Prelude.{codes, is_none, Result, Ok, Err}
use Rattle.std.proofs.lemmas.Bool.{and_parts, false≢true}
use Rattle.std.proofs.lemmas.List.{append-nil, append_assoc, append_cancel_left}
use Rattle.x64_syntax.specs.declared.items.Item.{Item}
use Rattle.x64_syntax.specs.Programs.{is_ordered, stray_jump, program_ok}
use Rattle.gas_text.specs.declared.fault.AsmFault.{AsmFault}
use Rattle.gas_text.specs.declared.fault.AsmFault.TheVariants.{Line, Label, NoMemory}
use Rattle.gas_text.specs.Gas.{unlines, gas_text}
use Rattle.gas_text.specs.inner.Reading.{Sofar, run}
use Rattle.gas_text.specs.Text.{BadLine, bad, early, Strays, ReadsAs, Reads}
use Rattle.gas_text.proofs.Order.{ordered_parts}
use Rattle.gas_text.proofs.Lines.{all_lines, text_lines, all_lines_clean, front_lines}
use Rattle.gas_text.proofs.Machine.{start, runs_complete}

pub once : (a b : List Item) → is_ordered a ≡ true → is_ordered b ≡ true → gas_text a ≡ gas_text b → a ≡ b
once a b h k e =
    let lines_are : unlines (all_lines b) ≡ unlines (all_lines a) ++ [] =
    sym (text_lines b) ∙ append_cancel_left (codes ".text\n") _ _ (sym e) ∙ text_lines a ∙ sym (append-nil (unlines (all_lines a))) in
    let f = front_lines (all_lines a) (all_lines b) [] (all_lines_clean a (ordered_parts a h).items) (all_lines_clean b (ordered_parts b k).items) lines_are in
    by_more f.more f.is f.behind
  where
    nothing : (l : List ℕ) (ls : List (List ℕ)) → [] ≡ unlines (l ∷ ls) → ⊥
    nothing [] ls e = cc
    nothing (c ∷ l) ls e = cc

    items_in : Option Sofar → List Item
    items_in None = []
    items_in (Some so) = so.items

    ended : List Item → Option Sofar
    ended is = Some (record { items = is; awaited = None })

    same_of : (x y : List Item) → ended x ≡ ended y → x ≡ y
    same_of x y e = ap items_in e

    by_more : (more : List (List ℕ)) → all_lines b ≡ all_lines a ++ more → [] ≡ unlines more → a ≡ b
    by_more [] is behind = same_of a b (sym (runs_complete a h) ∙ ap (run start) (sym (append-nil (all_lines a)) ∙ sym is) ∙ runs_complete b k)
    by_more (l ∷ ls) is behind = absurd (nothing l ls behind)

pub ordered_of : (is : List Item) → program_ok is ≡ true → is_ordered is ≡ true
ordered_of is h = (and_parts (is_ordered is) _ h).0

pub stays : (is : List Item) → program_ok is ≡ true → is_none (stray_jump is) ≡ true
stays is h = (and_parts (is_ordered is) _ h).1

-- a text of items has no bad line
pub no_bad_line : (items : List Item) (n : ℕ) → is_ordered items ≡ true → BadLine (gas_text items) n → ⊥
no_bad_line items n h (bad front line rest is clean begun no_more at) =
    no_more (record { items = items; rest = rest; ordered = h; is = is ∙ ap (λ t. front ++ t) (sym (append_assoc line (codes "\n") rest)) ∙ sym (append_assoc front (line ++ codes "\n") rest) })
no_bad_line items n h (early front tail is clean begun no_text at) = no_text items h refl

no_stray : (items : List Item) (n : ℕ) → program_ok items ≡ true → Strays (gas_text items) n → ⊥
no_stray items n h s =
    let same = once s.items items s.ordered (ordered_of items h) s.is in
    false≢true (sym (ap is_none s.stray) ∙ ap (λ is. is_none (stray_jump is)) same ∙ stays items h)

pub only_read : (items : List Item) (r : Result (List Item) AsmFault) → program_ok items ≡ true → Reads (gas_text items) r → (r ≡ Ok items) ⊎ (r ≡ Err NoMemory)
only_read items (Ok xs) h r = inl (ap Ok (once xs items (ordered_of xs r.program) (ordered_of items h) r.is))
only_read items (Err (Line n)) h r = absurd (no_bad_line items n (ordered_of items h) r)
only_read items (Err (Label n)) h r = absurd (no_stray items n h r)
only_read items (Err NoMemory) h r = inr refl

pub one_list : (text : List ℕ) (x y : List Item) → ReadsAs text x → ReadsAs text y → x ≡ y
one_list text x y a b = once x y (ordered_of x a.program) (ordered_of y b.program) (a.is ∙ sym b.is)
