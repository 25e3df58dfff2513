-- A text or a state has one refusal at most, and none where it is read.
use Rattle.std.proofs.Common.{◌≡◌, ℕ, List, Option, Some, None, sym, ap, ◌∙◌, subst, arith, inl, inr, ◌⊎◌}
use Rattle.std.specs.Prelude.{position, Result, Ok, Err}
use Rattle.x64_syntax.specs.declared.items.Item.{Item}
use Rattle.gas_text.specs.declared.fault.AsmFault.{AsmFault}
use Rattle.gas_text.specs.declared.fault.AsmFault.TheVariants as asm
use Rattle.gas_text.specs.Text.{BadLine, Strays, ReadsAs, Refused}
use Rattle.gas_text.proofs.Once.{one_list, only_read}
use Rattle.gas_text.proofs.OneFault.{one_fault}
use Rattle.x64_evaluator.specs.StateFile.{lines_of}
use Rattle.x64_evaluator.proofs.OneState.{one_stop, no_stop}
use Rattle.vale_driver.specs.declared.status.Refusal.{Refusal}
use Rattle.vale_driver.specs.Texts.{TextRefused, long_text, line_text, label_text, TextRead, is_named, Begun, StateRefused, long_state, line_state, BegunRefused, by_text, nowhere, EvalRefused, before, behind, IsReport}
use Rattle.vale_driver.specs.Words.{EvalWords}
use Rattle.vale_driver.specs.Causes.{Cause, refusal_of}
use Rattle.vale_driver.specs.Causes as cause

-- two faults of a text are one
line_same : (text : List ℕ) (m n : ℕ) → BadLine text m → BadLine text n → m ≡ n
line_same text m n h k = by (one_fault text (asm.Line m) (asm.Line n) h k) where
  number : {a b : ℕ} → ◌≡◌ {A = AsmFault} (asm.Line a) (asm.Line b) → a ≡ b
  number e = cc

  no_memory : {a : ℕ} → ◌≡◌ {A = AsmFault} (asm.Line a) asm.NoMemory → ⊥
  no_memory e = absurd cc

  by : (asm.Line m ≡ asm.Line n) ⊎ ((asm.Line m ≡ asm.NoMemory) ⊎ (asm.Line n ≡ asm.NoMemory)) → m ≡ n
  by (inl e) = number e
  by (inr (inl e)) = absurd (no_memory e)
  by (inr (inr e)) = absurd (no_memory e)

label_same : (text : List ℕ) (m n : ℕ) → Strays text m → Strays text n → m ≡ n
label_same text m n h k = by (one_fault text (asm.Label m) (asm.Label n) h k) where
  number : {a b : ℕ} → ◌≡◌ {A = AsmFault} (asm.Label a) (asm.Label b) → a ≡ b
  number e = cc

  no_memory : {a : ℕ} → ◌≡◌ {A = AsmFault} (asm.Label a) asm.NoMemory → ⊥
  no_memory e = absurd cc

  by : (asm.Label m ≡ asm.Label n) ⊎ ((asm.Label m ≡ asm.NoMemory) ⊎ (asm.Label n ≡ asm.NoMemory)) → m ≡ n
  by (inl e) = number e
  by (inr (inl e)) = absurd (no_memory e)
  by (inr (inr e)) = absurd (no_memory e)

not_both : (text : List ℕ) (m n : ℕ) → BadLine text m → Strays text n → ⊥
not_both text m n h k = by (one_fault text (asm.Line m) (asm.Label n) h k) where
  apart : {a b : ℕ} → ◌≡◌ {A = AsmFault} (asm.Line a) (asm.Label b) → ⊥
  apart e = absurd cc

  no_line : {a : ℕ} → ◌≡◌ {A = AsmFault} (asm.Line a) asm.NoMemory → ⊥
  no_line e = absurd cc

  no_label : {a : ℕ} → ◌≡◌ {A = AsmFault} (asm.Label a) asm.NoMemory → ⊥
  no_label e = absurd cc

  by : (asm.Line m ≡ asm.Label n) ⊎ ((asm.Line m ≡ asm.NoMemory) ⊎ (asm.Label n ≡ asm.NoMemory)) → ⊥
  by (inl e) = apart e
  by (inr (inl e)) = no_line e
  by (inr (inr e)) = no_label e

-- causes of one line are one
at_line : (because : ℕ → Cause) (m n : ℕ) → m ≡ n → refusal_of (because m) ≡ refusal_of (because n)
at_line because m n e = ap (λ k. refusal_of (because k)) e

pub text_once : (file text : List ℕ) (r q : Refusal) → TextRefused file text r → TextRefused file text q → r ≡ q
text_once file text r q (long_text l is) (long_text l' is') = is ∙ sym is'
text_once file text r q (long_text l is) (line_text s n b is') = absurd (omega (arith, l, s))
text_once file text r q (long_text l is) (label_text s n b is') = absurd (omega (arith, l, s))
text_once file text r q (line_text s n b is) (long_text l is') = absurd (omega (arith, l, s))
text_once file text r q (label_text s n b is) (long_text l is') = absurd (omega (arith, l, s))
text_once file text r q (line_text s n b is) (line_text s' n' b' is') = is ∙ at_line (cause.NoLine file) n n' (line_same text n n' b b') ∙ sym is'
text_once file text r q (label_text s n b is) (label_text s' n' b' is') = is ∙ at_line (cause.NoLabel file) n n' (label_same text n n' b b') ∙ sym is'
text_once file text r q (line_text s n b is) (label_text s' n' b' is') = absurd (not_both text n n' b b')
text_once file text r q (label_text s n b is) (line_text s' n' b' is') = absurd (not_both text n' n b' b)

-- a text that is read has no fault
no_fault : (text : List ℕ) (items : List Item) (f : AsmFault) → ReadsAs text items → Refused text f → f ≡ asm.NoMemory
no_fault text items f reads refused = by (only_read items (Err f) reads.program (subst (λ t. Refused t f) (sym reads.is) refused)) where
  fault : {g : AsmFault} → ◌≡◌ {A = Result (List Item) AsmFault} (Err f) (Err g) → f ≡ g
  fault e = cc

  no_ok : ◌≡◌ {A = Result (List Item) AsmFault} (Err f) (Ok items) → ⊥
  no_ok e = absurd cc

  by : (◌≡◌ {A = Result (List Item) AsmFault} (Err f) (Ok items)) ⊎ (◌≡◌ {A = Result (List Item) AsmFault} (Err f) (Err asm.NoMemory)) → f ≡ asm.NoMemory
  by (inl e) = absurd (no_ok e)
  by (inr e) = fault e

pub text_none : (file text : List ℕ) (r : Refusal) (items : List Item) → TextRead text items → TextRefused file text r → ⊥
text_none file text r items read (long_text l is) = let s = read.short in omega (arith, l, s)
text_none file text r items read (line_text s n b is) = apart (no_fault text items (asm.Line n) read.reads b) where
  apart : asm.Line n ≡ asm.NoMemory → ⊥
  apart e = absurd cc
text_none file text r items read (label_text s n b is) = apart (no_fault text items (asm.Label n) read.reads b) where
  apart : asm.Label n ≡ asm.NoMemory → ⊥
  apart e = absurd cc

items_same : (text : List ℕ) (x y : List Item) → TextRead text x → TextRead text y → x ≡ y
items_same text x y h k = one_list text x y h.reads k.reads

no_place : {a : ℕ} → ◌≡◌ {A = Option ℕ} (Some a) None → ⊥
no_place e = absurd cc

module _ (e : EvalWords) (text : List ℕ) where
  found_same : (x y : List Item) (a b : Option ℕ) → Begun e text x a → Begun e text y b → a ≡ b
  found_same x y a b h k = sym h.found ∙ ap (position (is_named e.entry)) (items_same text x y h.read k.read) ∙ k.found

  begun_once : (r q : Refusal) → BegunRefused e text r → BegunRefused e text q → r ≡ q
  begun_once r q (by_text x) (by_text y) = text_once e.text text r q x y
  begun_once r q (by_text x) (nowhere items b is) = absurd (text_none e.text text r items b.read x)
  begun_once r q (nowhere items b is) (by_text y) = absurd (text_none e.text text q items b.read y)
  begun_once r q (nowhere items b is) (nowhere items' b' is') = is ∙ sym is'

  begun_none : (items : List Item) (at : ℕ) (r : Refusal) → Begun e text items (Some at) → BegunRefused e text r → ⊥
  begun_none items at r b (by_text x) = text_none e.text text r items b.read x
  begun_none items at r b (nowhere others k is) = no_place (found_same items others (Some at) None b k)

state_once : (file st : List ℕ) (r q : Refusal) → StateRefused file st r → StateRefused file st q → r ≡ q
state_once file st r q (long_state l is) (long_state l' is') = is ∙ sym is'
state_once file st r q (long_state l is) (line_state s n b is') = absurd (omega (arith, l, s))
state_once file st r q (line_state s n b is) (long_state l is') = absurd (omega (arith, l, s))
state_once file st r q (line_state s n b is) (line_state s' n' b' is') =
    is ∙ ap (λ k. refusal_of (cause.NoSetting file k)) (one_stop (lines_of st) n n' b b') ∙ sym is'

pub eval_once : (e : EvalWords) (text st : List ℕ) (r q : Refusal) → EvalRefused e text st r → EvalRefused e text st q → r ≡ q
eval_once e text st r q (before x) (before y) = begun_once e text r q x y
eval_once e text st r q (before x) (behind items at b y) = absurd (begun_none e text items at r b x)
eval_once e text st r q (behind items at b x) (before y) = absurd (begun_none e text items at q b y)
eval_once e text st r q (behind items at b x) (behind items' at' b' y) = state_once e.state st r q x y

pub eval_none : (e : EvalWords) (text st : List ℕ) (r : Refusal) (out : List ℕ) → IsReport e text st out → EvalRefused e text st r → ⊥
eval_none e text st r out w (before x) = begun_none e text w.items w.at r w.begun x
eval_none e text st r out w (behind items at b (long_state l is)) = let s = w.read.short in omega (arith, l, s)
eval_none e text st r out w (behind items at b (line_state s n stop is)) = no_stop (lines_of st) w.start n w.read.is stop
