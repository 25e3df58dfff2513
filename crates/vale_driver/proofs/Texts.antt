-- Assembler texts and state files as they are fetched.
use Rattle.std.proofs.Common.{◌≡◌, ℕ, ◌≤◌, true, ◌⊎◌, inl, inr, refl, List, [], length, Option, Some, None, sym, ap, ◌∙◌, subst}
use Rattle.std.specs.Prelude.{IfSome, Vec, Ok, position}
use Rattle.std.proofs.lemmas.Bool.{false≢true}
use Rattle.x64_syntax.specs.declared.items.Item.TheVariants as item
use Rattle.code_lower.proofs.First.{Passes, Fails, first, position_is, position_none}
use Rattle.x64_evaluator.specs.Evaluated.{evaluation, way, is_entry, is_entry_at}
use Rattle.x64_evaluator.specs.Report.{report_text}
use Rattle.std.specs.declared.alloc.Global.{Global}
use Rattle.x64_syntax.specs.declared.items.Item.{Item}
use Rattle.x64_meaning.specs.State.{State}
use Rattle.vale_driver.specs.declared.status.Refusal.{Refusal}
use Rattle.vale_driver.specs.Words.{Read, Eval, EvalWords}
use Rattle.vale_driver.specs.Limits.{text_limit, state_limit, trace_room}
use Rattle.vale_driver.specs.Texts.{is_named, TextRefused, long_text, TextRead, Begun, StateRead, StateRefused, long_state, BegunRefused, before, behind, listing_text}
use Rattle.vale_driver.specs.inner.Stops.{Fetched, FileHolds}
use Rattle.vale_driver.specs.Commands.{IsRefused, WritesReading, WritesReport}
use Rattle.vale_driver.specs.Causes.{refusal_of}
use Rattle.vale_driver.proofs.Files.{told_or_nothing, is_told, long_bytes, fetched_none}
use Rattle.vale_driver.specs.Causes as cause

pub text_long : (told : Option (List ℕ)) (file : List ℕ) (r : Refusal) (old new : ℕ) (o : Option (Vec ℕ Global)) → ((v : Vec ℕ Global) → o ≡ Some v → ⊥) → Fetched told text_limit old new (Ok o) → r ≡ refusal_of (cause.TooLong file) → FileHolds told (λ t. TextRefused file t r)
text_long told file r old new o gone fetched is =
    let (long, holds, more) = long_bytes text_limit told (fetched_none told text_limit old new o gone fetched) in
    record { held = long; holds = holds; reads = long_text more is }

pub state_long : (told : Option (List ℕ)) (file : List ℕ) (r : Refusal) (old new : ℕ) (o : Option (Vec ℕ Global)) → ((v : Vec ℕ Global) → o ≡ Some v → ⊥) → Fetched told state_limit old new (Ok o) → r ≡ refusal_of (cause.TooLong file) → FileHolds told (λ t. StateRefused file t r)
state_long told file r old new o gone fetched is =
    let (long, holds, more) = long_bytes state_limit told (fetched_none told state_limit old new o gone fetched) in
    record { held = long; holds = holds; reads = long_state more is }

-- a file of which this is so
pub held : (P : List ℕ → Type 0) (limit : ℕ) (told : Option (List ℕ)) (old new : ℕ) (o : Option (Vec ℕ Global)) (v : Vec ℕ Global) (bytes : List ℕ) → o ≡ Some v → Fetched told limit old new (Ok o) → bytes ≡ v.items → (length bytes ≤ limit → P bytes) → FileHolds told P
held P limit told old new o v bytes is fetched same f =
    let fits = subst (λ x. Fetched told limit old new (Ok x)) is fetched in
    record {
      held = bytes;
      holds = subst (λ l. IfSome told (λ t. l ≡ t)) (sym same) fits.1;
      reads = f (subst (λ l. length l ≤ limit) (sym same) fits.0);
    }

pub holds_also : {told : Option (List ℕ)} {P Q : List ℕ → Type 0} → ((t : List ℕ) → P t → Q t) → FileHolds told P → FileHolds told Q
holds_also f h = record { held = h.held; holds = h.holds; reads = f h.held h.reads }

-- a listing
pub listing_refused : (tells : List ℕ → Option (List ℕ)) (file : List ℕ) (r : Refusal) → FileHolds (tells file) (λ t. TextRefused file t r) → IsRefused tells (Read file) r
listing_refused tells file r h = record { held = h.held; holds = h.holds; first = h.reads }

pub listing_written : (tells : List ℕ → Option (List ℕ)) (file : List ℕ) (items : List Item) (out : List ℕ) → FileHolds (tells file) (λ t. TextRead t items) → out ≡ listing_text items → WritesReading tells file out
listing_written tells file items out h is = record { text = h.held; holds = h.holds; reading = record { items = items; read = h.reads; is = is } }

module _ (tells : List ℕ → Option (List ℕ)) (e : EvalWords) where
  -- a run that is refused before its state is read, or by its state
  pub refused_before : (r : Refusal) → FileHolds (tells e.text) (λ t. BegunRefused e t r) → IsRefused tells (Eval e) r
  refused_before r h = record {
    held = record { text = h.held; state = told_or_nothing (tells e.state) };
    holds = (h.holds, is_told (tells e.state));
    first = before h.reads;
  }

  pub refused_behind : (told : Option (List ℕ)) (items : List Item) (at : ℕ) (r : Refusal) → told ≡ tells e.state → FileHolds (tells e.text) (λ t. Begun e t items (Some at)) → FileHolds told (λ t. StateRefused e.state t r) → IsRefused tells (Eval e) r
  refused_behind told items at r same h k = record {
    held = record { text = h.held; state = k.held };
    holds = (h.holds, subst (λ o. IfSome o (λ t. k.held ≡ t)) same k.holds);
    first = behind items at h.reads k.reads;
  }

  -- the report of a run
  pub reported : (told : Option (List ℕ)) (items : List Item) (at : ℕ) (start : State) (out : List ℕ) → told ≡ tells e.state → FileHolds (tells e.text) (λ t. Begun e t items (Some at)) → FileHolds told (λ t. StateRead t start) → out ≡ report_text (evaluation items trace_room e.steps at (way start [] 0)) → WritesReport tells e out
  reported told items at start out same h k is = record {
    held = record { text = h.held; state = k.held };
    holds = (h.holds, subst (λ o. IfSome o (λ t. k.held ≡ t)) same k.holds);
    report = record { items = items; at = at; begun = h.reads; start = start; read = k.reads; is = is };
  }

-- the entry that is found is one
pub entry_there : (name : List ℕ) (items : List Item) (at : ℕ) → position (is_named name) items ≡ Some at → is_entry_at items at ≡ true
entry_there name items at h = by (first (is_named name) items)
  where
    is_one : (i : Item) → is_named name i ≡ true → is_entry (Some i) ≡ true
    is_one (item.Entry other) e = refl
    is_one (item.Ins i) e = absurd (false≢true e)
    is_one (item.Label l) e = absurd (false≢true e)
    is_one (item.Jmp l) e = absurd (false≢true e)
    is_one (item.Jcc c l) e = absurd (false≢true e)
    is_one item.Ret e = absurd (false≢true e)

    place : {a b : ℕ} → ◌≡◌ {A = Option ℕ} (Some a) (Some b) → a ≡ b
    place e = cc

    none : ◌≡◌ {A = Option ℕ} None (Some at) → ⊥
    none e = absurd cc

    by : Passes (is_named name) items ⊎ Fails (is_named name) items → is_entry_at items at ≡ true
    by (inl f) =
        let same = place (sym (position_is (is_named name) items f) ∙ h) in
        ap (λ k. is_entry_at items k) (sym same) ∙ ap is_entry f.here ∙ is_one f.item f.passes
    by (inr f) = absurd (none (sym (position_none (is_named name) items f) ∙ h))
