-- What it means that lowering keeps the runs of code.
use Rattle.std.specs.Prelude.{◌≡◌, ℕ, ◌+◌, ◌≤◌, ◌^◌, Bool, true, not, ◌&&◌, List, [], ◌∷◌, Some, slice_get, map, length}
use Rattle.std.specs.List.{list_all, list_any}
use Rattle.std.specs.Str.{bytes_eq}
use Rattle.x64_syntax.specs.declared.items.Item.{Item}
use Rattle.x64_syntax.specs.declared.items.Item.TheVariants.{Label}
use Rattle.x64_syntax.specs.Words.{is_export_text}
use Rattle.x64_syntax.specs.Code.{Prog, code_ok}
use Rattle.term_core.specs.Value.{Functions, Assignment}
use Rattle.x64_meaning.specs.State.{State, IsState}
use Rattle.x64_meaning.specs.Run.{Way, start}
use Rattle.x64_meaning.specs.Contract.{Contract, Pre, Post, Frame}
use Rattle.code_lower.specs.Lowered.{labels}
use Rattle.code_lower.specs.Guarded.{Ended, guarded_run}

-- no label stands at two positions
abbrev pub LabelsDiffer : List Item → Type 0
LabelsDiffer items = (l j k : ℕ) → slice_get items j ≡ Some (Label l) → slice_get items k ≡ Some (Label l) → j ≡ k

-- the same way after so many more steps
abbrev pub later : ℕ → Way → Way
later n w = record { state = w.state; seen = w.seen; steps = w.steps + n }

-- Code, started in any state that meets what is asked, ends under some bound, meets what is promised and changes only
-- declared places. The stack is the block behind the contract's parameters.
abbrev pub CodeMeets : Functions → Contract → Prog → Type 0
CodeMeets m c p =
    (ghosts : Assignment) (s : State) → IsState s → Pre m c ghosts s →
    (n : ℕ) × (w : Way) × (guarded_run (length c.blocks) n p (start s) ≡ Ended w) × Post m c ghosts s w.state × Frame c s w.state

abbrev pub all_labels : List (List ℕ × Prog) → ℕ
all_labels [] = 0
all_labels (e ∷ es) = labels e.1 + all_labels es

-- no name stands twice
abbrev pub names_differ : List (List ℕ) → Bool
names_differ [] = true
names_differ (n ∷ ns) = not (list_any (bytes_eq n) ns) && names_differ ns

-- what is asked of exports: names that are allowed and differ, code of the machine, and labels of 32 bits
pub record AreExports (es : List (List ℕ × Prog)) : Type 0 where
  pub names : list_all (λ e. is_export_text e.0) es ≡ true
  pub differ : names_differ (map (λ e. e.0) es) ≡ true
  pub codes : list_all (λ e. code_ok e.1) es ≡ true
  pub few : all_labels es ≤ 2 ^ 32
