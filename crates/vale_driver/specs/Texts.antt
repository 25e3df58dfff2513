-- Assembler texts that are read and run: why they are refused, and what is told of them.
use Rattle.std.specs.Prelude.{◌≡◌, ℕ, ◌<◌, ◌≤◌, Bool, false, List, [], ◌∷◌, ◌++◌, length, Option, Some, None, codes, position}
use Rattle.std.specs.Str.{bytes_eq}
use Rattle.x64_syntax.specs.declared.items.Item.{Item}
use Rattle.x64_syntax.specs.declared.items.Item.TheVariants.{Entry}
use Rattle.asm_lines.specs.Listing.{listing}
use Rattle.gas_text.specs.Text.{BadLine, Strays, ReadsAs}
use Rattle.x64_meaning.specs.State.{State}
use Rattle.x64_evaluator.specs.StateFile.{lines_of, IsStateOf, StopsAt}
use Rattle.x64_evaluator.specs.Evaluated.{evaluation, way}
use Rattle.x64_evaluator.specs.Report.{report_text}
use Rattle.vale_driver.specs.declared.status.Refusal.{Refusal}
use Rattle.vale_driver.specs.Limits.{text_limit, state_limit, trace_room}
use Rattle.vale_driver.specs.Causes.{refusal_of, TooLong, NoLine, NoLabel, NoSetting, NoEntry}
use Rattle.vale_driver.specs.Words.{EvalWords}

-- a text that is too long, its first line that isn't one, or the first jump whose label isn't in its piece
pub data TextRefused (file text : List ℕ) (r : Refusal) : Type 0 where
  long_text : text_limit < length text → r ≡ refusal_of (TooLong file) → TextRefused file text r
  line_text : length text ≤ text_limit → (n : ℕ) → BadLine text n → r ≡ refusal_of (NoLine file n) → TextRefused file text r
  label_text : length text ≤ text_limit → (n : ℕ) → Strays text n → r ≡ refusal_of (NoLabel file n) → TextRefused file text r

-- the items of a text
pub record TextRead (text : List ℕ) (items : List Item) : Type 0 where
  pub short : length text ≤ text_limit
  pub reads : ReadsAs text items

-- each item on a line of its own
unfoldable pub listing_text : List Item → List ℕ
listing_text [] = []
listing_text (i ∷ is) = listing i ++ (codes "\n" ++ listing_text is)

pub record IsReading (text out : List ℕ) : Type 0 where
  pub items : List Item
  pub read : TextRead text items
  pub is : out ≡ listing_text items

-- an entry of this name
abbrev pub is_named : List ℕ → Item → Bool
is_named name (Entry other) = bytes_eq other name
is_named name _ = false

-- The items of a text, and where the entry is.
pub record Begun (e : EvalWords) (text : List ℕ) (items : List Item) (entry : Option ℕ) : Type 0 where
  pub read : TextRead text items
  pub found : position (is_named e.entry) items ≡ entry

-- the state of a state file, or why there is none
pub record StateRead (state : List ℕ) (start : State) : Type 0 where
  pub short : length state ≤ state_limit
  pub is : IsStateOf (lines_of state) start

pub data StateRefused (file state : List ℕ) (r : Refusal) : Type 0 where
  long_state : state_limit < length state → r ≡ refusal_of (TooLong file) → StateRefused file state r
  line_state : length state ≤ state_limit → (n : ℕ) → StopsAt (lines_of state) n → r ≡ refusal_of (NoSetting file n) → StateRefused file state r

-- a text that can't be run, or that has no such entry
pub data BegunRefused (e : EvalWords) (text : List ℕ) (r : Refusal) : Type 0 where
  by_text : TextRefused e.text text r → BegunRefused e text r
  nowhere : (items : List Item) → Begun e text items None → r ≡ refusal_of (NoEntry e.text e.entry) → BegunRefused e text r

-- The text's refusals come before the state's.
pub data EvalRefused (e : EvalWords) (text state : List ℕ) (r : Refusal) : Type 0 where
  before : BegunRefused e text r → EvalRefused e text state r
  behind : (items : List Item) (at : ℕ) → Begun e text items (Some at) → StateRefused e.state state r → EvalRefused e text state r

-- The report of the run from the entry, in the state of the state file.
pub record IsReport (e : EvalWords) (text state out : List ℕ) : Type 0 where
  pub items : List Item
  pub at : ℕ
  pub begun : Begun e text items (Some at)
  pub start : State
  pub read : StateRead state start
  pub is : out ≡ report_text (evaluation items trace_room e.steps at (way start [] 0))
