-- What a text in GAS syntax reads as.
use Rattle.std.specs.Prelude.{◌≡◌, ℕ, ◌+◌, ◌==◌, true, List, [], ◌∷◌, ◌++◌, take, codes, Some, Result, Ok, Err, if◌then◌else◌}
use Rattle.x64_syntax.specs.declared.items.Item.{Item}
use Rattle.x64_syntax.specs.Programs.{is_ordered, stray_jump, program_ok}
use Rattle.gas_text.specs.declared.fault.AsmFault.{AsmFault}
use Rattle.gas_text.specs.declared.fault.AsmFault.TheVariants.{Line, Label, NoMemory}
use Rattle.gas_text.specs.Gas.{gas_text}

-- how many bytes of a text are 10
abbrev pub newlines : List ℕ → ℕ
newlines [] = 0
newlines (b ∷ bs) = if b == 10 then 1 + newlines bs else newlines bs

-- The text of some items begins so. They are a program but for where jumps go.
pub record Begins (text : List ℕ) : Type 0 where
  pub items : List Item
  pub rest : List ℕ
  pub ordered : is_ordered items ≡ true
  pub is : gas_text items ≡ text ++ rest

-- the whole text is that of no such items
abbrev pub IsNoText : List ℕ → Type 0
IsNoText text = (items : List Item) → is_ordered items ≡ true → gas_text items ≡ text → ⊥

-- The line of this number is the first that isn't one: what is before it begins a text, and with it nothing does. Or the
-- text ends too early there, or within the line.
pub data BadLine (text : List ℕ) (n : ℕ) : Type 0 where
  bad : (front line rest : List ℕ) → text ≡ front ++ (line ++ (codes "\n" ++ rest)) → newlines line ≡ 0 → Begins front → (Begins (front ++ (line ++ codes "\n")) → ⊥) → n ≡ newlines front + 1 → BadLine text n
  early : (front tail : List ℕ) → text ≡ front ++ tail → newlines tail ≡ 0 → Begins front → IsNoText text → n ≡ newlines front + 1 → BadLine text n

-- The text is that of items, and the first jump whose label isn't in its piece has the line of this number.
pub record Strays (text : List ℕ) (n : ℕ) : Type 0 where
  pub items : List Item
  pub ordered : is_ordered items ≡ true
  pub is : gas_text items ≡ text
  pub place : ℕ
  pub stray : stray_jump items ≡ Some place
  pub line : n ≡ newlines (gas_text (take place items)) + 1

-- the text is that of a program
pub record ReadsAs (text : List ℕ) (items : List Item) : Type 0 where
  pub program : program_ok items ≡ true
  pub is : gas_text items ≡ text

-- why a text isn't that of items, wherever jumps go
abbrev pub RefusedInOrder : List ℕ → AsmFault → Type 0
RefusedInOrder text (Line n) = BadLine text n
RefusedInOrder text (Label n) = ⊥
RefusedInOrder text NoMemory = Unit {0}

-- why a text isn't that of a program
abbrev pub Refused : List ℕ → AsmFault → Type 0
Refused text (Line n) = BadLine text n
Refused text (Label n) = Strays text n
Refused text NoMemory = Unit {0}

-- what a text reads as
abbrev pub Reads : List ℕ → Result (List Item) AsmFault → Type 0
Reads text (Ok items) = ReadsAs text items
Reads text (Err fault) = Refused text fault
