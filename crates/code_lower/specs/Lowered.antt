-- Structured code as flat items, whose labels are numbered in the order of the text.
use Rattle.std.specs.Prelude.{ℕ, ◌+◌, ◌-◌, nat_le, Option, Some, None, if◌then◌else◌, List, [], ◌∷◌, ◌++◌}
use Rattle.x64_syntax.specs.declared.places.Reg.{Reg as GeneralReg}
use Rattle.x64_syntax.specs.declared.operands.Opr.{Opr}
use Rattle.x64_syntax.specs.declared.conditions.Cmp.{Cmp}
use Rattle.x64_syntax.specs.declared.conditions.Cmp.TheVariants.{Eq, Ne, Lt, Le, Gt, Ge}
use Rattle.x64_syntax.specs.declared.conditions.Cond.{Cond}
use Rattle.x64_syntax.specs.declared.conditions.Cond.TheVariants as cond
use Rattle.x64_syntax.specs.declared.instructions.AluOp.TheVariants as alu
use Rattle.x64_syntax.specs.declared.instructions.Ins.{Ins}
use Rattle.x64_syntax.specs.declared.instructions.Ins.TheVariants.{Alu}
use Rattle.x64_syntax.specs.declared.items.Item.{Item}
use Rattle.x64_syntax.specs.declared.items.Item.TheVariants as item
use Rattle.x64_syntax.specs.Code.{Prog, Done, Step, If, Loop}

-- what a jump asks that is taken where a test holds; tests are without sign
abbrev pub when : Cmp → Cond
when Eq = cond.E
when Ne = cond.Ne
when Lt = cond.B
when Le = cond.Be
when Gt = cond.A
when Ge = cond.Ae

-- what a jump asks that is taken where a test doesn't hold
abbrev pub unless : Cmp → Cond
unless Eq = cond.Ne
unless Ne = cond.E
unless Lt = cond.Ae
unless Le = cond.A
unless Gt = cond.Be
unless Ge = cond.B

abbrev pub compare : GeneralReg → Opr → Ins
compare left right = Alu alu.Cmp left right

-- how many labels there are in code: two for each `if` and for each loop
abbrev pub labels : Prog → ℕ
labels Done = 0
labels (Step i b p) = labels p
labels (If c l r first second p) = labels first + 1 + labels second + 1 + labels p
labels (Loop c l r body p) = 1 + labels body + 1 + labels p

-- the room that the labels of code leave of so much
abbrev pub label_room : Prog → ℕ → Option ℕ
label_room p room = if nat_le (labels p) room then Some (room - labels p) else None

-- The items of code whose first label is number k. An `if` jumps over its first arm where the test doesn't hold, and
-- behind that arm over the second; a loop begins at its test, behind the body, and jumps back while the test holds.
abbrev pub code_items : ℕ → Prog → List Item
code_items k Done = []
code_items k (Step i b p) = item.Ins i ∷ code_items k p
code_items k (If c l r first second p) =
    let one = k + labels first in
    let two = one + 1 + labels second in
    item.Ins (compare l r) ∷ item.Jcc (unless c) one
    ∷ (code_items k first
    ++ item.Jmp two ∷ item.Label one ∷ (code_items (one + 1) second ++ item.Label two ∷ code_items (two + 1) p))
code_items k (Loop c l r body p) =
    let test = k + 1 + labels body in
    item.Jmp test ∷ item.Label k
    ∷ (code_items (k + 1) body
    ++ item.Label test ∷ item.Ins (compare l r) ∷ item.Jcc (when c) k ∷ code_items (test + 1) p)

-- an export: its entry, its code and `ret`
abbrev pub export_items : ℕ → List ℕ → Prog → List Item
export_items k name p = item.Entry name ∷ (code_items k p ++ item.Ret ∷ [])

-- exports one after another, each a name and its code; labels go on counting
abbrev pub lowered_from : ℕ → List (List ℕ × Prog) → List Item
lowered_from k [] = []
lowered_from k (e ∷ es) = export_items k e.0 e.1 ++ lowered_from (k + labels e.1) es

abbrev pub lowered_items : List (List ℕ × Prog) → List Item
lowered_items es = lowered_from 0 es
