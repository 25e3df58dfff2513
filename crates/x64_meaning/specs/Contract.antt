-- Contracts, and what it means that code meets one.
use Rattle.std.specs.Prelude.{◌≡◌, ◌≢◌, ℕ, suc, ◌+◌, ◌/◌, ◌%◌, ◌≤◌, ◌<◌, nat_lt, ◌==◌, pos, Bool, true, false, not, ◌&&◌, ◌||◌, List, [], ◌∷◌, ◌++◌, length, map, Option, Some, None, slice_get, codes, decimal, if◌then◌else◌}
use Rattle.std.specs.List.{AllByRecursion, range_with_len}
use Rattle.std.specs.Str.{bytes_eq}
use Rattle.x64_syntax.specs.declared.places.Reg.TheVariants.{Rbx, Rbp, Rsi, Rdi, Rsp, R12, R13, R14, R15}
use Rattle.x64_syntax.specs.declared.places.Xmm.TheVariants.{Xmm6, Xmm7, Xmm8, Xmm9, Xmm10, Xmm11, Xmm12, Xmm13, Xmm14, Xmm15}
use Rattle.x64_syntax.specs.declared.places.FlagName.{FlagName}
use Rattle.x64_syntax.specs.declared.places.MachinePlace.{MachinePlace}
use Rattle.x64_syntax.specs.declared.places.MachinePlace.TheVariants.{Reg, Xmm, Flag}
use Rattle.x64_syntax.specs.declared.places.Place.TheVariants as place
use Rattle.x64_syntax.specs.declared.type_words.Abi.{Abi}
use Rattle.x64_syntax.specs.declared.type_words.Abi.TheVariants.{Sysv, Win}
use Rattle.x64_syntax.specs.declared.items.Item.{Item}
use Rattle.x64_syntax.specs.Places.{place_name, all_regs, all_xmms, all_flags}
use Rattle.x64_syntax.specs.Instructions.{is_among}
use Rattle.x64_blocks.specs.Memory.{Range, block_at}
use Rattle.term_core.specs.declared.functions.Variable.{Variable}
use Rattle.term_core.specs.Terms.{Tm}
use Rattle.term_core.specs.Value.{Val, Whole, Functions, Assignment, Holds}
use Rattle.x64_meaning.specs.declared.machine.Flag.TheVariants.{Undefined}
use Rattle.x64_meaning.specs.State.{State, IsState, read, reg, flag}
use Rattle.x64_meaning.specs.Spots.{Spot, At, Base, Ghost, machine_spot, look}
use Rattle.x64_meaning.specs.Run.{Way, start, Ended, run}

-- a block of memory that the caller hands over: its name, whether its contents are secret, and whether they may change
pub record BlockParam : Type 0 where
  pub name : List ℕ
  pub secret : Bool
  pub written : Bool

-- The places of the machine that are read, those of them that are secret, and those that may change; the blocks in order;
-- values that the proof alone names; what is asked before and promised after; how many bytes of stack there are, 0 where
-- nothing is pushed; and the calling convention whose registers are saved.
pub record Contract : Type 0 where
  pub reads : MachinePlace → Bool
  pub secret : MachinePlace → Bool
  pub modifies : MachinePlace → Bool
  pub blocks : List BlockParam
  pub ghosts : List Variable
  pub requires_ : List Tm
  pub ensures_ : List Tm
  pub stack : ℕ
  pub abi : Option Abi

-- a name in a contract's terms, and what it stands for
pub record Named : Type 0 where
  pub name : List ℕ
  pub spot : Spot

abbrev pub machine_named : MachinePlace → Named
machine_named p = record { name = place_name p; spot = machine_spot p }

abbrev pub machine_names : List Named
machine_names = map (λ r. machine_named (Reg r)) all_regs ++ (map (λ x. machine_named (Xmm x)) all_xmms ++ map (λ f. machine_named (Flag f)) all_flags)

-- blocks in order, from a number on
abbrev pub block_names : ℕ → List BlockParam → List Named
block_names k [] = []
block_names k (b ∷ bs) = record { name = b.name; spot = At (place.Block k) } ∷ block_names (suc k) bs

-- `slot0`, `slot1` and so on, for each word of the stack
abbrev pub slot_names : ℕ → List Named
slot_names size = map (λ k. record { name = codes "slot" ++ decimal k; spot = At (place.Slot k) }) (range_with_len 0 (size / 8))

abbrev pub ghost_names : List Variable → List Named
ghost_names vs = map (λ v. record { name = v.name; spot = Ghost v.name v.sort }) vs

abbrev pub names : Contract → List Named
names c = machine_names ++ (block_names 0 c.blocks ++ (slot_names c.stack ++ ghost_names c.ghosts))

-- the name of a value at the entry, as `rax.0`
abbrev pub entry_name : List ℕ → List ℕ
entry_name name = name ++ codes ".0"

-- each name is worth what it stands for now, and with `.0` what that was at the entry
abbrev pub spot_values : (Spot → Val) → (Spot → Val) → List Named → List (List ℕ × Val)
spot_values entry now [] = []
spot_values entry now (n ∷ ns) = (n.name, now n.spot) ∷ (entry_name n.name, entry n.spot) ∷ spot_values entry now ns

-- the bases of blocks, as `b.base`, in order from a number on
abbrev pub base_values : (Spot → Val) → ℕ → List BlockParam → List (List ℕ × Val)
base_values entry k [] = []
base_values entry k (b ∷ bs) = (b.name ++ codes ".base", entry (Base k)) ∷ base_values entry (suc k) bs

abbrev pub named_values : Contract → (Spot → Val) → (Spot → Val) → List (List ℕ × Val)
named_values c entry now = spot_values entry now (names c) ++ base_values entry 0 c.blocks

-- the value of a name, which is the first of that name
abbrev pub value_named : List (List ℕ × Val) → List ℕ → Val
value_named [] name = Whole (pos 0)
value_named ((n, v) ∷ rest) name = if bytes_eq n name then v else value_named rest name

-- what names are worth between a start and a state behind it; the stack is the block behind the parameters
abbrev pub seen : Contract → Assignment → State → State → Assignment
seen c ghosts s t name sort = value_named (named_values c (look (length c.blocks) ghosts s) (look (length c.blocks) ghosts t)) name

-- the stack's block is there, it has so many bytes, and it ends at rsp
pub record HasStack (k n : ℕ) (s : State) : Type 0 where
  pub there : k < length s.blocks
  pub size : length (block_at s.blocks k).bytes ≡ n
  pub ends : (block_at s.blocks k).base + n ≡ reg s Rsp

-- What a start has to meet, by the meaning of functions and the proof's values: the requirements hold; the first blocks are
-- the parameters, of whole words, and the next one is the stack where there is one; and flags that are read are defined.
pub record Pre (m : Functions) (c : Contract) (ghosts : Assignment) (s : State) : Type 0 where
  pub holds : AllByRecursion (Holds m (seen c ghosts s s)) c.requires_
  pub blocks : length c.blocks ≤ length s.blocks
  pub words : (k : ℕ) → k < length c.blocks → length (block_at s.blocks k).bytes % 8 ≡ 0
  pub stack : 0 < c.stack → HasStack (length c.blocks) c.stack s
  pub defined : (f : FlagName) → c.reads (Flag f) ≡ true → flag s f ≢ Undefined

-- the registers that a callee saves: for System V as for Microsoft x64
abbrev pub saved_places : Option Abi → List MachinePlace
saved_places None = []
saved_places (Some Sysv) = Reg Rbx ∷ Reg Rbp ∷ Reg Rsp ∷ Reg R12 ∷ Reg R13 ∷ Reg R14 ∷ Reg R15 ∷ []
saved_places (Some Win) =
    Reg Rbx ∷ Reg Rbp ∷ Reg Rdi ∷ Reg Rsi ∷ Reg Rsp ∷ Reg R12 ∷ Reg R13 ∷ Reg R14 ∷ Reg R15 ∷ map Xmm (Xmm6 ∷ Xmm7 ∷ Xmm8 ∷ Xmm9 ∷ Xmm10 ∷ Xmm11 ∷ Xmm12 ∷ Xmm13 ∷ Xmm14 ∷ Xmm15 ∷ [])

-- what the end meets, from its start: the promises hold, and rsp and the convention's saved registers are as before
pub record Post (m : Functions) (c : Contract) (ghosts : Assignment) (s t : State) : Type 0 where
  pub holds : AllByRecursion (Holds m (seen c ghosts s t)) c.ensures_
  pub rsp : reg t Rsp ≡ reg s Rsp
  pub saved : (p : MachinePlace) → is_among (saved_places c.abi) p ≡ true → read t p ≡ read s p

-- where a block lies: its base and its length
abbrev pub extent : Range → ℕ × ℕ
extent b = (b.base, length b.bytes)

-- how many blocks are a contract's own: its parameters, and the stack where there is one
abbrev pub own_blocks : Contract → ℕ
own_blocks c = if nat_lt 0 c.stack then suc (length c.blocks) else length c.blocks

abbrev pub is_stack : Contract → ℕ → Bool
is_stack c k = nat_lt 0 c.stack && k == length c.blocks

abbrev pub is_written : Option BlockParam → Bool
is_written None = false
is_written (Some b) = b.written

abbrev pub is_public : Option BlockParam → Bool
is_public None = false
is_public (Some b) = not b.secret

-- the contents of a block may change: it is the stack, or a parameter that may be written
abbrev pub may_change : Contract → ℕ → Bool
may_change c k = is_stack c k || is_written (slice_get c.blocks k)

-- all blocks stay where they are, and only declared places and contents of blocks change
pub record Frame (c : Contract) (s t : State) : Type 0 where
  pub extents : map extent t.blocks ≡ map extent s.blocks
  pub places : (p : MachinePlace) → c.modifies p ≡ false → read t p ≡ read s p
  pub contents : (k : ℕ) → may_change c k ≡ false → (block_at t.blocks k).bytes ≡ (block_at s.blocks k).bytes

-- The items, started at a position in any state that meets what is asked, end without a fault, meet what is promised
-- and change only declared places.
abbrev pub Meets : Functions → Contract → List Item → ℕ → Type 0
Meets m c items at =
    (ghosts : Assignment) (s : State) → IsState s → Pre m c ghosts s →
    (n : ℕ) × (w : Way) × (run items n at (start s) ≡ Ended w) × Post m c ghosts s w.state × Frame c s w.state

-- Two starts agree on what is public: where the contract's own blocks lie, and what each place that is read and each
-- parameter holds that isn't secret.
pub record Agree (c : Contract) (s t : State) : Type 0 where
  pub extents : (k : ℕ) → k < own_blocks c → extent (block_at s.blocks k) ≡ extent (block_at t.blocks k)
  pub places : (p : MachinePlace) → c.reads p ≡ true → c.secret p ≡ false → read s p ≡ read t p
  pub contents : (k : ℕ) → is_public (slice_get c.blocks k) ≡ true → (block_at s.blocks k).bytes ≡ (block_at t.blocks k).bytes

-- Of two starts that agree, with whatever values of the proof, where a run from the one ends, so does one from the other,
-- after as many steps and with the same observations.
abbrev pub SameRuns : Functions → Contract → List Item → ℕ → Type 0
SameRuns m c items at =
    (g h : Assignment) (s t : State) → IsState s → IsState t → Pre m c g s → Pre m c h t → Agree c s t →
    (n : ℕ) (v : Way) → run items n at (start s) ≡ Ended v →
    (w : Way) × (run items n at (start t) ≡ Ended w) × (w.steps ≡ v.steps) × (w.seen ≡ v.seen)
