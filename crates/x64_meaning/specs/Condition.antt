-- The hypotheses that straight code gives, and what is to follow from them.
use Rattle.std.specs.Prelude.{◌≡◌, ℕ, pos, ◌+◌, ◌<◌, ◌^◌, Bool, true, false, not, ◌&&◌, List, [], ◌∷◌, ◌++◌, map, decimal, length, None, is_none, if◌then◌else◌}
use Rattle.std.specs.List.{list_all, AllByRecursion}
use Rattle.x64_syntax.specs.declared.places.Reg.TheVariants.{Rsp}
use Rattle.x64_syntax.specs.declared.places.FlagName.TheVariants.{Cf, Zf, Sf, Of}
use Rattle.x64_syntax.specs.declared.places.MachinePlace.{MachinePlace}
use Rattle.x64_syntax.specs.declared.places.MachinePlace.TheVariants.{Reg, Flag}
use Rattle.x64_syntax.specs.declared.instructions.Ins.{Ins}
use Rattle.x64_syntax.specs.declared.instructions.Ins.TheVariants.{Push, Pop}
use Rattle.x64_syntax.specs.Instructions.{accesses, halves_differ}
use Rattle.x64_syntax.specs.declared.items.Item.{Item}
use Rattle.x64_syntax.specs.declared.items.Item.TheVariants as item
use Rattle.x64_syntax.specs.Places.{place_name}
use Rattle.term_core.specs.declared.operator.BinOp.TheVariants as bin
use Rattle.term_core.specs.Terms.{Tm, Name, Bin, W64}
use Rattle.term_core.specs.Value.{Val, Whole, Truth, Functions, True, Assignment, Holds, value}
use Rattle.x64_meaning.specs.Contract.{Contract, entry_name}
use Rattle.x64_meaning.specs.State.{State, IsState, place_sort, read}
use Rattle.x64_meaning.specs.Run.{Way, start, Ended, run}
use Rattle.x64_meaning.specs.Exp.{Exp, exp_value, exp_term, no_words, among}
use Rattle.x64_meaning.specs.Table.{Equation, equations, writes, reads}

-- which version of each place is present
abbrev pub Versions : Type 0
Versions = MachinePlace → ℕ

-- the name of a place's value at a version, as `rax.0`
abbrev pub version_name : MachinePlace → ℕ → List ℕ
version_name p k = place_name p ++ (46 ∷ decimal k)

abbrev pub version : MachinePlace → ℕ → Tm
version p k = Name (version_name p k) (place_sort p)

-- each written place takes its next version
abbrev pub next_versions : Versions → List MachinePlace → Versions
next_versions v places p = if among places p then v p + 1 else v p

-- where nothing is loaded
abbrev pub no_terms : ℕ → Tm
no_terms k = W64 0

-- what functions give where there are none
abbrev pub no_functions : Functions
no_functions k vs = Whole (pos 0)

-- an equation of an instruction, over the present versions and the next ones
abbrev pub hypothesis : Versions → Equation → Tm
hypothesis v e =
    Bin bin.Eq (version e.place (v e.place + 1))
    (exp_term (λ p. version p (v p)) (λ p. version p (v p + 1)) no_terms e.right)

abbrev pub hypotheses : Versions → List Ins → List Tm
hypotheses v [] = []
hypotheses v (i ∷ is) = map (hypothesis v) (equations i) ++ hypotheses (next_versions v (writes i)) is

abbrev pub end_versions : Versions → List Ins → Versions
end_versions v [] = v
end_versions v (i ∷ is) = end_versions (next_versions v (writes i)) is

abbrev pub first_versions : Versions
first_versions p = 0

-- what the instructions' equations are to prove: the expression over the first and the last versions
abbrev pub straight_hyps : List Ins → List Tm
straight_hyps is = hypotheses first_versions is

abbrev pub straight_goal : List Ins → Exp → Tm
straight_goal is e =
    exp_term (λ p. version p 0) (λ p. version p (end_versions first_versions is p)) no_terms e

abbrev pub uses_stack : Ins → Bool
uses_stack (Push r) = true
uses_stack (Pop d) = true
uses_stack i = false

-- an instruction of the machine that neither loads nor stores nor reads a flag
abbrev pub is_plain : Ins → Bool
is_plain i =
    halves_differ i && (is_none (accesses i) && not (uses_stack i))
    && not (reads i (Flag Cf)) && not (reads i (Flag Zf)) && not (reads i (Flag Sf)) && not (reads i (Flag Of))

-- no instruction of straight code writes the place
abbrev pub keeps_place : List Ins → MachinePlace → Bool
keeps_place is p = list_all (λ i. not (among (writes i) p)) is

-- straight code as flat items: its entry, its instructions and `ret`
abbrev pub straight_items : List ℕ → List Ins → List Item
straight_items name is = item.Entry name ∷ (map item.Ins is ++ item.Ret ∷ [])

-- the expression is true, by what the places hold before and after
abbrev pub Worth : (MachinePlace → Val) → (MachinePlace → Val) → Exp → Type 0
Worth before after e = exp_value before after no_words e ≡ Truth true

-- an expression over the values at the entry and at the end, as a contract's term
abbrev pub contract_term : Exp → Tm
contract_term e = exp_term (λ p. Name (entry_name (place_name p)) (place_sort p)) (λ p. Name (place_name p) (place_sort p)) no_terms e

-- What is asked of straight code for a contract: its instructions are plain, it writes declared places only and not rsp,
-- no calling convention is kept, and each promise follows from its equations.
pub record StraightFits (is : List Ins) (c : Contract) : Type 0 where
  pub plain : list_all is_plain is ≡ true
  pub short : length is < 2 ^ 64
  pub declared : (p : MachinePlace) → c.modifies p ≡ false → keeps_place is p ≡ true
  pub rsp : c.modifies (Reg Rsp) ≡ false
  pub abi : c.abi ≡ None
  pub promises : List Exp
  pub promised : c.ensures_ ≡ map contract_term promises
  pub proved : AllByRecursion (λ e. True no_functions (straight_hyps is) (straight_goal is e)) promises

-- An assignment makes all equations of straight code true, and gives the first versions of places what they hold in the
-- one state, and the last versions what they hold in the other.
pub record Names (is : List Ins) (s t : State) : Type 0 where
  pub assignment : Assignment
  pub holds : AllByRecursion (Holds no_functions assignment) (straight_hyps is)
  pub first : (p : MachinePlace) → value no_functions assignment (version p 0) ≡ read s p
  pub last : (p : MachinePlace) → value no_functions assignment (version p (end_versions first_versions is p)) ≡ read t p

-- From any state, straight code of plain instructions ends, and some assignment names its start and its end.
abbrev pub IsNamed : List Ins → List Item → ℕ → Type 0
IsNamed is items at = (s : State) → IsState s → (n : ℕ) × (w : Way) × (run items n at (start s) ≡ Ended w) × Names is s w.state
