-- What the code holds, as the definitions speak of it, and what a walk answers.
use Rattle.std.specs.Prelude.{◌≡◌, ◌<◌, List, [], ◌∷◌, ◌++◌, length, ℕ, Option, Some, None, Result, Ok, Err}
use Rattle.term_core.specs.declared.term.Term.{Term}
use Rattle.term_core.specs.Terms.{Tm, tree, trees}
use Rattle.term_core.specs.declared.functions.Fun.{Fun}
use Rattle.term_core.specs.Functions.{function, functions}
use Rattle.name_scopes.specs.Names.{Texts}
use Rattle.operand_types.specs.declared.fault.TermFault.{TermFault}
use Rattle.operand_types.specs.declared.fault.TermFault.TheVariants as fault
use Rattle.operand_types.specs.declared.bound.Bound.{Bound}
use Rattle.operand_types.specs.declared.bound.Bound.TheOpen.{Bound-F}
use Rattle.operand_types.specs.declared.bound.Bound.TheFolds.{fold-Bound}
use Rattle.operand_types.specs.declared.few.Few.{Few}
use Rattle.operand_types.specs.declared.few.Few.TheVariants as few
use Rattle.operand_types.specs.declared.functions.Found.{Found}
use Rattle.operand_types.specs.Operations.{Numbered}
use Rattle.operand_types.specs.TermIn.{Sorts, Known}

abbrev pub bound_layer : Bound-F Texts → Texts
bound_layer Bound-F.Nothing = []
bound_layer (Bound-F.Name name outer) = name.now ∷ outer.now

-- the names that `forall` binds around a place, the innermost first
abbrev pub texts : Bound → Texts
texts = fold-Bound Texts bound_layer

abbrev pub view : Found → Numbered
view f = record { number = f.number; function = function f.fun.now }

abbrev pub known : Sorts → Bound → List Fun → Known
known sorts bound funs = record { sorts = sorts; bound = texts bound; functions = functions funs }

-- exactly those terms are made, unless memory ran out
abbrev pub Lists : Result (List Term) TermFault → Option (List Tm) → Type 0
Lists (Ok ts) o = o ≡ Some (trees ts)
Lists (Err fault.Unfit) o = o ≡ None
Lists (Err fault.NoMemory) o = Unit {0}

-- the terms, and those others behind them
abbrev pub behind : List Tm → Option (List Tm) → Option (List Tm)
behind ts None = None
behind ts (Some us) = Some (ts ++ us)

-- one, two or three terms, or another number
abbrev pub AreFew : Few → List Term → Type 0
AreFew (few.One a) ts = ts ≡ a ∷ []
AreFew (few.Two a b) ts = ts ≡ a ∷ b ∷ []
AreFew (few.Three a b c) ts = ts ≡ a ∷ b ∷ c ∷ []
AreFew few.Other ts = length ts < 4 → length ts ≡ 0
