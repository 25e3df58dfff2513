-- Which names are known where a term stands, and their values.
use Rattle.std.specs.Prelude.{ℕ, List, Bool, ◌&&◌, ◌||◌, is_some}
use Rattle.std.specs.List.{list_any}
use Rattle.x64_syntax.specs.declared.type_words.Sort.{Sort}
use Rattle.term_core.specs.declared.scope.Scope.{Scope}
use Rattle.term_core.specs.declared.scope.Scope.TheOpen.{Scope-F}
use Rattle.term_core.specs.declared.scope.Scope.TheFolds.{fold-Scope}
use Rattle.std.specs.Str.{bytes_eq}
use Rattle.term_core.specs.Operators.{sort_eq}
use Rattle.term_core.specs.Rules.{is_variable}
use Rattle.term_core.specs.Literals.{entry_value}

abbrev pub scope_layer : Scope-F (List ℕ → Sort → Bool) → List ℕ → Sort → Bool
scope_layer (Scope-F.Entries es) text s = is_some (entry_value es.now text s)
scope_layer (Scope-F.Params ps) text s = list_any (λ v. is_variable v text s) ps.now
scope_layer (Scope-F.Bound name sort outer) text s = (bytes_eq name.now text && sort_eq sort s) || outer.now text s

-- the variables of a scope
abbrev pub in_scope : Scope → List ℕ → Sort → Bool
in_scope = fold-Scope (List ℕ → Sort → Bool) scope_layer
