-- The variables of a scope, by how it was made.
use Rattle.std.proofs.Common.{◌≡◌, ℕ, Bool, List, ap, sym, ◌∙◌, ◌&&◌, ◌||◌, Bor, Some}
use Rattle.std.specs.List.{list_any}
use Rattle.std.specs.Str.{bytes_eq}
use Rattle.x64_syntax.specs.declared.type_words.Sort.{Sort}
use Rattle.term_core.specs.declared.functions.Variable.{Variable}
use Rattle.term_core.specs.declared.scope.Scope.{Scope, Scope-F, fold-roll-Scope}
use Rattle.term_core.specs.declared.scope.Scope.TheVariants as scope
use Rattle.term_core.specs.Operators.{sort_eq}
use Rattle.term_core.specs.Terms.{Tm}
use Rattle.term_core.specs.Functions.{Function}
use Rattle.term_core.specs.Rules.{is_variable, is_param, is_in_body, free_all, prev}
use Rattle.term_core.specs.Scopes.{in_scope, scope_layer}

pub in_params : (ps : Bor (List Variable)) → in_scope (scope.Params ps) ≡ (λ text s. list_any (λ v. is_variable v text s) ps.now)
in_params ps = ap in_scope (sym (scope.rolls-Params ps)) ∙ fold-roll-Scope (List ℕ → Sort → Bool) scope_layer (Scope-F.Params ps)

pub in_bound : (name : Bor (List ℕ)) (s : Sort) (outer : Bor Scope) → in_scope (scope.Bound name s outer) ≡ (λ text t. (bytes_eq name.now text && sort_eq s t) || in_scope outer.now text t)
in_bound name s outer = ap in_scope (sym (scope.rolls-Bound name s outer)) ∙ fold-roll-Scope (List ℕ → Sort → Bool) scope_layer (Scope-F.Bound name s outer)

pub knows_prev : (name : Bor (List ℕ)) (s : Sort) (outer : Bor Scope) (ps : Bor (List Variable)) (f : Function) (z t : Tm) → outer.now ≡ scope.Params ps → name.now ≡ prev → s ≡ f.result → ps.now ≡ f.params → free_all (in_scope (scope.Bound name s outer)) t ≡ free_all (is_in_body f (Some z)) t
knows_prev name s outer ps f z t is named sorted its =
    ap (λ p. free_all p t) (in_bound name s outer)
    ∙ ap (λ o. free_all (λ text u. (bytes_eq name.now text && sort_eq s u) || in_scope o text u) t) is
    ∙ ap (λ p. free_all (λ text u. (bytes_eq name.now text && sort_eq s u) || p text u) t) (in_params ps)
    ∙ ap (λ qs. free_all (λ text u. (bytes_eq name.now text && sort_eq s u) || list_any (λ v. is_variable v text u) qs) t) its
    ∙ ap (λ n. free_all (λ text u. (bytes_eq n text && sort_eq s u) || is_param f text u) t) named
    ∙ ap (λ r. free_all (λ text u. (bytes_eq prev text && sort_eq r u) || is_param f text u) t) sorted
