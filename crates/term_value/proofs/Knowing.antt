-- What is known of parameters one after another.
use Rattle.std.proofs.Common.{◌≡◌, ℕ, suc, ◌<◌, ◌≤◌, List, [], ◌∷◌, length, drop, map, get_or, refl, ap, ◌∙◌, arith, Option, None, Some, drop-cons, length-drop}
use Rattle.std.specs.Prelude.{if◌then◌else◌, min}
use Rattle.x64_syntax.specs.declared.type_words.Sort.{Sort}
use Rattle.term_core.specs.declared.literal.Literal.{Literal}
use Rattle.term_core.specs.declared.functions.Variable.{Variable}
use Rattle.term_core.specs.Value.{Val}
use Rattle.term_core.specs.Literals.{literal_value}
use Rattle.term_core.specs.Rules.{is_variable}
use Rattle.term_value.specs.Evaluation.{known_arguments}

-- what the rest has from a place on
abbrev pub known_from : List Variable → List Literal → ℕ → List ℕ → Sort → Option Val
known_from ps vs k text s = known_arguments (drop k ps) (map literal_value (drop k vs)) text s

pub known_at : (ps : List Variable) (vs : List Literal) (k : ℕ) (p : Variable) (v : Literal) (text : List ℕ) (s : Sort) → k < length ps → k < length vs → known_from ps vs k text s ≡ (if is_variable (get_or ps k p) text s then Some (literal_value (get_or vs k v)) else known_from ps vs (suc k) text s)
known_at ps vs k p v text s in_ps in_vs =
    ap (λ l. known_arguments l (map literal_value (drop k vs)) text s) (drop-cons ps k p in_ps)
    ∙ ap (λ l. known_arguments (get_or ps k p ∷ drop (suc k) ps) (map literal_value l) text s) (drop-cons vs k v in_vs)

none_left : (ps : List Variable) (vs : List Literal) (text : List ℕ) (s : Sort) → min (length ps) (length vs) ≡ 0 → known_arguments ps (map literal_value vs) text s ≡ None
none_left [] vs text s h = refl
none_left (p ∷ ps) [] text s h = refl
none_left (p ∷ ps) (v ∷ vs) text s h = absurd (omega (arith, h))

pub known_behind : (ps : List Variable) (vs : List Literal) (k : ℕ) (text : List ℕ) (s : Sort) → min (length ps) (length vs) ≤ k → known_from ps vs k text s ≡ None
known_behind ps vs k text s h = none_left (drop k ps) (drop k vs) text s (omega (arith, h, length-drop k ps, length-drop k vs))
