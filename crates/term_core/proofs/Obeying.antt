-- One more function that obeys the rules.
use Rattle.std.proofs.Common.{◌≡◌, ℕ, Bool, true, List, [], ◌∷◌, ◌++◌, ap, sym, ◌∙◌, ◌&&◌, ◌||◌, refl, None}
use Rattle.std.specs.Prelude.{is_none, not}
use Rattle.std.specs.List.{list_any}
use Rattle.std.specs.Str.{bytes_eq}
use Rattle.std.proofs.lemmas.Bool.{and_parts, and_from}
use Rattle.std.proofs.lemmas.List.{append_assoc, append-nil, map-append}
use Rattle.term_core.specs.declared.functions.Fun.{Fun}
use Rattle.term_core.specs.Functions.{Function, function, functions}
use Rattle.x64_syntax.specs.Words.{built_in_of}
use Rattle.term_core.specs.declared.functions.BrokenRule.TheVariants.{BuiltIn, NameTwice, ParamTwice, ParamPrev, LastParam, Sorts, FreeName}
use Rattle.term_core.specs.Sorted.{is_sorted}
use Rattle.term_core.specs.Rules.{broken_rule, first_broken, all_obey, names_differ, has_name, prev, last_is_number, holds_of, free_all, is_param, is_in_body}

pub named_among : (name : List ℕ) (fs : List Fun) → list_any (λ f. bytes_eq f.name name) fs ≡ list_any (λ g. bytes_eq g.name name) (functions fs)
named_among name [] = refl
named_among name (f ∷ fs) = ap (λ c. bytes_eq f.name name || c) (named_among name fs)

obeys_too : (before fs : List Function) (f : Function) → all_obey before fs ≡ true → broken_rule (before ++ fs) f ≡ None → all_obey before (fs ++ f ∷ []) ≡ true
obeys_too before [] f all h = ap (λ b. is_none (broken_rule b f) && true) (sym (append-nil before)) ∙ ap (λ o. is_none o && true) h
obeys_too before (g ∷ gs) f all h =
    let parts = and_parts (is_none (broken_rule before g)) (all_obey (before ++ g ∷ []) gs) all in
    and_from (is_none (broken_rule before g)) (all_obey (before ++ g ∷ []) (gs ++ f ∷ [])) parts.0
    (obeys_too (before ++ g ∷ []) gs f parts.1 (ap (λ b. broken_rule b f) (append_assoc before (g ∷ []) gs) ∙ h))

pub one_more_obeys : (fs : List Fun) (f : Fun) → all_obey [] (functions fs) ≡ true → broken_rule (functions fs) (function f) ≡ None → all_obey [] (functions (fs ++ f ∷ [])) ≡ true
one_more_obeys fs f all h = ap (all_obey []) (map-append function fs (f ∷ [])) ∙ obeys_too [] (functions fs) (function f) all h

-- the first broken rule, from what is found of each
pub broken_as_found : (fs : List Function) (f : Function) (a b c d e g h : Bool) → a ≡ (is_none (built_in_of f.name)) → b ≡ (list_any (λ k. bytes_eq k.name f.name) fs) → c ≡ (names_differ f.params) → d ≡ (list_any (has_name prev) f.params) → e ≡ (is_none f.zero_part || last_is_number f.params) → g ≡ (holds_of (is_sorted fs f.result) f.zero_part && is_sorted fs f.result f.body) → h ≡ (holds_of (free_all (is_param f)) f.zero_part && free_all (is_in_body f f.zero_part) f.body) → first_broken ((a, BuiltIn) ∷ (not b, NameTwice) ∷ (c, ParamTwice) ∷ (not d, ParamPrev) ∷ (e, LastParam) ∷ (g, Sorts) ∷ (h, FreeName) ∷ []) ≡ broken_rule fs f
broken_as_found fs f a b c d e g h is_a is_b is_c is_d is_e is_g is_h =
    ap (λ x. first_broken ((x, BuiltIn) ∷ (not b, NameTwice) ∷ (c, ParamTwice) ∷ (not d, ParamPrev) ∷ (e, LastParam) ∷ (g, Sorts) ∷ (h, FreeName) ∷ [])) is_a
    ∙ ap (λ x. first_broken (((is_none (built_in_of f.name)), BuiltIn) ∷ (not x, NameTwice) ∷ (c, ParamTwice) ∷ (not d, ParamPrev) ∷ (e, LastParam) ∷ (g, Sorts) ∷ (h, FreeName) ∷ [])) is_b
    ∙ ap (λ x. first_broken (((is_none (built_in_of f.name)), BuiltIn) ∷ (not (list_any (λ k. bytes_eq k.name f.name) fs), NameTwice) ∷ (x, ParamTwice) ∷ (not d, ParamPrev) ∷ (e, LastParam) ∷ (g, Sorts) ∷ (h, FreeName) ∷ [])) is_c
    ∙ ap (λ x. first_broken (((is_none (built_in_of f.name)), BuiltIn) ∷ (not (list_any (λ k. bytes_eq k.name f.name) fs), NameTwice) ∷ ((names_differ f.params), ParamTwice) ∷ (not x, ParamPrev) ∷ (e, LastParam) ∷ (g, Sorts) ∷ (h, FreeName) ∷ [])) is_d
    ∙ ap (λ x. first_broken (((is_none (built_in_of f.name)), BuiltIn) ∷ (not (list_any (λ k. bytes_eq k.name f.name) fs), NameTwice) ∷ ((names_differ f.params), ParamTwice) ∷ (not (list_any (has_name prev) f.params), ParamPrev) ∷ (x, LastParam) ∷ (g, Sorts) ∷ (h, FreeName) ∷ [])) is_e
    ∙ ap (λ x. first_broken (((is_none (built_in_of f.name)), BuiltIn) ∷ (not (list_any (λ k. bytes_eq k.name f.name) fs), NameTwice) ∷ ((names_differ f.params), ParamTwice) ∷ (not (list_any (has_name prev) f.params), ParamPrev) ∷ ((is_none f.zero_part || last_is_number f.params), LastParam) ∷ (x, Sorts) ∷ (h, FreeName) ∷ [])) is_g
    ∙ ap (λ x. first_broken (((is_none (built_in_of f.name)), BuiltIn) ∷ (not (list_any (λ k. bytes_eq k.name f.name) fs), NameTwice) ∷ ((names_differ f.params), ParamTwice) ∷ (not (list_any (has_name prev) f.params), ParamPrev) ∷ ((is_none f.zero_part || last_is_number f.params), LastParam) ∷ ((holds_of (is_sorted fs f.result) f.zero_part && is_sorted fs f.result f.body), Sorts) ∷ (x, FreeName) ∷ [])) is_h
