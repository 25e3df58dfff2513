-- How many arguments stand there.
use Rattle.std.proofs.Common.{◌≡◌, ℕ, Bool, true, false, List, [], ◌∷◌, ◌++◌, map, drop, length, get_or, ◌+◌, ◌<◌, suc, refl, sym, ap, ◌∙◌, Option, Some, None, arith}
use Rattle.std.specs.Prelude.{◌&&◌, is_some}
use Rattle.std.proofs.lemmas.List.{append_assoc, map-append, drop_more}
use Rattle.x64_syntax.specs.declared.type_words.Sort.{Sort}
use Rattle.vale_syntax.specs.declared.expr.Expr.{Expr}
use Rattle.vale_syntax.specs.inner.CodeTrees.{tree as ex, exs}
use Rattle.term_core.specs.declared.functions.Variable.{Variable}
use Rattle.term_core.specs.declared.operator.Operator.{Operator}
use Rattle.term_core.specs.declared.term.Term.{Term}
use Rattle.term_core.specs.Operators.{sort_eq, given_if}
use Rattle.term_core.specs.Terms.{Tm, tree, tm_sort}
use Rattle.term_core.specs.Sorted.{sorts_eq}
use Rattle.operand_types.specs.TermIn.{Known, known_in, terms_of, range_of, term_of, in_front, over, over_range}
use Rattle.operand_types.specs.inner.Walks.{behind}

-- as many arguments as parameters
pub counts_of_calls : (args : List Term) (ps : List Variable) → (length args ≡ length ps → ⊥) → false ≡ sorts_eq (map tm_sort (map tree args)) (map (λ p. p.sort) ps)
counts_of_calls [] [] differ = absurd (differ refl)
counts_of_calls (t ∷ ts) [] differ = refl
counts_of_calls [] (p ∷ ps) differ = refl
counts_of_calls (t ∷ ts) (p ∷ ps) differ = either (sort_eq (tm_sort (tree t)) p.sort) (counts_of_calls ts ps (λ e. differ (ap suc e)))
  where
    either : (c : Bool) {d : Bool} → false ≡ d → false ≡ (c && d)
    either true h = h
    either false h = refl

-- one more term goes last
pub behind_more : (ts : List Tm) (t : Tm) (rest : Option (List Tm)) → behind ts (in_front (Some t) rest) ≡ behind (ts ++ t ∷ []) rest
behind_more ts t None = refl
behind_more ts t (Some us) = ap Some (sym (append_assoc ts (t ∷ []) us))

pub is_given : (takes : Bool) (s : Sort) → is_some (given_if takes s) ≡ takes
is_given true s = refl
is_given false s = refl

-- one more expression that is a term
pub list_more : (k : Known) (ts : List Tm) (x : Expr) (xs : List Expr) (t : Tm) → term_of k (ex x) ≡ Some t → behind ts (terms_of k (exs (map ex (x ∷ xs)))) ≡ behind (ts ++ t ∷ []) (terms_of k (exs (map ex xs)))
unfolding terms_of
list_more k ts x xs t e = ap (λ o. behind ts (in_front o (terms_of k (exs (map ex xs))))) e ∙ behind_more ts t (terms_of k (exs (map ex xs)))

-- the next argument
pub list_step : (k : Known) (made : List Term) (xs : List Expr) (i : ℕ) (x : Expr) (t : Term) → i < length xs → x ≡ get_or xs i x → term_of k (ex x) ≡ Some (tree t) → behind (map tree (made ++ t ∷ [])) (terms_of k (exs (map ex (drop (i + 1) xs)))) ≡ behind (map tree made) (terms_of k (exs (map ex (drop i xs))))
list_step k made xs i x t h is e =
    ap (λ ts. behind ts (terms_of k (exs (map ex (drop (i + 1) xs))))) (map-append tree made (t ∷ []))
    ∙ sym (list_more k (map tree made) x (drop (i + 1) xs) (tree t) e)
    ∙ ap (λ l. behind (map tree made) (terms_of k (exs (map ex l)))) (sym (drop_more xs i x h ∙ ap (λ y. y ∷ drop (i + 1) xs) (sym is)))

-- one more argument of `forall` that is a term
pub range_more : (k : Known) (name : List ℕ) (n : ℕ) (ts : List Tm) (x : Expr) (xs : List Expr) (t : Tm) → term_of (known_in k name n) (ex x) ≡ Some t → behind ts (range_of k name n (exs (map ex (x ∷ xs)))) ≡ behind (ts ++ t ∷ []) (range_of k name (n + 1) (exs (map ex xs)))
unfolding range_of
range_more k name n ts x xs t e = ap (λ o. behind ts (in_front o (range_of k name (n + 1) (exs (map ex xs))))) e ∙ behind_more ts t (range_of k name (n + 1) (exs (map ex xs)))

pub range_step : (k : Known) (name : List ℕ) (made : List Term) (xs : List Expr) (i : ℕ) (x : Expr) (t : Term) → i < length xs → x ≡ get_or xs i x → term_of (known_in k name i) (ex x) ≡ Some (tree t) → behind (map tree (made ++ t ∷ [])) (range_of k name (i + 1) (exs (map ex (drop (i + 1) xs)))) ≡ behind (map tree made) (range_of k name i (exs (map ex (drop i xs))))
range_step k name made xs i x t h is e =
    ap (λ ts. behind ts (range_of k name (i + 1) (exs (map ex (drop (i + 1) xs))))) (map-append tree made (t ∷ []))
    ∙ sym (range_more k name i (map tree made) x (drop (i + 1) xs) (tree t) e)
    ∙ ap (λ l. behind (map tree made) (range_of k name i (exs (map ex l)))) (sym (drop_more xs i x h ∙ ap (λ y. y ∷ drop (i + 1) xs) (sym is)))

-- no operator takes another number of terms
pub none_over : (op : Operator) (ts : List Term) → (length ts < 4 → length ts ≡ 0) → over op (map tree ts) ≡ None
none_over op [] h = refl
none_over op (a ∷ []) h = absurd (omega (arith, h))
none_over op (a ∷ b ∷ []) h = absurd (omega (arith, h))
none_over op (a ∷ b ∷ c ∷ []) h = absurd (omega (arith, h))
none_over op (a ∷ b ∷ c ∷ d ∷ ts) h = refl

-- and `forall` takes three behind its name
pub none_over_range : (name : List ℕ) (ts : List Term) → (length ts ≡ 3 → ⊥) → over_range name (map tree ts) ≡ None
none_over_range name [] h = refl
none_over_range name (a ∷ []) h = refl
none_over_range name (a ∷ b ∷ []) h = refl
none_over_range name (a ∷ b ∷ c ∷ []) h = absurd (h refl)
none_over_range name (a ∷ b ∷ c ∷ d ∷ ts) h = refl
