-- The evaluation of a whole term.
use Rattle.std.proofs.Common.{◌≡◌, ℕ, List, Bool, sym, ap, ◌∙◌, subst, Bor, Result, Ok, Err}
use Rattle.std.specs.Prelude.{is_some, if◌then◌else◌}
use Rattle.x64_syntax.specs.declared.type_words.Sort.{Sort}
use Rattle.term_core.specs.declared.literal.Literal.{Literal}
use Rattle.term_core.specs.declared.literal.Entry.{Entry}
use Rattle.term_core.specs.declared.scope.Scope.{Scope-F, fold-roll-Scope}
use Rattle.term_core.specs.declared.scope.Scope.TheVariants as scope
use Rattle.term_core.specs.Terms.{Tm}
use Rattle.term_core.specs.Value.{Val}
use Rattle.term_core.specs.Functions.{Function}
use Rattle.term_core.specs.Rules.{free_all}
use Rattle.term_core.specs.Scopes.{scope_layer, in_scope}
use Rattle.term_core.specs.Literals.{literal_value, Known, entry_value}
use Rattle.term_value.specs.declared.fault.ValueFault.{ValueFault}
use Rattle.term_value.specs.declared.fault.ValueFault.TheVariants.{Unbound, Long, TooWide, NoMemory}
use Rattle.term_value.specs.declared.known.KnownNames.{KnownNames-F, fold-roll-KnownNames}
use Rattle.term_value.specs.declared.known.KnownNames.TheVariants as known
use Rattle.term_value.specs.Answers.{Answers}
use Rattle.term_value.specs.Evaluation.{Outcome, evaluate, evaluations, node_limit, result_of, evaluated}
use Rattle.term_value.specs.inner.Courses.{known_layer, known_of, ComesTo}

in_entries : (es : Bor (List Entry)) → in_scope (scope.Entries es) ≡ (λ text s. is_some (entry_value es.now text s))
in_entries es = ap in_scope (sym (scope.rolls-Entries es)) ∙ fold-roll-Scope (List ℕ → Sort → Bool) scope_layer (Scope-F.Entries es)

known_entries : (es : Bor (List Entry)) → known_of (known.Entries es) ≡ entry_value es.now
known_entries es = ap known_of (sym (known.rolls-Entries es)) ∙ fold-roll-KnownNames Known known_layer (KnownNames-F.Entries es)

answers_as : (o : Outcome Val) (r : Result Literal ValueFault) (left : ℕ) → ComesTo literal_value o r left → Answers (result_of o) r
answers_as o (Ok x) left h = ap result_of h
answers_as o (Err Unbound) left h = ap result_of h
answers_as o (Err Long) left h = ap result_of h
answers_as o (Err TooWide) left h = ap result_of h
answers_as o (Err NoMemory) left h = tt {0}

-- by whether the free names have entries
pub by_test : (fs : List Function) (es : Bor (List Entry)) (t : Tm) (test : Bool) → free_all (in_scope (scope.Entries es)) t ≡ test → evaluated fs es.now t ≡ (if test then result_of (evaluate (evaluations fs) (entry_value es.now) t node_limit) else Err Unbound)
by_test fs es t test h =
    ap (λ b. if b then result_of (evaluate (evaluations fs) (entry_value es.now) t node_limit) else Err Unbound) (ap (λ p. free_all p t) (sym (in_entries es)) ∙ h)

pub answered : (fs : List Function) (es : Bor (List Entry)) (t : Tm) (r : Result Literal ValueFault) (left : ℕ) → evaluated fs es.now t ≡ result_of (evaluate (evaluations fs) (entry_value es.now) t node_limit) → ComesTo literal_value (evaluate (evaluations fs) (known_of (known.Entries es)) t node_limit) r left → Answers (evaluated fs es.now t) r
answered fs es t r left e h =
    subst (λ w. Answers w r) (sym e) (answers_as _ r left (subst (λ k. ComesTo literal_value (evaluate (evaluations fs) k t node_limit) r left) (known_entries es) h))
