use Rattle.std.proofs.Common.{◌≡◌, ◌≤◌, ◌+◌, ◌*◌, ◌+ℤ◌, ◌-ℤ◌, ℤ, pos, [], map, drop}
use borrow.Author.Gap.{gap}
use Rattle.x64_syntax.specs.declared.type_words.Sort.TheVariants as sort
use Rattle.term_core.specs.Terms.{tree, tms}
use Rattle.term_core.specs.Functions.{function, functions}
use Rattle.term_core.specs.Literals.{literal_value}
use Rattle.term_core.specs.Meaning.{with_last}
use Rattle.term_core.specs.Value.{Whole, count}
use Rattle.term_value.specs.Evaluation.{evaluate, evaluate_all, evaluate_turns, evaluations, instances, between, knowing}
use Rattle.term_value.specs.inner.Courses.{known_of}
use Rattle.term_value.proofs.evaluation.Evaluator.+evaluation.Given as goal

abbrev pub decreases-evaluate : goal.decreases-evaluate
decreases-evaluate l = 16 * l.self.now.left

abbrev pub decreases-open : goal.decreases-open
decreases-open l = 16 * l.self.now.left + 15

abbrev pub decreases-two : goal.decreases-two
decreases-two l = 16 * l.self.now.left + 1

abbrev pub decreases-three : goal.decreases-three
decreases-three l = 16 * l.self.now.left + 2

abbrev pub decreases-evaluate_all : goal.decreases-evaluate_all
decreases-evaluate_all l = 16 * l.self.now.left + 1

abbrev pub decreases-instance : goal.decreases-instance
decreases-instance l = 16 * l.self.now.left + 1

abbrev pub decreases-instances : goal.decreases-instances
decreases-instances l = 16 * l.self.now.left + 2

abbrev pub decreases-turn : goal.decreases-turn
decreases-turn l = 16 * l.self.now.left + 1

abbrev pub decreases-part : goal.decreases-part
decreases-part l = 16 * l.self.now.left + 1

abbrev pub decreases-turns : goal.decreases-turns
decreases-turns l = 16 * l.self.now.left + 2

abbrev pub decreases-recur : goal.decreases-recur
decreases-recur l = 16 * l.self.now.left + 3

abbrev pub decreases-apply : goal.decreases-apply
decreases-apply l = 16 * l.self.now.left + 4

abbrev pub decreases-call : goal.decreases-call
decreases-call l = 16 * l.self.now.left + 5

-- the rest of the terms behind the values so far comes to what all come to
abbrev pub invariant-evaluate_all-loop-t : goal.invariant-evaluate_all-loop-t
invariant-evaluate_all-loop-t l = record {
  course : evaluate_all (evaluations (functions l.funs)) (known_of l.known) (map literal_value l.values.items) (tms (map tree (drop l.t-index l.terms))) l.self.left ≡ evaluate_all (evaluations (functions l.funs)) (known_of l.known) [] (tms (map tree l.terms)) l.initial.self.left;
  left : l.self.left ≤ l.initial.self.left;
}

-- the instances that are left, with the truth so far, come to what all come to
abbrev pub invariant-instances-loop-z : goal.invariant-instances-loop-z
invariant-instances-loop-z l = record {
  course : instances (λ z. evaluate (evaluations (functions l.funs)) (knowing l.name sort.Int (Whole z) (known_of l.known)) (tree l.body)) (count (l.high -ℤ l.z)) l.z l.all l.self.left ≡ between (λ z. evaluate (evaluations (functions l.funs)) (knowing l.name sort.Int (Whole z) (known_of l.known)) (tree l.body)) l.low l.high l.initial.self.left;
  left : l.self.left ≤ l.initial.self.left;
}

abbrev pub decreases-instances-loop-z : goal.decreases-instances-loop-z
decreases-instances-loop-z l = gap l.z l.high

-- the turns that are left, with the value so far, come to what all come to
abbrev pub invariant-turns-loop-n : goal.invariant-turns-loop-n
invariant-turns-loop-n l = record {
  course : evaluate_turns (evaluations (functions l.earlier)) (function l.f) (map literal_value l.initial.args) (count (l.last -ℤ l.n)) (l.n +ℤ pos 1) (literal_value l.value) l.self.left ≡ evaluate_turns (evaluations (functions l.earlier)) (function l.f) (map literal_value l.initial.args) (count l.last) (pos 1) (literal_value l.initial.value) l.initial.self.left;
  args : (m : ℤ) → with_last (map literal_value l.args) m ≡ with_last (map literal_value l.initial.args) m;
  left : l.self.left ≤ l.initial.self.left;
}

abbrev pub decreases-turns-loop-n : goal.decreases-turns-loop-n
decreases-turns-loop-n l = gap l.n l.last
