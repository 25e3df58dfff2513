use Rattle.std.proofs.Common.{true, false, sym, ap, ◌∙◌}
use Rattle.term_core.specs.Terms.{tree}
use Rattle.term_core.specs.Functions.{functions}
use Rattle.term_core.specs.Literals.{literal_value}
use Rattle.term_value.specs.declared.known.KnownNames.TheVariants as known
use Rattle.term_value.specs.inner.Courses.{known_of}
use Rattle.term_value.specs.Evaluation.{evaluate, evaluations, node_limit}
use Rattle.term_value.proofs.Coursing.{moved}
use Rattle.term_value.proofs.Starting.{by_test, answered}
use Rattle.term_value.proofs.evaluation.value.Goals as goal

pub returns-then-not-knows_free : goal.returns-then-not-knows_free
returns-then-not-knows_free c =
    by_test (functions c.args.f.now) c.args.entries (tree c.args.t.now) false (sym c.knows_free.ensures ∙ c.if-not-knows_free.true)

pub returns : goal.returns
returns c =
    let entries = by_test (functions c.args.f.now) c.args.entries (tree c.args.t.now) true (sym c.knows_free.ensures ∙ c.if-not-knows_free.false) in
    answered (functions c.args.f.now) c.args.entries (tree c.args.t.now) c.evaluate.result c.evaluate.new.self.left entries
    (moved literal_value _ _ c.evaluate.result c.evaluate.new.self.left
    (ap (λ fs. evaluate (evaluations (functions fs)) (known_of (known.Entries c.args.entries)) (tree c.args.t.now) node_limit) (sym c.as_slice.ensures)) c.evaluate.ensures.course)
