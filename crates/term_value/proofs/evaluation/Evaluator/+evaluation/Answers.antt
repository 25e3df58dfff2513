use Rattle.std.proofs.Common.{◌≡◌, pos, ◌+ℤ◌, ◌-ℤ◌, ◌<ℤ◌, ℤ, arith, rules, ap, sym, ◌∙◌, map, take, refl, to_z, of_z}
use Rattle.std.specs.Prelude.{FitsSigned}
use Rattle.std.specs.Int.{w128}
use borrow.Author.Gap.{counting}
use Rattle.std.proofs.lemmas.Int.{ints, to_z-of_z}
use Rattle.std.proofs.lemmas.Result.{err_from_is_err_and}
use Rattle.x64_syntax.specs.declared.type_words.Sort.TheVariants as sort
use Rattle.term_core.specs.Terms.{tree}
use Rattle.term_core.specs.Meaning.{last_number, at_most_0, with_last}
use Rattle.term_core.specs.Functions.{function, functions}
use Rattle.term_core.specs.Literals.{literal_value}
use Rattle.term_core.specs.Value.{Whole, count}
use Rattle.term_value.specs.Evaluation.{Got, next_of, between, evaluations, evaluate, evaluate_fun, evaluate_zero, evaluate_turn, evaluate_turns, instances, knowing, known_arguments}
use Rattle.term_value.specs.inner.Courses.{known_of}
use Rattle.term_value.proofs.Coursing.{moved, stops_as, entered_with, instance_more, instance_stops}
use Rattle.term_value.proofs.Turning.{last_twice, turn_moved, turns_moved, turn_more, turn_stops, known_params, known_more}
use Rattle.term_value.proofs.Calling.{get_some, called, uncalled}
use Rattle.term_value.proofs.evaluation.Evaluator.+evaluation.Goals as goal

pub evaluate-returns-clause-course : goal.evaluate-returns-clause-course
evaluate-returns-clause-course t c =
    moved literal_value _ _ c.open.result c.open.new.self.left
    (entered_with (evaluations (functions c.args.funs.now)) (known_of c.args.known.now) (tree c.args.t.now) c.args.self.now.left _ (omega arith))
    c.open.ensures.course

pub call-returns-clause-course : goal.call-returns-clause-course
call-returns-clause-course t c =
    ap (λ e. e c.args.self.now.left) (uncalled c.args.funs.now c.args.k (map literal_value c.args.args.items) c.if-k-funs.false)

pub call-returns-then-k-funs-clause-course : goal.call-returns-then-k-funs-clause-course
call-returns-then-k-funs-clause-course t c =
    let fs = c.args.funs.now in
    let k = c.args.k in
    let f = c.index-funs-k.result in
    let at = get_some fs k f (omega arith) c.index-funs-k.is in
    moved literal_value _ _ c.apply.result c.apply.new.self.left
    (ap (λ e. e c.args.self.now.left) (called fs k f (map literal_value c.args.args.items) at)
    ∙ ap (λ l. evaluate_fun (evaluations (functions (take k fs))) (function f) (function f).zero_part (map literal_value l) c.args.self.now.left) (sym c.deref_mut.ensures.value))
    c.apply.ensures.course

pub instances-returns-in_err-instance-clause-course : goal.instances-returns-in_err-instance-clause-course
instances-returns-in_err-instance-clause-course t c =
    let p = λ (z : ℤ). evaluate (evaluations (functions c.args.funs.now)) (knowing c.args.name.now sort.Int (Whole z) (known_of c.args.known.now)) (tree c.args.body.now) in
    let lt : to_z w128 c.loop-z.z-bits <ℤ to_z w128 (of_z w128 c.args.high) = omega (arith, ints) in
    let stop = instance_stops p (to_z w128 (of_z w128 c.args.high)) (to_z w128 c.loop-z.z-bits) c.loop-z.all c.loop-z.self.left c.in_err-instance.field-0.0 lt c.in_err-instance.ensures.course in
    let left = c.args.self.now.left in
    let range : between p (to_z w128 (of_z w128 c.args.low)) (to_z w128 (of_z w128 c.args.high)) left ≡ between p c.args.low c.args.high left =
    ap (λ (y : ℤ). between p y (to_z w128 (of_z w128 c.args.high)) left) (to_z-of_z w128 c.args.low c.ranges.low)
    ∙ ap (λ (y : ℤ). between p c.args.low y left) (to_z-of_z w128 c.args.high c.ranges.high) in
    let q = err_from_is_err_and c.from_residual.result c.from_residual.ensures.1 in
    rw (q.1, q.2) (stops_as _ _ c.in_err-instance.field-0.0 (c.loop-z.invariant.course ∙ range) stop)

pub instances-loop-z-preserved : goal.instances-loop-z-preserved
instances-loop-z-preserved t c =
    let p = λ (z : ℤ). evaluate (evaluations (functions c.args.funs.now)) (knowing c.args.name.now sort.Int (Whole z) (known_of c.args.known.now)) (tree c.args.body.now) in
    let z = to_z w128 c.loop-z.z-bits in
    let high = to_z w128 (of_z w128 c.args.high) in
    let left = c.instance.new.self.left in
    let lt : z <ℤ high = omega (arith, ints) in
    let fits : FitsSigned w128 (z +ℤ pos 1) = search rules in
    let next : to_z w128 (of_z w128 (z +ℤ pos 1)) ≡ z +ℤ pos 1 = to_z-of_z w128 (z +ℤ pos 1) fits in
    let v = literal_value c.in_ok-instance.field-0 in
    let more = instance_more p high z c.loop-z.all v c.loop-z.self.left left lt c.in_ok-instance.ensures.course in
    record {
      course = ap (λ (y : ℤ). instances p (count (high -ℤ y)) y c.and_true-all.result left) next
          ∙ ap (λ b. instances p (count (high -ℤ (z +ℤ pos 1))) (z +ℤ pos 1) b left) c.and_true-all.ensures
          ∙ more
          ∙ c.loop-z.invariant.course;
      left = omega arith;
    }

pub instances-loop-z-smaller : goal.instances-loop-z-smaller
instances-loop-z-smaller t c = search (rules, counting)

pub recur-returns-clause-course : goal.recur-returns-clause-course
recur-returns-clause-course t c =
    let e = evaluations (functions c.args.earlier.now) in
    let f = function c.args.f.now in
    let vs = map literal_value c.args.args.now in
    let n = to_z w128 (of_z w128 c.at_most_0.result) in
    let last = to_z w128 (of_z w128 c.last_number-last.result) in
    let v = literal_value c.in_ok-value.value in
    let left = c.part.new.self.left in
    let fits_last : FitsSigned w128 c.last_number-last.result = search rules in
    let fits_n : FitsSigned w128 c.at_most_0.result = search rules in
    let last_is : last ≡ last_number vs = to_z-of_z w128 c.last_number-last.result fits_last ∙ c.last_number-last.ensures in
    let n_is : n ≡ at_most_0 (last_number vs) = to_z-of_z w128 c.at_most_0.result fits_n ∙ c.at_most_0.ensures ∙ ap at_most_0 last_is in
    let zero_is : evaluate_zero e f (tree c.args.zero.now) vs c.args.self.now.left ≡ Got v left =
    ap (λ (y : ℤ). evaluate e (known_arguments f.params (with_last vs y)) (tree c.args.zero.now) c.args.self.now.left) (sym n_is) ∙ c.in_ok-value.ensures.course in
    let moves = turns_moved e f (map literal_value c.part.new.args) vs (λ m. ap (λ l. with_last l m) c.in_ok-value.ensures.kept ∙ last_twice vs n m) (count last) (pos 1) v left in
    moved literal_value _ _ c.turns.result c.turns.new.self.left
    (ap (λ o. next_of o (evaluate_turns e f vs (count (last_number vs)) (pos 1))) zero_is
    ∙ ap (λ (y : ℤ). evaluate_turns e f vs (count y) (pos 1) v left) (sym last_is)
    ∙ sym moves)
    c.turns.ensures.course

pub part-returns-clause-course : goal.part-returns-clause-course
part-returns-clause-course t c =
    let e = evaluations (functions c.args.earlier.now) in
    let put = c.set_last.ensures ∙ ap (with_last (map literal_value c.args.args.now)) (to_z-of_z w128 c.args.n c.ranges.n) in
    moved literal_value _ _ c.evaluate.result c.evaluate.new.self.left
    (ap (λ k. evaluate e k (tree c.args.zero.now) c.args.self.now.left) (sym (known_params _ _ c.args.f.now.params (with_last (map literal_value c.args.args.now) c.args.n) c.as_slice.ensures put)))
    c.evaluate.ensures.course

pub turn-returns-clause-course : goal.turn-returns-clause-course
turn-returns-clause-course t c =
    let e = evaluations (functions c.args.earlier.now) in
    let put = c.set_last.ensures ∙ ap (with_last (map literal_value c.args.args.now)) (to_z-of_z w128 c.args.n c.ranges.n) in
    let ws = with_last (map literal_value c.args.args.now) c.args.n in
    moved literal_value _ _ c.evaluate.result c.evaluate.new.self.left
    (ap (λ k. evaluate e k (tree c.args.f.now.body) c.args.self.now.left)
    (sym (known_more _ _ _ _ (known_arguments c.args.f.now.params ws) refl (known_params _ _ c.args.f.now.params ws c.as_slice.ensures put))))
    c.evaluate.ensures.course

pub turns-returns-in_err-value-clause-course : goal.turns-returns-in_err-value-clause-course
turns-returns-in_err-value-clause-course t c =
    let e = evaluations (functions c.args.earlier.now) in
    let f = function c.args.f.now in
    let vs = map literal_value c.args.args.now in
    let ws = map literal_value c.loop-n.args in
    let n = to_z w128 c.loop-n.n-bits in
    let last = to_z w128 (of_z w128 c.args.last) in
    let lt : n <ℤ last = omega (arith, ints) in
    let fits : FitsSigned w128 (n +ℤ pos 1) = search rules in
    let next : to_z w128 (of_z w128 (n +ℤ pos 1)) ≡ n +ℤ pos 1 = to_z-of_z w128 (n +ℤ pos 1) fits in
    let v = literal_value c.loop-n.value in
    let fault = c.in_err-value.field-0.0 in
    let left = c.loop-n.self.left in
    let same : evaluate_turn e f ws (to_z w128 (of_z w128 (n +ℤ pos 1))) v left ≡ evaluate_turn e f vs (n +ℤ pos 1) v left =
    turn_moved e f ws vs (to_z w128 (of_z w128 (n +ℤ pos 1))) v left (c.loop-n.invariant.args (to_z w128 (of_z w128 (n +ℤ pos 1))))
    ∙ ap (λ (y : ℤ). evaluate_turn e f vs y v left) next in
    let stop = turn_stops e f vs last n v left fault lt (stops_as _ _ fault same c.in_err-value.ensures.course) in
    let start = c.args.self.now.left in
    let to_last = ap (λ (y : ℤ). evaluate_turns e f vs (count y) (pos 1) (literal_value c.args.zero) start) (to_z-of_z w128 c.args.last c.ranges.last) in
    let q = err_from_is_err_and c.from_residual.result c.from_residual.ensures.1 in
    rw (q.1, q.2) (stops_as _ _ fault (c.loop-n.invariant.course ∙ to_last) stop)

pub turns-loop-n-smaller : goal.turns-loop-n-smaller
turns-loop-n-smaller t c = search (rules, counting)

pub turns-loop-n-preserved : goal.turns-loop-n-preserved
turns-loop-n-preserved t c =
    let e = evaluations (functions c.args.earlier.now) in
    let f = function c.args.f.now in
    let vs = map literal_value c.args.args.now in
    let ws = map literal_value c.loop-n.args in
    let n = to_z w128 c.loop-n.n-bits in
    let last = to_z w128 (of_z w128 c.args.last) in
    let lt : n <ℤ last = omega (arith, ints) in
    let fits : FitsSigned w128 (n +ℤ pos 1) = search rules in
    let next : to_z w128 (of_z w128 (n +ℤ pos 1)) ≡ n +ℤ pos 1 = to_z-of_z w128 (n +ℤ pos 1) fits in
    let v = literal_value c.loop-n.value in
    let w = literal_value c.in_ok-value.value in
    let left = c.turn.new.self.left in
    let one : evaluate_turn e f vs (n +ℤ pos 1) v c.loop-n.self.left ≡ Got w left =
    ap (λ (y : ℤ). evaluate_turn e f vs y v c.loop-n.self.left) (sym next)
    ∙ sym (turn_moved e f ws vs (to_z w128 (of_z w128 (n +ℤ pos 1))) v c.loop-n.self.left (c.loop-n.invariant.args (to_z w128 (of_z w128 (n +ℤ pos 1)))))
    ∙ c.in_ok-value.ensures.course in
    record {
      course = ap (λ (y : ℤ). evaluate_turns e f vs (count (last -ℤ y)) (y +ℤ pos 1) w left) next
          ∙ turn_more e f vs last n v w c.loop-n.self.left left lt one
          ∙ c.loop-n.invariant.course;
      args = λ m. ap (λ l. with_last l m) c.in_ok-value.ensures.kept ∙ last_twice ws (to_z w128 (of_z w128 (n +ℤ pos 1))) m ∙ c.loop-n.invariant.args m;
      left = omega arith;
    }
