use Rattle.std.proofs.Common.{◌≡◌, ℕ, Bool, true, List, [], ◌∷◌, length, Option, None, Some, refl, sym, ap, ◌∙◌, arith, subst, if◌then◌else◌}
use Rattle.std.specs.Prelude.{◌==◌, codes, is_none, option_map}
use Rattle.std.specs.Str.{bytes_eq}
use Rattle.gas_text.specs.inner.Readers.{sofar}
use Rattle.std.proofs.lemmas.Bool.{false≢true, eqb-true}
use Rattle.gas_text.proofs.Counts.{bytes_from}
use Rattle.gas_text.proofs.Going.{Going, going_start, going_next, going_bad, going_done, going_early, no_start_none, no_start_other, shorter, number_fits}
use Rattle.gas_text.proofs.text.read_in_order.Goals as goal
use Rattle.gas_text.proofs.text.read_in_order.Goals.{in_default-via-in-Some+else-eq, in_default-via-in_default, else-is_empty-via-then-is_empty+else-is_between, else-is_empty-via-else-is_empty}

pub returns-in_default-clause-err : goal.returns-in_default-clause-err
returns-in_default-clause-err c = elim c.in_default.branch [
  | in_default-via-in-Some+else-eq w ↦
      no_start_other c.args.text.now w.in-Some.first.now w.in-Some.rest.now (sym w.in-Some.ensures)
      (ap (λ t. bytes_eq w.in-Some.first.now t) (sym w.as_slice.ensures) ∙ sym w.if-eq.ensures)
  | in_default-via-in_default w ↦ no_start_none c.args.text.now (sym w.in_default.ensures)
]

pub loop-line-init : goal.loop-line-init
loop-line-init c =
    let first = bytes_from c.in-Some.first.now (codes ".text") (ap (λ t. bytes_eq c.in-Some.first.now t) (sym c.as_slice.ensures) ∙ sym c.if-eq.ensures) in
    record {
      going = subst (λ s. Going c.args.text.now c.in-Some.rest.now s 2) (sym c.new-reader.ensures.start) (going_start c.args.text.now c.in-Some.rest.now (sym c.in-Some.ensures ∙ ap (λ l. Some (l, c.in-Some.rest.now)) first));
      kept = c.new-reader.ensures.kept;
    }

pub returns-then-not-branch-clause-err : goal.returns-then-not-branch-clause-err
returns-then-not-branch-clause-err c =
    going_bad c.args.text.now c.loop-line.rest.now (sofar c.loop-line.reader) c.loop-line.line_number c.loop-line.invariant.going c.in-Some-sides_of.line.now c.in-Some-sides_of.behind.now (sym c.in-Some-sides_of.ensures)
    (c.in_ok-take.ensures.next ∙ ap (λ (t : Bool). if t then Some (sofar c.take.new.self) else None) c.if-not-branch.true)

pub overflow_add-line_number : goal.overflow_add-line_number
overflow_add-line_number c = let n = number_fits c.args.text.now c.loop-line.rest.now _ _ c.loop-line.invariant.going in omega (arith, n)

pub loop-line-smaller : goal.loop-line-smaller
loop-line-smaller c = shorter c.loop-line.rest.now c.in-Some-sides_of.line.now c.in-Some-sides_of.behind.now (sym c.in-Some-sides_of.ensures)

pub loop-line-preserved : goal.loop-line-preserved
loop-line-preserved c =
    record {
      going =
          going_next c.args.text.now c.loop-line.rest.now (sofar c.loop-line.reader) c.loop-line.line_number c.loop-line.invariant.going c.in-Some-sides_of.line.now c.in-Some-sides_of.behind.now (sym c.in-Some-sides_of.ensures) (sofar c.take.new.self)
          (c.in_ok-take.ensures.next ∙ ap (λ (t : Bool). if t then Some (sofar c.take.new.self) else None) c.if-not-branch.false);
      kept = c.in_ok-take.ensures.kept c.if-not-branch.false;
    }

is_nothing : {A : Type 0} (o : Option A) → true ≡ is_none o → o ≡ None
is_nothing None h = refl
is_nothing (Some a) h = absurd (false≢true (sym h))

is_nil : (xs : List ℕ) → true ≡ (length xs == 0) → xs ≡ []
is_nil [] h = refl
is_nil (x ∷ xs) h = let e = eqb-true (length (x ∷ xs)) 0 (sym h) in absurd (omega (arith, e))

shown : {A B : Type 0} (f : A → B) (o : Option A) → is_none o ≡ is_none (option_map f o)
shown f None = refl
shown f (Some a) = refl

pub returns-then-is_between-clause-ok : goal.returns-then-is_between-clause-ok
returns-then-is_between-clause-ok c =
    let done =
    going_done c.args.text.now c.loop-line.rest.now (sofar c.loop-line.reader) c.loop-line.line_number c.loop-line.invariant.going (sym c.in_default-sides_of.ensures)
    (is_nil c.loop-line.rest.now c.if-is_empty.ensures) (is_nothing _ (c.if-is_between.ensures ∙ shown _ c.loop-line.reader.awaited)) in
    rw c.into_items.ensures done

pub returns-else-is_empty-clause-err : goal.returns-else-is_empty-clause-err
returns-else-is_empty-clause-err c = elim c.else-is_empty.branch [
  | else-is_empty-via-then-is_empty+else-is_between w ↦
      going_early c.args.text.now c.loop-line.rest.now (sofar c.loop-line.reader) c.loop-line.line_number c.loop-line.invariant.going (sym c.in_default-sides_of.ensures)
      (λ p. false≢true (w.if-is_between.ensures ∙ shown _ c.loop-line.reader.awaited ∙ ap is_none p.1))
  | else-is_empty-via-else-is_empty w ↦
      going_early c.args.text.now c.loop-line.rest.now (sofar c.loop-line.reader) c.loop-line.line_number c.loop-line.invariant.going (sym c.in_default-sides_of.ensures)
      (λ p. false≢true (w.if-is_empty.ensures ∙ ap (λ xs. length xs == 0) p.0))
]
