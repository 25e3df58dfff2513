use Rattle.std.proofs.Common.{◌≡◌, ℕ, ◌-◌, ◌<◌, ◌≤◌, ◌⊎◌, inl, inr, Some, length, refl, sym, ap, ◌∙◌, arith}
use Rattle.std.proofs.lemmas.Bool.{cases_lt}
use Rattle.std.proofs.lemmas.Option.{slice_get_read}
use Rattle.x64_syntax.specs.declared.items.Item.TheVariants.{Label}
use Rattle.x64_evaluator.proofs.Rising.{here, all_above, none_behind, no_label, higher_label}
use Rattle.x64_evaluator.proofs.places.place_back.Goals as goal

above_it : (m n : ℕ) → m ≤ n → (n ≡ m → ⊥) → m < n
above_it m n le ne = by (cases_lt m n) where
  by : (m < n) ⊎ (n ≤ m) → m < n
  by (inl lt) = lt
  by (inr ge) = absurd (ne (omega (arith, le, ge)))

pub returns-then-other-label : goal.returns-then-other-label
returns-then-other-label c =
    let items = c.args.items.now in
    let within : c.loop-k.k - 1 < length items = let lt = c.loop-k-test.true in let le = c.loop-k.auto.k in omega (arith, lt, le) in
    let at = slice_get_read items (length items) (c.loop-k.k - 1) c.index-items-k.result refl within c.index-items-k.is ∙ ap Some (c.in-Label.is ∙ ap Label c.if-other-label.true) in
    sym (here items c.requires c.args.label (c.loop-k.k - 1) at)

pub returns-then-other-label-2 : goal.returns-then-other-label-2
returns-then-other-label-2 c =
    let items = c.args.items.now in
    let some_ = c.loop-k-test.true in
    let within : c.loop-k.k - 1 < length items = let le = c.loop-k.auto.k in omega (arith, some_, le) in
    let at = slice_get_read items (length items) (c.loop-k.k - 1) c.index-items-k.result refl within c.index-items-k.is ∙ ap Some c.in-Label.is in
    sym (none_behind items c.requires c.args.label (c.loop-k.k - 1) c.in-Label.other at c.if-other-label-2.true (λ k l le h. c.loop-k.invariant k l (omega (arith, some_, le)) h))

pub loop-k-preserved-else-other-label-2 : goal.loop-k-preserved-else-other-label-2
loop-k-preserved-else-other-label-2 c =
    let items = c.args.items.now in
    let some_ = c.loop-k-test.true in
    let within : c.loop-k.k - 1 < length items = let le = c.loop-k.auto.k in omega (arith, some_, le) in
    let at = slice_get_read items (length items) (c.loop-k.k - 1) c.index-items-k.result refl within c.index-items-k.is ∙ ap Some c.in-Label.is in
    let above : c.args.label < c.in-Label.other = above_it _ _ c.if-other-label-2.false c.if-other-label.false in
    higher_label items c.args.label c.loop-k.k c.in-Label.other some_ at above c.loop-k.invariant

pub loop-k-preserved : goal.loop-k-preserved
loop-k-preserved c =
    let items = c.args.items.now in
    let some_ = c.loop-k-test.true in
    let within : c.loop-k.k - 1 < length items = let le = c.loop-k.auto.k in omega (arith, some_, le) in
    let at = slice_get_read items (length items) (c.loop-k.k - 1) c.index-items-k.result refl within c.index-items-k.is in
    no_label items c.args.label c.loop-k.k c.index-items-k.result some_ at c.in_default.not-Label c.loop-k.invariant

pub returns : goal.returns
returns c =
    let none = c.loop-k-test.false in
    sym (all_above c.args.items.now c.requires c.args.label (λ k l le h. c.loop-k.invariant k l (omega (arith, none)) h))
