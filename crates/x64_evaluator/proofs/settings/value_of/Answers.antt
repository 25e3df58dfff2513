use Rattle.std.proofs.Common.{◌++◌, sym, ap, ◌∙◌, ltb}
use Rattle.std.proofs.lemmas.Bool.{lt-ltb, ltb-true, false≢true}
use Rattle.x64_evaluator.specs.StateFile.{value_text, limit}
use Rattle.x64_evaluator.proofs.Taken.{value_cut, small, none_is, pair_first, same_bytes, other_bytes}
use Rattle.x64_evaluator.proofs.settings.value_of.Goals as goal

pub returns-in_default : goal.returns-in_default
returns-in_default c p n lt is =
    let parts = value_cut p n c.args.word.now c.args.rest.now c.requires.word (is ∙ c.requires.text) in
    none_is (p, n) (c.in_default.ensures p n (small p n lt) parts.0 parts.1)

pub returns-then-not-fits : goal.returns-then-not-fits
returns-then-not-fits c p n lt is =
    let parts = value_cut p n c.args.word.now c.args.rest.now c.requires.word (is ∙ c.requires.text) in
    let found = pair_first (c.in-Some.ensures p n (small p n lt) parts.0 parts.1) in
    let fits = ap (λ m. ltb m (limit c.in-Some.place)) found.1 ∙ ap (λ q. ltb n (limit q)) found.0 ∙ lt-ltb n (limit p) lt in
    false≢true (c.if-not-fits.ensures ∙ fits)

pub returns-else-eq : goal.returns-else-eq
returns-else-eq c p n lt is =
    let parts = value_cut p n c.args.word.now c.args.rest.now c.requires.word (is ∙ c.requires.text) in
    let found = pair_first (c.in-Some.ensures p n (small p n lt) parts.0 parts.1) in
    let text = value_text c.in-Some.place c.in-Some.n in
    let pushed = c.in_ok-push_value.ensures ∙ ap (λ l. l ++ text) c.clear.ensures.items in
    let same = ap (λ q. value_text q c.in-Some.n) found.0 ∙ ap (λ m. value_text p m) found.1 ∙ is in
    other_bytes c.as_slice.result.now c.as_bytes.result.now c.if-eq.ensures (c.as_slice.ensures.value ∙ pushed ∙ same ∙ sym c.as_bytes.ensures.value)

pub returns-then-eq : goal.returns-then-eq
returns-then-eq c =
    let text = value_text c.in-Some.place c.in-Some.n in
    let pushed = c.in_ok-push_value.ensures ∙ ap (λ l. l ++ text) c.clear.ensures.items in
    let same = same_bytes c.as_slice.result.now c.as_bytes.result.now c.if-eq.ensures in (
      sym pushed ∙ sym c.as_slice.ensures.value ∙ same ∙ c.as_bytes.ensures.value,
      ltb-true _ _ (sym c.if-not-fits.ensures),
      λ p n lt is. let parts = value_cut p n c.args.word.now c.args.rest.now c.requires.word (is ∙ c.requires.text) in pair_first (c.in-Some.ensures p n (small p n lt) parts.0 parts.1),
    )
