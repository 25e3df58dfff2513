use Rattle.std.proofs.Common.{◌++◌, sym, ap, ◌∙◌, option_map}
use Rattle.std.proofs.lemmas.Option.{same_Some}
use Rattle.x64_evaluator.specs.StateFile.{range_text, are_bytes}
use Rattle.x64_evaluator.specs.inner.Setting.{range_seen}
use Rattle.x64_evaluator.proofs.Taken.{same_bytes}
use Rattle.x64_evaluator.proofs.settings.range_of.Goals as goal

pub returns-then-eq : goal.returns-then-eq
returns-then-eq c =
    let base = c.in-Some.base in
    let bytes = c.deref.ensures.value in
    let pushed = c.in_ok-push_range.ensures ∙ ap (λ l. l ++ range_text record { base = base; bytes = c.deref.result.now }) c.clear.ensures.items ∙ ap (λ l. range_text record { base = base; bytes = l }) bytes in
    let same = same_bytes c.as_slice.result.now c.as_bytes.result.now c.if-eq.ensures in
    (sym pushed ∙ sym c.as_slice.ensures.value ∙ same ∙ c.as_bytes.ensures.value, ap (λ l. are_bytes record { base = base; bytes = l }) (sym c.deref-2.ensures.value) ∙ c.fit.ensures, λ b are is. same_Some _ _ (ap (option_map range_seen) (sym c.in-Some.is) ∙ c.in_ok-base.ensures b are is))
