use Rattle.std.proofs.Common.{sym, ap, ◌∙◌, Some, codes, inl, inr}
use Rattle.hex.specs.Hex.{decode_of}
use Rattle.x64_evaluator.proofs.Taken.{some_items, decoded, not_refused, same_bytes}
use Rattle.x64_evaluator.proofs.settings.bytes_of.Goals as goal

pub returns-then-eq : goal.returns-then-eq
returns-then-eq c bytes are is = ap Some (c.new.ensures.items ∙ sym (some_items bytes (is ∙ same_bytes c.args.digits.now (codes "-") c.if-eq.ensures)))

pub returns-in-Ok : goal.returns-in-Ok
returns-in-Ok c bytes are is = ap Some (decoded bytes c.args.digits.now c.in-Ok.bytes.items are is (sym c.if-eq.ensures) (ap decode_of (sym c.as_bytes.ensures.value) ∙ c.in-Ok.ensures.ok))

pub returns-in_ok-not_for_want_of_memory-in-Err : goal.returns-in_ok-not_for_want_of_memory-in-Err
returns-in_ok-not_for_want_of_memory-in-Err c bytes are is = elim c.in-Err.ensures.err [
  | inl memory ↦ absurd (c.in_ok-not_for_want_of_memory-in-Err.ensures memory)
  | inr refused ↦ absurd (not_refused bytes c.args.digits.now c.in-Err.fault are is (sym c.if-eq.ensures) (ap decode_of (sym c.as_bytes.ensures.value) ∙ refused))
]
