use Rattle.std.proofs.Common.{◌≡◌, sym, ap, ◌∙◌, arith, decimal, None, Some, Option, option_map}
use Rattle.std.proofs.lemmas.Str.Pattern.{split_after}
use Rattle.x64_evaluator.specs.StateFile.{bytes_text}
use Rattle.x64_evaluator.proofs.Taken.{base_blankless, range_base, range_bytes}
use Rattle.x64_evaluator.proofs.settings.range_found.Goals as goal

none_is : {X : Type 0} (x : X) → ◌≡◌ {A = Option X} None (Some x) → ⊥
none_is x e = cc

same : {X : Type 0} {x y : X} → ◌≡◌ {A = Option X} (Some x) (Some y) → x ≡ y
same {X = X} {x = x} e = ap part e where
  part : Option X → X
  part (Some z) = z
  part None = x

pub returns-in_default : goal.returns-in_default
returns-in_default c b are is = absurd (split_after 32 c.args.text.now (decimal b.base) (bytes_text b.bytes) None c.in_default.ensures.cases (omega arith) (sym is) (base_blankless b are))

pub returns-in_default-base_of : goal.returns-in_default-base_of
returns-in_default-base_of c b are is =
    let parts = split_after 32 c.args.text.now (decimal b.base) (bytes_text b.bytes) (Some (c.in-Some.base, c.in-Some.digits)) c.in-Some.ensures.cases (omega arith) (sym is) (base_blankless b are) in
    absurd (none_is b.base (c.in_default-base_of.ensures b.base (range_base b are) parts.0))

pub returns-in_default-2 : goal.returns-in_default-2
returns-in_default-2 c b are is =
    let parts = split_after 32 c.args.text.now (decimal b.base) (bytes_text b.bytes) (Some (c.in-Some.base, c.in-Some.digits)) c.in-Some.ensures.cases (omega arith) (sym is) (base_blankless b are) in
    let bytes = c.in_ok-bytes.ensures b.bytes (range_bytes b are) (sym parts.1) in
    absurd (none_is b.bytes (ap (option_map (λ v. v.items)) (sym c.in_default-2.is) ∙ bytes))

pub returns : goal.returns
returns c b are is =
    let parts = split_after 32 c.args.text.now (decimal b.base) (bytes_text b.bytes) (Some (c.in-Some.base, c.in-Some.digits)) c.in-Some.ensures.cases (omega arith) (sym is) (base_blankless b are) in
    let base = c.in-Some-base_of.ensures b.base (range_base b are) parts.0 in
    let bytes = ap (option_map (λ v. v.items)) (sym c.in-Some-2.is) ∙ c.in_ok-bytes.ensures b.bytes (range_bytes b are) (sym parts.1) in
    ap (λ n. Some (record { base = n; bytes = c.in-Some-2.bytes.items })) (same base) ∙ ap (λ l. Some (record { base = b.base; bytes = l })) (same bytes)
