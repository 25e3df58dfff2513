use Rattle.std.proofs.Common.{◌≡◌, ◌∙◌, Some, None, rules}
use Rattle.x64_syntax.specs.inner.Digits.{number_of}
use Rattle.x64_syntax.proofs.Digits.{only_number}
use Rattle.x64_syntax.proofs.text.read_number.Goals as goal

pub returns-in_err-number-clause-only : goal.returns-in_err-number-clause-only
returns-in_err-number-clause-only c n h e =
    let same : c.from_residual.result ≡ number_of c.args.text.now = search rules in
    same ∙ only_number c.args.text.now n h e

pub returns-then-eq-clause-only : goal.returns-then-eq-clause-only
returns-then-eq-clause-only c n h e =
    let same : Some c.in_ok-number.number ≡ number_of c.args.text.now = search rules in
    same ∙ only_number c.args.text.now n h e

pub returns-else-eq-clause-only : goal.returns-else-eq-clause-only
returns-else-eq-clause-only c n h e =
    let same : None ≡ number_of c.args.text.now = search rules in
    same ∙ only_number c.args.text.now n h e
