use Rattle.std.proofs.Common.{◌≡◌, ap, subst, ◌∙◌}
use Rattle.std.specs.Prelude.{IfOk}
use Rattle.x64_syntax.specs.Programs.{program_ok}
use Rattle.gas_text.specs.Gas.{gas_text}
use Rattle.vale_driver.proofs.Built.{program}
use Rattle.vale_driver.proofs.build.text_of.Goals as goal

pub print-requires : goal.print-requires
print-requires c = ap program_ok (c.deref.ensures.value ∙ c.in_ok-items.ensures) ∙ program c.args.program.now c.requires

pub returns : goal.returns
returns c = subst (λ l. IfOk c.print.result (λ text. text.items ≡ gas_text l)) (c.deref.ensures.value ∙ c.in_ok-items.ensures) c.print.ensures
