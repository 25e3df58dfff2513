use Rattle.std.proofs.Common.{ap, ◌∙◌}
use Rattle.std.specs.Result.{result_ok}
use Rattle.std.proofs.lemmas.Fmt.{parse-decimal_wide}
use Rattle.x64_evaluator.proofs.Texts.{few_digits}
use Rattle.x64_evaluator.proofs.settings.number.Goals as goal

pub returns : goal.returns
returns c n lt is = c.ok.ensures.value ∙ ap result_ok (parse-decimal_wide 128 n c.args.text.now c.parse.result lt (few_digits n lt) is c.parse.ensures.value.0)
