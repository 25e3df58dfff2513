use Rattle.std.proofs.Common.{◌≡◌, drop}
use Rattle.std.specs.List.{list_all}
use Rattle.vale_driver.specs.Words.{is_value, texts}
use Rattle.vale_driver.proofs.words.are_files.Given as goal

abbrev pub invariant-loop-file : goal.invariant-loop-file
invariant-loop-file l = list_all is_value (texts (drop l.file-index l.files)) ≡ list_all is_value (texts l.files)
