use Rattle.std.proofs.Common.{◌≡◌, drop}
use Rattle.vale_outside.specs.Plan.{file_bytes}
use Rattle.vale_outside.proofs.named_files.find.Given as goal

-- what the files still to come hold is what all of them do
abbrev pub invariant-loop-file : goal.invariant-loop-file
invariant-loop-file l = file_bytes (drop l.file-index l.files) l.name ≡ file_bytes l.files l.name
