use Rattle.std.proofs.Common.{◌≡◌, ◌++◌, drop, map}
use Rattle.x64_evaluator.specs.StateFile.{block_text}
use Rattle.x64_evaluator.specs.Report.{text_of}
use Rattle.x64_evaluator.proofs.report.push_blocks.Given as goal

-- the text so far and the lines that are left are the whole
abbrev pub invariant-loop-k : goal.invariant-loop-k
invariant-loop-k l = l.out.items ++ text_of (map block_text (drop l.k l.blocks)) ≡ l.fn.out.items ++ text_of (map block_text l.blocks)
