use Rattle.std.proofs.Common.{◌≡◌, ◌++◌, drop, map}
use Rattle.x64_evaluator.specs.Report.{seen_text, text_of}
use Rattle.x64_evaluator.proofs.report.push_trace.Given as goal

-- the text so far and the lines that are left are the whole
abbrev pub invariant-loop-obs : goal.invariant-loop-obs
invariant-loop-obs l = l.out.items ++ text_of (map seen_text (drop l.obs-index l.trace)) ≡ l.fn.out.items ++ text_of (map seen_text l.trace)
