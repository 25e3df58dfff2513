use Rattle.std.proofs.Common.{◌≡◌, ◌++◌, drop, map}
use Rattle.x64_evaluator.specs.Report.{xmm_line, text_of}
use Rattle.x64_evaluator.proofs.report.push_xmms.Given as goal

-- the text so far and the lines that are left are the whole
abbrev pub invariant-loop-xmm : goal.invariant-loop-xmm
invariant-loop-xmm l = l.out.items ++ text_of (map (xmm_line l.m) (drop l.xmm-index l.xmms)) ≡ l.fn.out.items ++ text_of (map (xmm_line l.m) l.xmms)
