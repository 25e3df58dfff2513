use Rattle.std.proofs.Common.{◌≡◌, ◌++◌, drop, map}
use Rattle.x64_evaluator.specs.Report.{flag_line, text_of}
use Rattle.x64_evaluator.proofs.report.push_flags.Given as goal

-- the text so far and the lines that are left are the whole
abbrev pub invariant-loop-name : goal.invariant-loop-name
invariant-loop-name l = l.out.items ++ text_of (map (flag_line l.m) (drop l.name-index l.flags)) ≡ l.fn.out.items ++ text_of (map (flag_line l.m) l.flags)
