use Rattle.std.proofs.Common.{◌≡◌, ◌++◌, drop, map}
use Rattle.x64_evaluator.specs.Report.{reg_line, text_of}
use Rattle.x64_evaluator.proofs.report.push_regs.Given as goal

-- the text so far and the lines that are left are the whole
abbrev pub invariant-loop-reg : goal.invariant-loop-reg
invariant-loop-reg l = l.out.items ++ text_of (map (reg_line l.m) (drop l.reg-index l.regs)) ≡ l.fn.out.items ++ text_of (map (reg_line l.m) l.regs)
