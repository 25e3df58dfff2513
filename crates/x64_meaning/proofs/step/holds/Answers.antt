use Rattle.std.proofs.Common.{sym, ◌∙◌}
use Rattle.x64_meaning.proofs.Plain.{cond_by_flags}
use Rattle.x64_meaning.proofs.step.holds.Goals as goal

pub returns : goal.returns
returns c = c.flags_meet.ensures ∙ sym (cond_by_flags c.args.m.now c.args.c)
