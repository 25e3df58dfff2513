use Rattle.x64_syntax.proofs.Bits.{with_reg, with_xmm, with_flag}
use Rattle.x64_syntax.proofs.place_set.PlaceSet.with.Goals as goal

pub returns-in-Reg : goal.returns-in-Reg
returns-in-Reg c = rw (c.in-Reg.is, c.number.ensures) (with_reg c.args.self c.in-Reg.reg)

pub returns-in-Xmm : goal.returns-in-Xmm
returns-in-Xmm c = rw (c.in-Xmm.is, c.number-in-Xmm.ensures) (with_xmm c.args.self c.in-Xmm.xmm)

pub returns-in-Flag : goal.returns-in-Flag
returns-in-Flag c = rw (c.in-Flag.is, c.number-in-Flag.ensures) (with_flag c.args.self c.in-Flag.flag)
