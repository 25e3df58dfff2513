use Rattle.std.proofs.Common.{sym, arith}
use Rattle.term_value.proofs.Words.{gone_right}
use Rattle.term_value.proofs.operators.shift_right.Goals as goal

pub returns-else-n-lt64 : goal.returns-else-n-lt64
returns-else-n-lt64 c = sym (gone_right c.args.a c.args.n (omega arith) (omega (arith, c.if-n-lt64.false)))
