use Rattle.std.proofs.Common.{sym, arith}
use Rattle.term_value.proofs.Words.{rol_all}
use Rattle.term_value.proofs.operators.rol.Goals as goal

pub returns-else-n-lt64 : goal.returns-else-n-lt64
returns-else-n-lt64 c = sym (rol_all c.args.a c.args.n (omega arith) (omega (arith, c.if-n-lt64.false)))
