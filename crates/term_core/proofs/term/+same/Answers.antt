use Rattle.term_core.proofs.Comparing.{lengths_differ}
use Rattle.term_core.proofs.term.+same.Goals as goal

pub same_all-returns-then-a-b : goal.same_all-returns-then-a-b
same_all-returns-then-a-b t c = lengths_differ c.args.a.now c.args.b.now c.if-a-b.true
