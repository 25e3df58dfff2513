use Rattle.std.proofs.Common.{sym}
use Rattle.term_store.proofs.store.TermStore.known.Goals as goal

pub returns-in-Some-clause-within : goal.returns-in-Some-clause-within
returns-in-Some-clause-within c = (c.requires.right c.args.id c.in-Some.new (sym c.in-Some.ensures)).1
