use Rattle.std.proofs.Common.{sym, arith}
use Rattle.term_value.proofs.Words.{words_fit}
use Rattle.term_value.proofs.literals.reduced.Goals as goal

pub returns : goal.returns
returns c = sym (words_fit c.args.words.now (λ k lt. omega (arith, c.type_inv.words k)))
