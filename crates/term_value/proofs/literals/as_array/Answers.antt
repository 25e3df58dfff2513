use Rattle.std.proofs.Common.{sym, ap, arith}
use Rattle.term_core.specs.Value.{Array}
use Rattle.term_value.proofs.Words.{words_fit}
use Rattle.term_value.proofs.literals.as_array.Goals as goal

pub returns : goal.returns
returns c = ap Array (sym (words_fit c.args.words.items (λ k lt. omega (arith, lt))))
