use Rattle.std.proofs.Common.{length}
use Rattle.gas_text.specs.inner.Readers.{sofar, Kept}
use Rattle.gas_text.proofs.Going.{Going}
use Rattle.gas_text.proofs.text.read_in_order.Given as goal

abbrev pub invariant-loop-line : goal.invariant-loop-line
invariant-loop-line l = record {
  going : Going l.text l.rest (sofar l.reader) l.line_number;
  kept : Kept l.reader;
}

abbrev pub decreases-loop-line : goal.decreases-loop-line
decreases-loop-line l = length l.rest
