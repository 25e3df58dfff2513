use Rattle.std.proofs.Common.{arith, ◌%◌}
use Rattle.word_ops.proofs.Shifts.{bits_of_bytes}
use Rattle.word_ops.proofs.wide.picked_byte.Goals as goal

pub returns : goal.returns
returns c = grind (arith, bits_of_bytes (c.args.control % 16))
