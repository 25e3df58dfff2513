use Rattle.std.proofs.Common.{◌≡◌, ◌++◌, take, drop}
use Rattle.std.specs.Prelude.{map}
use Rattle.word_ops.specs.Words128.{picked_byte, byte, byte_numbers}
use Rattle.word_ops.proofs.wide.shuffle_bytes.Given as goal

abbrev pub invariant-loop-byte : goal.invariant-loop-byte
invariant-loop-byte l = take l.byte-index l.byte-items ++ map (picked_byte l.a) (drop l.byte-index l.byte-items) ≡ map (picked_byte l.a) (map (byte l.c) byte_numbers)
