use Rattle.std.proofs.Common.{arith}
use Rattle.x64_blocks.proofs.Stores.{room, rest_short}
use Rattle.x64_blocks.proofs.block.+le_number.Goals as goal

pub overflow_mul-result : goal.overflow_mul-result
overflow_mul-result t c =
    let small = room _ _ (rest_short c.args.bytes.now c.requires c.in-len1-up.len_at_least) c.le_number.ensures.fits in
    omega (arith, small)

pub overflow_add-result : goal.overflow_add-result
overflow_add-result t c =
    let small = room _ _ (rest_short c.args.bytes.now c.requires c.in-len1-up.len_at_least) c.le_number.ensures.fits in
    let first = c.type_inv.bytes 0 in
    omega (arith, small, first, c.from.ensures)
