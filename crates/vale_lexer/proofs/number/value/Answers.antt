use Rattle.std.proofs.Common.{◌+◌, ◌*◌, sym, ◌∙◌, get_or, drop, suc}
use Rattle.vale_syntax.specs.Tokens.{digit}
use Rattle.vale_lexer.proofs.Loops.{value_none, value_some, number_step, number_end}
use Rattle.vale_lexer.proofs.number.value.Goals as goal

pub returns-in_err-value : goal.returns-in_err-value
returns-in_err-value c =
    let digits = c.args.digits.now in
    let next = c.loop-byte.value * c.args.radix + digit (get_or digits c.loop-byte.byte-index 0) in
    let step = number_step c.args.radix c.loop-byte.value c.loop-byte.byte-index digits 0 c.loop-byte-test.true ∙ c.loop-byte.invariant.whole in
    c.from_residual.ensures ∙ value_none c.args.radix next digits (drop (suc c.loop-byte.byte-index) digits) c.requires.positive step (sym c.in_err-value.ensures)

pub returns : goal.returns
returns c =
    value_some c.args.radix c.loop-byte.value c.args.digits.now (number_end c.args.radix c.loop-byte.value c.loop-byte.byte-index c.args.digits.now c.loop-byte-test.false c.loop-byte.invariant.whole) c.loop-byte.invariant.fits
