use Rattle.std.proofs.Common.{◌+◌, ◌*◌, sym, rules}
use Rattle.aes_words.proofs.Cells.{digit, AreBytes}
use Rattle.aes_words.proofs.rounds.cell.Goals as goal

pub returns : goal.returns
returns c = let h : AreBytes c.args.state.now = search rules in sym (digit c.args.state.now h (c.args.row + 4 * c.args.column))
