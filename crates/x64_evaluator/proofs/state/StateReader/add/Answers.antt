use Rattle.std.proofs.Common.{refl}
use Rattle.x64_evaluator.proofs.Following.{add_taken}
use Rattle.x64_evaluator.proofs.state.StateReader.add.Goals as goal

pub returns : goal.returns
returns c ss h = add_taken ss record { base = c.args.base; bytes = c.args.bytes.items } c.add_block.result c.args.self.now _ h c.requires c.add_block.ensures refl
