use Rattle.std.proofs.Common.{sym}
use Rattle.x64_evaluator.proofs.Following.{value_taken}
use Rattle.x64_evaluator.proofs.state.StateReader.set.Goals as goal

pub returns : goal.returns
returns c ss h = value_taken ss c.args.place c.args.n c.args.self.now _ h c.requires (sym c.if-contains.ensures) c.put.ensures c.with-self.ensures
