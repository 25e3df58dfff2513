use Rattle.std.proofs.Common.{sym, subst}
use Rattle.x64_meaning.specs.inner.Steps.{WouldGet}
use Rattle.x64_blocks.specs.Memory.{load}
use Rattle.x64_meaning.proofs.Foreseeing.{would_get}
use Rattle.x64_meaning.proofs.memory.would_get.Goals as goal

pub returns : goal.returns
returns c =
    subst (λ r. WouldGet (load c.args.m.now.blocks c.args.address c.args.size) c.args.address c.args.size r) (sym c.would_access.ensures) (would_get c.args.m.now.blocks c.args.address c.args.size)
