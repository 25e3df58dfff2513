use Rattle.std.proofs.Common.{sym, subst}
use Rattle.x64_meaning.specs.inner.Steps.{WouldPut}
use Rattle.x64_blocks.specs.Memory.{store}
use Rattle.x64_meaning.proofs.Foreseeing.{would_put}
use Rattle.x64_meaning.proofs.memory.would_put.Goals as goal

pub returns : goal.returns
returns c new same =
    subst (λ r. WouldPut (store c.args.m.now.blocks c.args.address new) c.args.address c.args.size r) (sym c.would_access.ensures) (would_put c.args.m.now.blocks c.args.address c.args.size new same)
