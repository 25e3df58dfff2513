use Rattle.std.proofs.Common.{subst}
use Rattle.x64_meaning.specs.State.{IsState}
use Rattle.x64_meaning.proofs.machine.Machine.is_a_state.Goals as goal

pub returns : goal.returns
returns c = subst IsState c.self.view_is (record {
  regs = c.are_words.ensures.length;
  regs_fit = c.are_words.ensures.fits;
  xmms = c.are_wide_words.ensures.length;
  xmms_fit = c.are_wide_words.ensures.fits;
  flags = c.are_four.ensures;
  blocks = c.are_memory.ensures;
})
