use Rattle.std.proofs.Common.{sym, ◌∙◌}
use Rattle.x64_syntax.specs.Places.{reg_number, xmm_number}
use Rattle.x64_meaning.proofs.Plain.{address_by_sum}
use Rattle.x64_meaning.proofs.memory.address.Goals as goal

pub returns : goal.returns
returns c =
    let state = c.is_a_state.ensures in
    c.address_sum.ensures ∙ sym (address_by_sum c.args.m.now (record { regs = state.regs; each = λ r. state.regs_fit (reg_number r); wide = λ x. state.xmms_fit (xmm_number x) }) c.args.mem.now)
