use Rattle.std.proofs.Common.{◌≡◌, ◌*◌, ◌%◌, get_or, sym, ap, ◌∙◌}
use Rattle.std.proofs.Math.Nat.{mul_comm}
use Rattle.x64_syntax.specs.Places.{reg_number}
use Rattle.term_core.specs.Value.{T, word_of}
use Rattle.x64_meaning.proofs.Numbers.{addressed}
use Rattle.x64_meaning.proofs.memory.address_sum.Goals as goal
use Rattle.x64_meaning.proofs.memory.address_sum.Goals.{in-Some, in-None}

pub returns : goal.returns
returns c =
    let regs = c.m.inside.regs in
    let base = get_or regs (reg_number c.args.mem.now.base) 0 in
    rw (sym c.m.view_is, c.number.ensures)
    (elim c.match-mem.branch [
      | in-Some w ↦
          let i = w.in-Some in
          let index = get_or regs (reg_number i.index) 0 in
          let scaled : c.match-mem.index ≡ (i.scale * index) % T =
          w.index-is ∙ ap (λ n. (get_or regs n 0 * w.from.result) % T) w.number-in-Some.ensures ∙ ap (λ n. (index * n) % T) w.from.ensures ∙ ap (λ n. n % T) (mul_comm index i.scale) in
          rw i.is (addressed base c.match-mem.index (i.scale * index) c.displacement.result (word_of c.args.mem.now.disp) scaled c.displacement.ensures)
      | in-None w ↦ rw w.in-None.is (addressed base c.match-mem.index 0 c.displacement.result (word_of c.args.mem.now.disp) w.index-is c.displacement.ensures)
    ])
