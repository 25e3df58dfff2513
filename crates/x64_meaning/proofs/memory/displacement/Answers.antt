use Rattle.std.proofs.Common.{◌≡◌, SFits, w32, w64, rules, ◌∙◌, ap}
use Rattle.std.proofs.lemmas.Int.{to_z-of_z}
use Rattle.term_core.specs.Value.{word_of}
use Rattle.x64_meaning.proofs.Numbers.{word_of_cast}
use Rattle.x64_meaning.proofs.memory.displacement.Goals as goal

pub returns : goal.returns
returns c =
    let z = c.args.mem.now.disp in
    let short : SFits w32 z = search rules in
    let same : c.from.result ≡ z = simp to_z-of_z at c.from.ensures in
    let fits : SFits w64 c.from.result = search rules in
    let word = simp to_z-of_z at c.cast_unsigned.ensures in
    word ∙ word_of_cast c.from.result fits ∙ ap word_of same
