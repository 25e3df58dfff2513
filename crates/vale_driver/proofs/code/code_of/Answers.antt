use Rattle.std.proofs.Common.{◌∙◌, ap, map, None}
use Rattle.std.proofs.lemmas.List.{take_all}
use Rattle.x64_syntax.specs.declared.code.Node.TheVariants as node
use Rattle.x64_syntax.specs.inner.Nodes.{prog}
use Rattle.vale_driver.proofs.Built.{nodes_are}
use Rattle.vale_driver.proofs.code.code_of.Goals as goal

pub returns : goal.returns
returns c =
    let all = take_all c.loop-ins.ins-index c.args.instructions.now c.loop-ins-test.false in
    ap prog (c.loop-ins.invariant ∙ ap (map (λ i. node.Ins i None)) all) ∙ nodes_are c.args.instructions.now
