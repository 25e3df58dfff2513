use Rattle.std.proofs.Common.{◌≡◌, take, map, None}
use Rattle.x64_syntax.specs.declared.code.Node.TheVariants as node
use Rattle.vale_driver.proofs.code.code_of.Given as goal

abbrev pub invariant-loop-ins : goal.invariant-loop-ins
invariant-loop-ins l = l.code ≡ map (λ i. node.Ins i None) (take l.ins-index l.instructions)
