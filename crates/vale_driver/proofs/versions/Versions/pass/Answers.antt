use Rattle.std.proofs.Common.{◌≡◌, ap, arith}
use Rattle.x64_syntax.specs.declared.places.FlagName.TheVariants.{Cf}
use Rattle.x64_syntax.specs.declared.places.MachinePlace.TheVariants.{Flag}
use Rattle.vale_driver.specs.inner.ConditionTerms.{present_versions}
use Rattle.vale_driver.proofs.Present.{passed_move, passed_addition}
use Rattle.vale_driver.proofs.versions.Versions.pass.Goals as goal

pub overflow_add-self : goal.overflow_add-self
overflow_add-self c =
    let same : c.write-in-Alu-Add-default-default.new.self.flags ≡ present_versions c.args.self.now (Flag Cf) = ap (λ v. v (Flag Cf)) c.write-in-Alu-Add-default-default.ensures in
    omega (arith, same, c.requires.fits (Flag Cf))

pub returns-in-Mov : goal.returns-in-Mov
returns-in-Mov c = rw c.in-Mov.is (passed_move (present_versions c.args.self.now) (present_versions c.write.new.self) c.in-Mov.d c.in-Mov.s c.write.ensures)

pub returns-in-Alu-Add-default-default : goal.returns-in-Alu-Add-default-default
returns-in-Alu-Add-default-default c =
    let i = c.in-Alu-Add-default-default in
    let built = rw i.is at c.requires.built in
    rw i.is (passed_addition c.write-in-Alu-Add-default-default.new.self.registers c.write-in-Alu-Add-default-default.new.self.flags (present_versions c.args.self.now) i.op i.d i.s built c.write-in-Alu-Add-default-default.ensures)
