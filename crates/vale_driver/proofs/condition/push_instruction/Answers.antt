use Rattle.std.proofs.Common.{[], ◌∷◌, ◌≡◌, ◌++◌, ◌∙◌, ap, subst}
use Rattle.std.specs.Prelude.{OnOk}
use Rattle.std.proofs.lemmas.List.{map-append}
use Rattle.x64_syntax.specs.declared.places.FlagName.TheVariants.{Cf}
use Rattle.x64_syntax.specs.declared.places.MachinePlace.TheVariants.{Reg, Flag}
use Rattle.term_core.specs.Terms.{tree, trees}
use Rattle.vale_driver.specs.inner.ConditionTerms.{present_versions}
use Rattle.vale_driver.proofs.Present.{pushed_move, addition_built}
use Rattle.vale_driver.proofs.condition.push_instruction.Goals as goal

pub invariant_of-written : goal.invariant_of-written
invariant_of-written c = record { register_fits = c.requires.fits (Reg c.in-Mov.d); flags_fit = c.requires.fits (Flag Cf) }

pub invariant_of-written-in-Alu-Add-default-default : goal.invariant_of-written-in-Alu-Add-default-default
invariant_of-written-in-Alu-Add-default-default c = record { register_fits = c.requires.fits (Reg c.in-Alu-Add-default-default.d); flags_fit = c.requires.fits (Flag Cf) }

pub returns-in_ok-push-in-Mov : goal.returns-in_ok-push-in-Mov
returns-in_ok-push-in-Mov c =
    let t = c.in_ok-moved-in-Mov.field-0 in
    rw c.in-Mov.is
    (ap (λ ts. trees ts) c.in_ok-push-in-Mov.ensures.ok ∙ map-append (λ u. tree u) c.args.hyps.now (t ∷ []) ∙ pushed_move (present_versions c.args.versions.now) c.in-Mov.d c.in-Mov.s (trees c.args.hyps.now) (tree t) c.in_ok-moved-in-Mov.ensures)

pub returns-in-Alu-Add-default-default : goal.returns-in-Alu-Add-default-default
returns-in-Alu-Add-default-default c =
    let i = c.in-Alu-Add-default-default in
    let built = rw i.is at c.requires.built in
    rw i.is
    (subst (λ l. OnOk c.push_addition.result (trees c.push_addition.new.hyps ≡ trees c.args.hyps.now ++ l)) (addition_built (present_versions c.args.versions.now) i.op i.d i.s built) c.push_addition.ensures)
