use Rattle.std.proofs.Common.{◌≡◌, subst, arith}
use Rattle.x64_evaluator.specs.StateFile.{setting_text}
use Rattle.x64_evaluator.specs.inner.Setting.{Takes}
use Rattle.x64_evaluator.proofs.Reading.{one_more, stops}
use Rattle.x64_evaluator.proofs.state.read_state.Goals as goal

pub returns-then-not-branch : goal.returns-then-not-branch
returns-then-not-branch c =
    let l = c.loop-rest in
    let so = l.invariant.0 in
    let new = c.take.new.self in
    let takes = subst (λ b. Takes so.settings (λ s. setting_text s ≡ c.first_line.result.0.now) b new) c.if-not-branch.true (c.in_ok-take.ensures so.settings so.holds) in
    record {
      ok = tt;
      state = tt;
      err = stops c.args.bytes.now l.rest.now c.first_line.result.0.now c.first_line.result.1.now l.number l.reader new so c.first_line.ensures.lines takes;
    }

pub loop-rest-preserved : goal.loop-rest-preserved
loop-rest-preserved c =
    let l = c.loop-rest in
    let so = l.invariant.0 in
    let new = c.take.new.self in
    let takes = subst (λ b. Takes so.settings (λ s. setting_text s ≡ c.first_line.result.0.now) b new) c.if-not-branch.false (c.in_ok-take.ensures so.settings so.holds) in
    let few = l.invariant.1 in
    let shorter = c.first_line.ensures.shorter in
    (one_more c.args.bytes.now l.rest.now c.first_line.result.0.now c.first_line.result.1.now l.number l.reader new so c.first_line.ensures.lines takes, omega (arith, few, shorter))
