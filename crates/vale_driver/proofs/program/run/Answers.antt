use Rattle.std.proofs.Common.{sym, ap, ◌∙◌, subst}
use Rattle.vale_driver.specs.Words.{form, texts}
use Rattle.vale_driver.specs.Ends.{files, stream, Exactly}
use Rattle.vale_driver.proofs.Quiet.{ends_exactly, usage_exactly}
use Rattle.vale_driver.proofs.program.run.Goals as goal

pub returns-in-Some-clause-exactly : goal.returns-in-Some-clause-exactly
returns-in-Some-clause-exactly g c =
    let words = c.in-Some.ensures.form ∙ ap (λ ws. form (texts ws)) c.deref.ensures.value in
    let new = c.run_command.new in
    let f = files (g.S.Store.tells c.args.store.now) (g.S.Store.faults c.args.store.now) (g.S.Store.faults new.store) in
    let out = stream (g.O.Sink.told c.args.out.now) (g.O.Sink.told new.out) (g.O.Sink.faults c.args.out.now) (g.O.Sink.faults new.out) in
    let err = stream (g.E.Sink.told c.args.err.now) (g.E.Sink.told new.err) (g.E.Sink.faults c.args.err.now) (g.E.Sink.faults new.err) in
    subst (λ w. Exactly w f out err c.run_command.result) words (ends_exactly _ f out err c.run_command.result c.run_command.ensures)

pub returns-in-None-clause-exactly : goal.returns-in-None-clause-exactly
returns-in-None-clause-exactly g c =
    let words = c.in-None.ensures.form ∙ ap (λ ws. form (texts ws)) c.deref.ensures.value in
    usage_exactly _ _ _ _ _ _ (sym words) c.say.ensures
