use Rattle.std.proofs.Common.{sym, ap}
use Rattle.vale_lexer.specs.inner.Lexes.{in_front}
use Rattle.vale_lexer.proofs.Lexing.{skipped, taken, stopped, fault_told}
use Rattle.vale_lexer.proofs.scan.step.Goals as goal

pub returns-in-Skipped : goal.returns-in-Skipped
returns-in-Skipped c =
    let fits = c.in-Skipped.ensures.fits in
    record { some = fits.0; short = fits.1; same = ap (in_front c.args.tokens.now.items) (sym (skipped _ _ _ _ c.requires c.in-Skipped.ensures.value fits.0)) }

pub returns-in_ok-push_token-in-Taken : goal.returns-in_ok-push_token-in-Taken
returns-in_ok-push_token-in-Taken c =
    let fits = c.in-Taken.ensures.fits in
    record { some = fits.0; short = fits.1; same = rw c.in_ok-push_token-in-Taken.ensures (taken _ _ _ _ _ _ c.requires c.in-Taken.ensures.value fits.0) }

pub returns-in-Stopped : goal.returns-in-Stopped
returns-in-Stopped c = rw c.fault.ensures (fault_told _ _ _ (stopped _ _ _ _ c.requires c.in-Stopped.ensures.value))
